-- Request R-1: which bits a name stands for under the maps in use.
--
-- An example: a modifier map of 16 entries, two a row, and of the keyboard map the pairs of four keycodes
--
--     row   bit       keycodes        50   (0xffe1, 0)        the left Shift
--     0     Shift     50 0            64   (0xffe9, 0xffe7)   the left Alt, and the left Meta with Shift
--     1     Lock      0 0             108  (0xffea, 0)        the right Alt
--     3     Mod1      64 108          133  (0xffeb, 0)        the left Super
--     6     Mod4      133 0
--
-- Meta and Alt are Mod1, Super is Mod4, `@0xffe1` is Shift, and Hyper has no bit. An entry 0 is unused.
use Rattle.std.specs.Prelude.{ℕ, ◌*◌, ◌/◌, ◌%◌, Bool, not, ◌&&◌, ◌||◌, List, [], ◌∷◌, eqb, length, take, drop}
use Rattle.model.specs.Lists.{any}
use Rattle.model.specs.Limits.{modifier_rows, row_limit}
use Rattle.model.specs.Bytes.{in_range}
use Rattle.model.specs.Names.{meta_name, alt_name, hyper_name, super_name}
use Rattle.model.specs.Modifiers.{bits, bit}
use Rattle.model.specs.Named.{form_bit, marked_keysym, is_listed}
use Rattle.model.specs.Setting.{Setting, first_keysym, second_keysym}
use Rattle.model.specs.declared.events.KeptEvent.{KeptEvent}

-- ---- The modifier map

-- number 18, "a modifier map of another length or with an entry 1..7": "eight rows of equal length, 1 to 8 keycodes"
unfoldable pub is_bad_map : List ℕ → Bool
is_bad_map map =
    not (eqb (length map % modifier_rows) 0)
    || not (in_range modifier_rows (length map) (modifier_rows * row_limit))
    || any (λ c. in_range 1 c 7) map

-- the keycodes of the row of bit k
unfoldable pub row_of : List ℕ → ℕ → List ℕ
row_of map k = take (length map / modifier_rows) (drop (k * (length map / modifier_rows)) map)

-- ---- Names

-- a name of an event: what it may stand for, and how it is listed
pub record ListedName : Type 0 where
  pub keysyms : List ℕ
  pub set : Bool
  pub clear : Bool

-- "(left or right)", values from keysymdef.h
abbrev pub named_modifier : KeptEvent → ℕ → (left right : ℕ) → ListedName
named_modifier e n left right =
    record {
      keysyms = left ∷ right ∷ [];
      set = bit (form_bit Bool.false n) e.names;
      clear = bit (form_bit Bool.true n) e.names;
    }

abbrev pub named_keysym : ℕ → ListedName
named_keysym s = record { keysyms = marked_keysym s ∷ []; set = is_listed Bool.false s; clear = is_listed Bool.true s }

-- all names that an event may list, those that it does not list too
unfoldable pub names_of : KeptEvent → List ListedName
names_of e =
    named_modifier e meta_name 0xffe7 0xffe8
    ∷ named_modifier e alt_name 0xffe9 0xffea
    ∷ named_modifier e hyper_name 0xffed 0xffee
    ∷ named_modifier e super_name 0xffeb 0xffec
    ∷ named_keysym e.keysyms.first
    ∷ named_keysym e.keysyms.second
    ∷ named_keysym e.keysyms.third
    ∷ named_keysym e.keysyms.fourth
    ∷ []

-- ---- Their bits

-- "a keycode .. whose pair as lent holds the named keysym"
abbrev pub holds_keysym : List ℕ → ℕ → ℕ → Bool
holds_keysym keyboard keycode v = eqb (first_keysym keyboard keycode) v || eqb (second_keysym keyboard keycode) v

-- "0 unused"
unfoldable pub keycode_holds : List ℕ → List ℕ → ℕ → Bool
keycode_holds keyboard keysyms keycode = not (eqb keycode 0) && any (holds_keysym keyboard keycode) keysyms

-- "every modifier bit with a keycode in its row whose pair as lent holds the named keysym"
unfoldable pub has_bit : Setting → ListedName → ℕ → Bool
has_bit setting n k = any (keycode_holds setting.keyboard n.keysyms) (row_of setting.modifiers k)

-- "A name with no bit, listed without `~`"
unfoldable pub is_unmet : Setting → ListedName → Bool
is_unmet setting n = n.set && not (any (has_bit setting n) bits)

-- the bit is one of a name that the event lists without `~`, with it, or either way
unfoldable pub resolves_set : Setting → KeptEvent → ℕ → Bool
resolves_set setting e k = any (λ n. n.set && has_bit setting n k) (names_of e)

unfoldable pub resolves_clear : Setting → KeptEvent → ℕ → Bool
resolves_clear setting e k = any (λ n. n.clear && has_bit setting n k) (names_of e)

abbrev pub resolves : Setting → KeptEvent → ℕ → Bool
resolves setting e k = resolves_set setting e k || resolves_clear setting e k
