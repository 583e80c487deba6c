-- Request R-1: the names whose bits the modifier map gives, as a written list has them and as an event keeps them: Meta, Alt,
-- Hyper and Super as eight bits, and keysyms after `@` as numbers with two marks. Their meaning is in Resolving.
--
-- An example: `~m @0x100 m ~@b a @a<Key>` keeps
--
--     names     Meta (bit 0), Alt (bit 1), Meta with `~` (bit 4): 19
--     keysyms   0x20000061   0x61, listed
--               0x40000062   0x62, listed with `~`
--               0x20000100   0x100, listed
--               0            none
use Rattle.std.specs.Prelude.{ℕ, ◌+◌, ◌/◌, ◌%◌, Bool, true, false, cond, not, ◌||◌, ◌&&◌, List, [], ◌∷◌, eqb, ltb, length, get_or}
use Rattle.model.specs.Lists.{any, is_empty}
use Rattle.model.specs.Limits.{keysyms_of_event_limit}
use Rattle.model.specs.Names.{meta_name, modifier_named}
use Rattle.model.specs.Details.{key_detail}
use Rattle.model.specs.Events.{Modifier, name, keysym, ModifierList}
use Rattle.model.specs.Modifiers.{sum_bits, modifiers_of}
use Rattle.model.specs.declared.names.Added.{Added}
use Rattle.model.specs.declared.names.ModifierName.{ModifierName}
use Rattle.model.specs.declared.names.DetailRead.{DetailRead}
use Rattle.model.specs.declared.events.Keysyms.{Keysyms}
use Rattle.model.specs.declared.events.KeptEvent.{KeptEvent}

-- ---- Meta, Alt, Hyper, Super

-- a name listed is bit n, listed with `~` bit 4 + n
abbrev pub form_bits : List ℕ
form_bits = 0 ∷ 1 ∷ 2 ∷ 3 ∷ 4 ∷ 5 ∷ 6 ∷ 7 ∷ []

abbrev pub form_bit : (tilde : Bool) → ℕ → ℕ
form_bit tilde n = cond tilde (n + 4) n

abbrev pub is_form : ℕ → (tilde : Bool) → ModifierName → Bool
is_form k tilde (ModifierName.Bit n) = false
is_form k tilde (ModifierName.Named n) = eqb (form_bit tilde n) k
is_form k tilde ModifierName.Unknown = false

abbrev pub lists_form : ℕ → Modifier → Bool
lists_form k (name tilde word) = is_form k tilde (modifier_named word)
lists_form k (keysym tilde word) = false

-- `<Meta>`
abbrev pub adds_meta : Added → Bool
adds_meta Added.Nothing = false
adds_meta (Added.Modifier k) = false
adds_meta Added.AnyButton = false
adds_meta Added.Meta = true

-- "`<Meta>` and `$` read as Meta listed"
abbrev pub adds_form : Added → ℕ → Bool
adds_form added k = adds_meta added && eqb k (form_bit false meta_name)

unfoldable pub names_mask : ModifierList → Added → ℕ
names_mask list added = sum_bits (λ k. any (lists_form k) (modifiers_of list) || adds_form added k) form_bits

-- ---- Keysyms after `@`

abbrev pub listed_mark : (tilde : Bool) → ℕ
listed_mark false = 0x20000000
listed_mark true = 0x40000000

-- the keysym of a number with marks
abbrev pub marked_keysym : ℕ → ℕ
marked_keysym s = s % 0x20000000

-- it is listed, without `~` or with it
abbrev pub is_listed : (tilde : Bool) → ℕ → Bool
is_listed tilde s = eqb (s / listed_mark tilde % 2) 1

abbrev pub mark_listed : (tilde : Bool) → ℕ → ℕ
mark_listed tilde s = cond (is_listed tilde s) s (s + listed_mark tilde)

-- "rising, .. each form once": a keysym takes its place among others, or its mark where it has one already
unfoldable pub with_keysym : (tilde : Bool) → ℕ → List ℕ → List ℕ
with_keysym tilde v [] = (v + listed_mark tilde) ∷ []
with_keysym tilde v (s ∷ ss) =
    cond (ltb v (marked_keysym s)) ((v + listed_mark tilde) ∷ s ∷ ss)
    (cond (eqb v (marked_keysym s)) (mark_listed tilde s ∷ ss) (s ∷ with_keysym tilde v ss))

-- "After `@` the run in 01 is read as a key detail is"
abbrev pub with_read : (tilde : Bool) → DetailRead → List ℕ → List ℕ
with_read tilde (DetailRead.Value v) ss = with_keysym tilde v ss
with_read tilde DetailRead.Unknown ss = ss
with_read tilde DetailRead.TooLarge ss = ss
with_read tilde DetailRead.NotBuilt ss = ss

abbrev pub with_modifier : List ℕ → Modifier → List ℕ
with_modifier ss (name tilde word) = ss
with_modifier ss (keysym tilde word) = with_read tilde (key_detail word) ss

-- those of modifiers, after others
unfoldable pub keysyms_from : List ℕ → List Modifier → List ℕ
keysyms_from ss [] = ss
keysyms_from ss (m ∷ ms) = keysyms_from (with_modifier ss m) ms

unfoldable pub keysyms_of : ModifierList → List ℕ
keysyms_of list = keysyms_from [] (modifiers_of list)

-- "over four different keysyms in an event is 11"
unfoldable pub is_crowded : ModifierList → Bool
is_crowded list = ltb keysyms_of_event_limit (length (keysyms_of list))

abbrev pub keysyms_in : List ℕ → Keysyms
keysyms_in ss = record { first = get_or ss 0 0; second = get_or ss 1 0; third = get_or ss 2 0; fourth = get_or ss 3 0 }

abbrev pub no_keysyms : Keysyms
no_keysyms = record { first = 0; second = 0; third = 0; fourth = 0 }

-- ---- "An event with such a name"

-- as it is written
unfoldable pub has_names : ModifierList → Added → Bool
has_names list added = not (eqb (names_mask list added) 0) || not (is_empty (keysyms_of list))

-- as it is kept
abbrev pub keeps_names : KeptEvent → Bool
keeps_names e = not (eqb e.names 0) || not (eqb e.keysyms.first 0)

-- it keeps "`!` and its plain names, clear ones too, as written"
abbrev pub kept_as_written : KeptEvent → Bool
kept_as_written e = e.bang || keeps_names e
