-- The table of names as the code holds it, computed from the entries of the rules: at each place a name and what it stands for.
use Rattle.std.specs.Prelude.{ℕ, ◌+◌, ◌-◌, ◌*◌, ◌<◌, cond, List, [], ◌∷◌, ◌++◌, map, eqb, ltb, length, take, drop, get_or, Option, Some}
use Prim.Native.String.{String}
use Rattle.model.specs.Lists.{bytes}
use Rattle.model.specs.Names.{Entry}
use Rattle.model.specs.Details.{keysym_entries, button_entries, motion_entries, mode_entries, request_entries}
use Rattle.model.specs.declared.events.Detail.{Detail}
use Rattle.model.specs.declared.events.Directive.{Directive}
use Rattle.model.specs.declared.names.Added.{Added}
use Rattle.model.specs.declared.names.EventType.{EventType}
use Rattle.model.specs.declared.names.DetailRead.{DetailRead}
use Rattle.model.specs.declared.names.ModifierName.{ModifierName}
use Rattle.model.specs.declared.names.TypeName.{TypeName}
use Rattle.names.specs.Groups.{modifier_table, type_table}
use Rattle.names.specs.declared.table.Spelling.{Spelling}
use Rattle.names.specs.declared.rows.TypeNumbers.{TypeNumbers}

module _ {A : Type 0} where
  abbrev pub names_in : List (Entry A) → List (List ℕ)
  names_in es = map (λ (e : Entry A). bytes e.name) es

  abbrev pub meanings_in : List (Entry A) → List A
  meanings_in es = map (λ (e : Entry A). e.meaning) es

-- ---- Names

abbrev pub directive : String → Directive → Entry (Option Directive)
directive n d = record { name = n; meaning = Some d }

-- the directives, in the order of their rule
unfoldable pub directive_entries : List (Entry (Option Directive))
directive_entries =
    directive "#replace" Directive.Replace
    ∷ directive "#override" Directive.Override
    ∷ directive "#augment" Directive.Augment
    ∷ []

-- the names of details and directives, list after list; `None` and `Any`, which stand for no modifier
unfoldable pub other_names : List (List ℕ)
other_names =
    names_in keysym_entries
    ++ (names_in button_entries
    ++ (names_in motion_entries
    ++ (names_in mode_entries
    ++ (names_in request_entries ++ (names_in directive_entries ++ (bytes "None" ∷ bytes "Any" ∷ []))))))

-- the names of every kind, in the order of their places
unfoldable pub all_names : List (List ℕ)
all_names = other_names ++ (names_in modifier_table ++ names_in type_table)

-- the name at a place of the table
unfoldable pub name_row : ℕ → List ℕ
name_row k = get_or all_names k []

-- ---- How names are spelled in the code

-- bytes as one number, the first one lowest
abbrev pub packed : List ℕ → ℕ
packed [] = 0
packed (b ∷ bs) = b + 256 * packed bs

-- a word's length, its first eight bytes and the eight after them
unfoldable pub spelling_of : List ℕ → Spelling
spelling_of w = record { 0 = length w; 1 = packed (take 8 w); 2 = packed (take 8 (drop 8 w)) }

-- every element of a list is a byte
abbrev pub Bytes : List ℕ → Type 0
Bytes l = (i : ℕ) → get_or l i 0 < 256

-- no name is longer than a spelling tells
abbrev pub longest_name : ℕ
longest_name = 16

-- ---- What names stand for

-- a modifier's bit, 0..12, and from 13 on Meta, Alt, Hyper and Super
abbrev pub bit_number : ModifierName → ℕ
bit_number (ModifierName.Bit b) = b
bit_number (ModifierName.Named n) = n + 13
bit_number ModifierName.Unknown = 17

-- the modifier that a type's name adds: a bit, 0..12, or 13 for none, 14 for any button, 15 for Meta
abbrev pub added_number : Added → ℕ
added_number (Added.Modifier b) = b
added_number Added.Nothing = 13
added_number Added.AnyButton = 14
added_number Added.Meta = 15

-- the button that a type's name fixes, 0 for none
abbrev pub fixed_number : Detail → ℕ
fixed_number Detail.Unspecified = 0
fixed_number (Detail.Value v) = v

-- an event type's code, what it adds and what it fixes
abbrev pub numbers_of : TypeName → TypeNumbers
numbers_of (TypeName.Known t) = record { 0 = t.code; 1 = added_number t.added; 2 = fixed_number t.detail }
numbers_of TypeName.Unknown = record { 0 = 0; 1 = 0; 2 = 0 }

unfoldable pub modifier_bits : List ℕ
modifier_bits = map bit_number (meanings_in modifier_table)

unfoldable pub type_numbers : ℕ → TypeNumbers
type_numbers i = numbers_of (get_or (meanings_in type_table) i TypeName.Unknown)

abbrev pub value_number : DetailRead → ℕ
value_number (DetailRead.Value v) = v
value_number DetailRead.Unknown = 0
value_number DetailRead.TooLarge = 0
value_number DetailRead.NotBuilt = 0

-- keysyms, buttons, motion, modes, requests
unfoldable pub detail_values : List ℕ
detail_values =
    map value_number
    (meanings_in keysym_entries
    ++ (meanings_in button_entries
    ++ (meanings_in motion_entries ++ (meanings_in mode_entries ++ meanings_in request_entries))))

-- the directive at a place among the directives
abbrev pub directive_row : ℕ → Directive
directive_row i = cond (eqb i 0) Directive.Replace (cond (eqb i 1) Directive.Override Directive.Augment)

-- ---- The numbers read back: what a place of the table stands for

abbrev pub modifier_of : ℕ → ModifierName
modifier_of n = cond (ltb n 13) (ModifierName.Bit n) (ModifierName.Named (n - 13))

-- the modifier at a place among the modifiers
unfoldable pub modifier_row : ℕ → ModifierName
modifier_row i = modifier_of (get_or modifier_bits i 0)

abbrev pub added_of : ℕ → Added
added_of n =
    cond (ltb n 13) (Added.Modifier n) (cond (eqb n 13) Added.Nothing (cond (eqb n 14) Added.AnyButton Added.Meta))

abbrev pub fixed_of : ℕ → Detail
fixed_of n = cond (eqb n 0) Detail.Unspecified (Detail.Value n)

abbrev pub type_of : TypeNumbers → EventType
type_of t = record { code = t.0; added = added_of t.1; detail = fixed_of t.2 }

-- the event type at a place among the types
unfoldable pub type_row : ℕ → EventType
type_row i = type_of (type_numbers i)
