-- Document 01, "Merging and writing": the canonical text of a table.
-- A whole table may hold events that no text gives, and how they are written the papers leave open: "choice" marks each place.
-- What every choice has in common: the text goes by the table and its texts within the lengths that it keeps; each event
-- has the form of every other, modifiers, type, count and detail, and stands in its place; all other events, and the calls, are
-- written as ever. Such a text need not compile, and need not read back.
use Rattle.std.specs.Prelude.{ℕ, zero, suc, ◌+◌, ◌/◌, ◌%◌, Bool, true, false, cond, not, ◌&&◌, ◌||◌, List, [], ◌∷◌, ◌++◌, eqb, ltb}
use Rattle.model.specs.Lists.{bytes, is_before, all, those}
use Rattle.model.specs.Codes.{is_key, is_button, motion_notify, has_mode, takes_modifiers}
use Rattle.model.specs.Names.{Entry, name_of, names_with, meta_name, alt_name, hyper_name, super_name, modifier_entries, protocol_entries}
use Rattle.model.specs.Details.{keysym_names, button_entries, motion_entries, mode_entries, request_entries}
use Rattle.model.specs.Modifiers.{bits, is_bit, is_mapped, bit, asks_bit, is_testable}
use Rattle.model.specs.Named.{form_bit, marked_keysym, is_listed, kept_as_written}
use Rattle.model.specs.Tables.{Call, Production, Table}
use Rattle.model.specs.Asking.{part_bytes}
use Rattle.model.specs.declared.scan.Span.{Span}
use Rattle.model.specs.declared.events.Detail.{Detail}
use Rattle.model.specs.declared.events.KeptEvent.{KeptEvent}
use Rattle.model.specs.declared.names.TypeName.{TypeName}
use Rattle.model.specs.declared.names.DetailRead.{DetailRead}

-- parts with a separator between each two
unfoldable pub joined_by : List ℕ → List (List ℕ) → List ℕ
joined_by sep [] = []
joined_by sep (p ∷ []) = p
joined_by sep (p ∷ q ∷ ps) = p ++ (sep ++ joined_by sep (q ∷ ps))

module _ {A : Type 0} where
  -- what each element is written as
  abbrev pub each : (A → List ℕ) → List A → List (List ℕ)
  each write [] = []
  each write (x ∷ xs) = write x ∷ each write xs

-- ---- Numbers

-- "lower-case hexadecimal", and decimal
abbrev pub digit : ℕ → ℕ
digit v = cond (ltb v 10) (48 + v) (87 + v)

-- the digits of a number with no leading zero; fuel bounds how many
unfoldable pub digits_in : ℕ → ℕ → ℕ → List ℕ
digits_in base zero v = []
digits_in base (suc fuel) v =
    cond (ltb v base) (digit v ∷ []) (digits_in base fuel (v / base) ++ (digit (v % base) ∷ []))

-- "`0x` and lower-case hexadecimal": a keysym has at most eight digits
unfoldable pub hexadecimal : ℕ → List ℕ
hexadecimal v = bytes "0x" ++ digits_in 16 8 v

-- "other numbers in decimal": a detail that a table holds has at most nine digits
unfoldable pub decimal : ℕ → List ℕ
decimal v = digits_in 10 9 v

-- ---- Modifiers

-- "in the order Ctrl Shift Lock Mod1..5 Button1..5"
abbrev pub writing_order : List ℕ
writing_order = 2 ∷ 0 ∷ 1 ∷ 3 ∷ 4 ∷ 5 ∷ 6 ∷ 7 ∷ 8 ∷ 9 ∷ 10 ∷ 11 ∷ 12 ∷ []

-- the long name of a modifier bit, which stands before the short one
unfoldable pub bit_name : ℕ → List ℕ
bit_name k = name_of (is_bit k) [] modifier_entries

-- "on codes 2..8 alone `!` (or `!:`) wherever every testable bit is asked set or clear"
unfoldable pub asks_every : KeptEvent → Bool
asks_every e = takes_modifiers e.code && all (λ k. not (is_testable e k) || asks_bit e k) bits

-- R-1: "An event with such a name keeps `!` .. as written"; choice: an event that keeps `!` and no name is written as it is kept too
unfoldable pub writes_bang : KeptEvent → Bool
writes_bang e = cond (kept_as_written e) e.bang (asks_every e)

-- a set bit by its name, a clear one with `~`; choice: a bit asked both set and clear is written as set
abbrev pub bit_text : KeptEvent → ℕ → List ℕ
bit_text e k = cond (bit k e.set) (bit_name k) (bytes "~" ++ bit_name k)

-- after `!` "only set bits listed"; R-1: of an event with names "clear ones too, as written"
abbrev pub is_written_bit : KeptEvent → ℕ → Bool
is_written_bit e k = cond (writes_bang e && not (kept_as_written e)) (bit k e.set) (asks_bit e k)

unfoldable pub bit_texts : KeptEvent → List (List ℕ)
bit_texts e = each (bit_text e) (those (is_written_bit e) writing_order)

-- R-1: "of one name the set form first, each form once"
abbrev pub form_texts : (set clear : Bool) → List ℕ → List (List ℕ)
form_texts set clear text = cond set (text ∷ []) [] ++ cond clear ((bytes "~" ++ text) ∷ []) []

-- the long name of Meta, Alt, Hyper or Super, which stands before the short one
unfoldable pub long_name : ℕ → List ℕ
long_name n = name_of (is_mapped n) [] modifier_entries

abbrev pub name_texts : KeptEvent → ℕ → List (List ℕ)
name_texts e n = form_texts (bit (form_bit false n) e.names) (bit (form_bit true n) e.names) (long_name n)

-- "`@` with hexadecimal keysyms"; R-4: "after `@` it keeps hexadecimal"
abbrev pub keysym_texts : ℕ → List (List ℕ)
keysym_texts s = form_texts (is_listed false s) (is_listed true s) (bytes "@" ++ hexadecimal (marked_keysym s))

-- "Meta, Alt, Hyper, Super, then `@` .., rising"
unfoldable pub names_texts : KeptEvent → List (List ℕ)
names_texts e =
    name_texts e meta_name
    ++ (name_texts e alt_name
    ++ (name_texts e hyper_name
    ++ (name_texts e super_name
    ++ (keysym_texts e.keysyms.first
    ++ (keysym_texts e.keysyms.second
    ++ (keysym_texts e.keysyms.third
    ++ keysym_texts e.keysyms.fourth))))))

-- "one blank between them"; R-1: "The writer puts the names after Button5"
unfoldable pub list_text : KeptEvent → List ℕ
list_text e = joined_by (bytes " ") (bit_texts e ++ names_texts e)

-- "nothing between `!`, `:` and the first modifier"; choice: modifiers on a type that takes none, and a colon on a type that is no
-- key or beside Shift or Lock, are written as on the others
unfoldable pub modifiers_text : KeptEvent → List ℕ
modifiers_text e = cond (writes_bang e) (bytes "!") [] ++ (cond e.colon (bytes ":") [] ++ list_text e)

-- ---- Types and details

abbrev pub is_code_of : ℕ → TypeName → Bool
is_code_of code (TypeName.Known ty) = eqb ty.code code
is_code_of code TypeName.Unknown = false

-- "canonical type names"; "`<BtnMotion>` has no canonical name and keeps its own, unless a button is required set", when the
-- clause isn't kept; choice: a clause on a type that is no motion, or beside a button asked set, is written `BtnMotion` too
unfoldable pub type_text : KeptEvent → List ℕ
type_text e = cond e.clause (bytes "BtnMotion") (name_of (is_code_of e.code) [] protocol_entries)

abbrev pub is_value : ℕ → DetailRead → Bool
is_value v (DetailRead.Value w) = eqb w v
is_value v DetailRead.Unknown = false
is_value v DetailRead.TooLarge = false
is_value v DetailRead.NotBuilt = false

-- "named details by name, other numbers in decimal"
abbrev pub name_or_decimal : List (Entry DetailRead) → ℕ → List ℕ
name_or_decimal entries v = name_of (is_value v) (decimal v) entries

-- the first of some names in byte order, `least` among them
unfoldable pub first_in_order : (least : List ℕ) → List (List ℕ) → List ℕ
first_in_order least [] = least
first_in_order least (n ∷ ns) = first_in_order (cond (is_before n least) n least) ns

-- the first of them in byte order, `other` where there are none
abbrev pub first_name_or : (other : List ℕ) → List (List ℕ) → List ℕ
first_name_or other [] = other
first_name_or other (n ∷ ns) = first_in_order n ns

-- R-4: "For a key detail the writer gives the name where there is one, the first in byte order where two share a value, and
-- hexadecimal otherwise"
unfoldable pub keysym_text : ℕ → List ℕ
keysym_text v = first_name_or (hexadecimal v) (names_with (is_value v) keysym_names)

-- choice: a value on a type that takes no detail is written as one of `<Mapping>` is, and a value out of a type's range in decimal
unfoldable pub value_text : ℕ → ℕ → List ℕ
value_text code v =
    cond (is_key code) (keysym_text v)
    (cond (is_button code) (name_or_decimal button_entries v)
    (cond (eqb code motion_notify) (name_or_decimal motion_entries v)
    (cond (has_mode code) (name_or_decimal mode_entries v) (name_or_decimal request_entries v))))

abbrev pub detail_text : ℕ → Detail → List ℕ
detail_text code Detail.Unspecified = []
detail_text code (Detail.Value v) = value_text code v

-- a count of 1 is not written
unfoldable pub count_text : ℕ → List ℕ
count_text n = cond (ltb 1 n) (bytes "(" ++ (decimal n ++ bytes ")")) []

unfoldable pub event_text : KeptEvent → List ℕ
event_text e =
    modifiers_text e ++ (bytes "<" ++ (type_text e ++ (bytes ">" ++ (count_text e.count ++ detail_text e.code e.detail))))

-- ---- Calls and productions

module _ (first second : List ℕ) where
  -- parameters are always quoted
  unfoldable pub parameter_text : Bool → Span → List ℕ
  parameter_text mark s = bytes "\"" ++ (part_bytes first second mark s ++ bytes "\"")

  unfoldable pub call_text : Call → List ℕ
  call_text c =
      part_bytes first second c.second c.name
      ++ (bytes "(" ++ (joined_by (bytes ",") (each (parameter_text c.second) c.parameters) ++ bytes ")"))

  -- "a comma alone between events"; "each line ended by a newline"
  unfoldable pub production_text : Production → List ℕ
  production_text p =
      joined_by (bytes ",") (each event_text p.events)
      ++ (bytes ":" ++ (joined_by (bytes " ") (each call_text p.calls) ++ bytes "\n"))

  unfoldable pub productions_text : List Production → List ℕ
  productions_text [] = []
  productions_text (p ∷ ps) = production_text p ++ productions_text ps

  -- the canonical text of a table over its texts; no directive is written
  unfoldable pub canonical_text : Table → List ℕ
  canonical_text t = productions_text t.productions
