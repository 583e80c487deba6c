-- Document 01, "The text": an event as it is written, and a key sequence, read at a position of a line.
-- The recursion with fuel computes what the grammar derives: a reader who believes the relation of grammar/specs/Compiling and the
-- statement of grammar/specs/Exact, which is proved, need not believe the recursion. Out of fuel reads as broken.
use Rattle.std.specs.Prelude.{ℕ, zero, suc, ◌+◌, Bool, true, false, cond, not, ◌&&◌, ◌||◌, List, [], ◌∷◌, ◌++◌, eqb, leb, length, Option, None, Some}
use Rattle.model.specs.Lists.{bytes, same, part, any}
use Rattle.model.specs.Bytes.{is_tab, byte_at, sign_at, run_end, skip}
use Rattle.model.specs.declared.scan.Class.{Class}
use Rattle.model.specs.declared.scan.Lead.{Lead}
use Rattle.model.specs.declared.scan.ModifierRead.{ModifierRead}
use Rattle.model.specs.declared.scan.TypeRead.{TypeRead}
use Rattle.model.specs.declared.scan.CountRead.{CountRead}
use Rattle.model.specs.declared.scan.KeyMark.{KeyMark}
use Rattle.model.specs.declared.scan.KeyRead.{KeyRead}
use Rattle.model.specs.declared.scan.AfterEvent.{AfterEvent}

-- ---- What is written

-- one modifier of a list
pub data Modifier : Type 0 where
  -- a name, with or without `~`
  name : (tilde : Bool) (word : List ℕ) → Modifier
  -- `@` with its run
  keysym : (tilde : Bool) (word : List ℕ) → Modifier

-- "`!`, then `:`, may lead the list. `None` and `Any` stand alone"
pub data ModifierList : Type 0 where
  listed : (bang colon : Bool) (modifiers : List Modifier) → ModifierList
  no_modifier : ModifierList
  any_modifier : ModifierList

-- "at least one digit, then perhaps `+`"
pub record Count : Type 0 where
  pub digits : List ℕ
  pub plus : Bool

-- "An event is modifiers, `<type>`, optional `(count)`, optional detail."
pub record Written : Type 0 where
  pub list : ModifierList
  pub type_name : List ℕ
  pub count : Option Count
  -- no bytes where none is written
  pub detail : List ℕ

-- a character of a key sequence, with what stands before it
pub record KeyChar : Type 0 where
  pub mark : KeyMark
  pub byte : ℕ

-- "A key sequence is one or more characters in double quotes, each a KeyPress."
pub data WrittenEvent : Type 0 where
  event : Written → WrittenEvent
  key : KeyChar → WrittenEvent

-- ---- Modifiers

-- "two modifiers need a blank or `~` between them": only `@` could stand directly after a longest run
abbrev pub joined : List ℕ → ℕ → Bool
joined l end = sign_at l end "@"

unfoldable pub keysym_from : Bool → List ℕ → ℕ → ℕ → ModifierRead
keysym_from tilde l start end =
    cond (eqb end start) ModifierRead.Broken
    (cond (joined l end) ModifierRead.Broken (ModifierRead.Keysym tilde start end))

unfoldable pub name_from : Bool → List ℕ → ℕ → ℕ → ModifierRead
name_from tilde l start end =
    cond (eqb end start)
    (cond (sign_at l start "@") (keysym_from tilde l (start + 1) (run_end Class.Keysym l (start + 1))) ModifierRead.Broken)
    (cond (joined l end) ModifierRead.Broken (ModifierRead.Name tilde start end))

-- a modifier at a position, its `~` read already
unfoldable pub modifier_name_at : Bool → List ℕ → ℕ → ModifierRead
modifier_name_at tilde l at = name_from tilde l at (run_end Class.Name l at)

-- at a position past blanks
unfoldable pub modifier_from : List ℕ → ℕ → ModifierRead
modifier_from l at =
    cond (sign_at l at "<") (ModifierRead.End at)
    (cond (sign_at l at "~") (modifier_name_at true l (skip l (at + 1))) (modifier_name_at false l at))

-- the next modifier, or the `<` that ends the list
unfoldable pub modifier_at : List ℕ → ℕ → ModifierRead
modifier_at l at = modifier_from l (skip l at)

pub data Modifiers : Type 0 where
  broken : Modifiers
  -- the modifiers, and where the `<` stands
  modifiers : List Modifier → ℕ → Modifiers

abbrev pub one_more : Modifier → Modifiers → Modifiers
one_more m broken = broken
one_more m (modifiers ms end) = modifiers (m ∷ ms) end

abbrev pub modifiers_next : List ℕ → ModifierRead → (ℕ → Modifiers) → Modifiers
modifiers_next l ModifierRead.Broken rest = broken
modifiers_next l (ModifierRead.End at) rest = modifiers [] at
modifiers_next l (ModifierRead.Name tilde start end) rest = one_more (name tilde (part l start end)) (rest end)
modifiers_next l (ModifierRead.Keysym tilde start end) rest = one_more (keysym tilde (part l start end)) (rest end)

-- the modifiers from a position on; fuel bounds how many
unfoldable pub modifiers_from : ℕ → List ℕ → ℕ → Modifiers
modifiers_from zero l at = broken
modifiers_from (suc fuel) l at = modifiers_next l (modifier_at l at) (λ p. modifiers_from fuel l p)

abbrev pub modifiers_at : List ℕ → ℕ → Modifiers
modifiers_at l at = modifiers_from (length l + 1) l at

-- `!` at a position past blanks, and `:` after it
unfoldable pub lead_colon : List ℕ → Bool → ℕ → Lead
lead_colon l bang at =
    cond (sign_at l at ":") (record { bang = bang; colon = true; next = at + 1 }) (record { bang = bang; colon = false; next = at })

unfoldable pub lead_from : List ℕ → ℕ → Lead
lead_from l at = cond (sign_at l at "!") (lead_colon l true (skip l (at + 1))) (lead_colon l false at)

unfoldable pub lead_at : List ℕ → ℕ → Lead
lead_at l at = lead_from l (skip l at)

abbrev pub is_named : List ℕ → Modifier → Bool
is_named word (name tilde w) = same w word
is_named word (keysym tilde w) = false

abbrev pub has_tilde : Modifier → Bool
has_tilde (name tilde w) = tilde
has_tilde (keysym tilde w) = tilde

abbrev pub is_none_or_any : Modifier → Bool
is_none_or_any m = is_named (bytes "None") m || is_named (bytes "Any") m

-- one modifier, and no `!`, `:` or `~` beside it
abbrev pub stands_alone : Bool → Bool → List Modifier → Bool
stands_alone bang colon ms = not (bang || colon || any has_tilde ms) && eqb (length ms) 1

abbrev pub lone_list : List Modifier → ModifierList
lone_list ms = cond (any (is_named (bytes "None")) ms) no_modifier any_modifier

-- the list that stands there, none where `None` or `Any` does not stand alone
unfoldable pub list_of : Bool → Bool → List Modifier → Option ModifierList
list_of bang colon ms =
    cond (any is_none_or_any ms)
    (cond (stands_alone bang colon ms) (Some (lone_list ms)) None)
    (Some (listed bang colon ms))

-- ---- `<type>`, count and detail

unfoldable pub type_from : List ℕ → ℕ → ℕ → ℕ → TypeRead
type_from l start end close =
    cond (eqb end start) TypeRead.Broken
    (cond (sign_at l close ">") (TypeRead.Type start end (close + 1)) TypeRead.Broken)

unfoldable pub type_run : List ℕ → ℕ → ℕ → TypeRead
type_run l start end = type_from l start end (skip l end)

unfoldable pub type_name : List ℕ → ℕ → TypeRead
type_name l start = type_run l start (run_end Class.Name l start)

-- the type at a position that holds `<`
unfoldable pub type_at : List ℕ → ℕ → TypeRead
type_at l at = type_name l (skip l (at + 1))

unfoldable pub count_close : List ℕ → ℕ → ℕ → Bool → ℕ → CountRead
count_close l start end plus close =
    cond (sign_at l close ")") (CountRead.Digits start end plus (close + 1)) CountRead.Broken

unfoldable pub count_plus : List ℕ → ℕ → ℕ → ℕ → CountRead
count_plus l start end at =
    cond (sign_at l at "+") (count_close l start end true (skip l (at + 1))) (count_close l start end false at)

unfoldable pub count_run : List ℕ → ℕ → ℕ → CountRead
count_run l start end = cond (eqb end start) CountRead.Broken (count_plus l start end (skip l end))

unfoldable pub count_digits : List ℕ → ℕ → CountRead
count_digits l start = count_run l start (run_end Class.Digit l start)

-- "After `>`, an opening bracket always begins a count"
unfoldable pub count_from : List ℕ → ℕ → CountRead
count_from l at = cond (sign_at l at "(") (count_digits l (skip l (at + 1))) (CountRead.Absent at)

unfoldable pub count_at : List ℕ → ℕ → CountRead
count_at l at = count_from l (skip l at)

-- ---- One event, or one key sequence

-- what stands at a position: no event, or events and where reading goes on
pub data EventsRead : Type 0 where
  broken : EventsRead
  events : List WrittenEvent → ℕ → EventsRead

abbrev pub with_detail : List ℕ → ModifierList → List ℕ → Option Count → ℕ → EventsRead
with_detail l list word count start =
    events
    (event (record { list = list; type_name = word; count = count; detail = part l start (run_end Class.Detail l start) }) ∷ [])
    (run_end Class.Detail l start)

abbrev pub with_count : List ℕ → ModifierList → List ℕ → CountRead → EventsRead
with_count l list word CountRead.Broken = EventsRead.broken
with_count l list word (CountRead.Absent next) = with_detail l list word None (skip l next)
with_count l list word (CountRead.Digits start end plus next) =
    with_detail l list word (Some (record { digits = part l start end; plus = plus })) (skip l next)

abbrev pub with_type : List ℕ → ModifierList → TypeRead → EventsRead
with_type l list TypeRead.Broken = EventsRead.broken
with_type l list (TypeRead.Type start end next) = with_count l list (part l start end) (count_at l next)

abbrev pub with_list : List ℕ → Option ModifierList → ℕ → EventsRead
with_list l None end = EventsRead.broken
with_list l (Some list) end = with_type l list (type_at l end)

abbrev pub with_modifiers : List ℕ → Lead → Modifiers → EventsRead
with_modifiers l lead Modifiers.broken = EventsRead.broken
with_modifiers l lead (modifiers ms end) = with_list l (list_of lead.bang lead.colon ms) end

unfoldable pub plain_event_at : List ℕ → ℕ → EventsRead
plain_event_at l at = with_modifiers l (lead_at l at) (modifiers_at l (lead_at l at).next)

-- a byte that is read after `^`, `\` or `$`: "each takes one further byte", but "A tab inside is not grammar."
unfoldable pub marked_key : List ℕ → KeyMark → ℕ → KeyRead
marked_key l mark at =
    cond (leb (length l) at) KeyRead.Broken
    (cond (is_tab (byte_at l at)) KeyRead.Broken (KeyRead.Key mark (byte_at l at) (at + 1)))

-- the next character of a key sequence, or the quote that ends it
unfoldable pub key_at : List ℕ → ℕ → KeyRead
key_at l at =
    cond (leb (length l) at) KeyRead.Broken
    (cond (sign_at l at "\"") (KeyRead.End (at + 1))
    (cond (sign_at l at "^") (marked_key l KeyMark.Control (at + 1))
    (cond (sign_at l at "\\") (marked_key l KeyMark.Quoted (at + 1))
    (cond (sign_at l at "$") (marked_key l KeyMark.Meta (at + 1))
    (marked_key l KeyMark.Plain at)))))

abbrev pub one_more_key : KeyChar → EventsRead → EventsRead
one_more_key k EventsRead.broken = EventsRead.broken
one_more_key k (events ks next) = events (key k ∷ ks) next

abbrev pub keys_next : KeyRead → (ℕ → EventsRead) → EventsRead
keys_next KeyRead.Broken rest = EventsRead.broken
keys_next (KeyRead.End next) rest = events [] next
keys_next (KeyRead.Key mark b next) rest = one_more_key (record { mark = mark; byte = b }) (rest next)

-- the characters from a position on; fuel bounds how many
unfoldable pub keys_from : ℕ → List ℕ → ℕ → EventsRead
keys_from zero l at = EventsRead.broken
keys_from (suc fuel) l at = keys_next (key_at l at) (λ p. keys_from fuel l p)

-- "one or more characters"
unfoldable pub key_sequence_at : List ℕ → ℕ → EventsRead
key_sequence_at l at = cond (sign_at l at "\"") EventsRead.broken (keys_from (length l + 1) l at)

-- an event or a key sequence, at a position past blanks
unfoldable pub events_from : List ℕ → ℕ → EventsRead
events_from l at = cond (sign_at l at "\"") (key_sequence_at l (at + 1)) (plain_event_at l at)

unfoldable pub events_at : List ℕ → ℕ → EventsRead
events_at l at = events_from l (skip l at)

-- ---- "events parted by commas, a colon"

unfoldable pub after_event_from : List ℕ → ℕ → AfterEvent
after_event_from l at =
    cond (sign_at l at ",") (AfterEvent.Comma (at + 1))
    (cond (sign_at l at ":") (AfterEvent.Colon (at + 1)) AfterEvent.Broken)

unfoldable pub after_event_at : List ℕ → ℕ → AfterEvent
after_event_at l at = after_event_from l (skip l at)

abbrev pub join_events : List WrittenEvent → EventsRead → EventsRead
join_events es EventsRead.broken = EventsRead.broken
join_events es (events fs next) = events (es ++ fs) next

abbrev pub after_events : List WrittenEvent → AfterEvent → (ℕ → EventsRead) → EventsRead
after_events es AfterEvent.Broken rest = EventsRead.broken
after_events es (AfterEvent.Comma next) rest = join_events es (rest next)
after_events es (AfterEvent.Colon next) rest = events es next

abbrev pub left_next : List ℕ → EventsRead → (ℕ → EventsRead) → EventsRead
left_next l EventsRead.broken rest = EventsRead.broken
left_next l (events es next) rest = after_events es (after_event_at l next) rest

-- the events of a production from a position on, to past its colon; fuel bounds how many
unfoldable pub left_from : ℕ → List ℕ → ℕ → EventsRead
left_from zero l at = EventsRead.broken
left_from (suc fuel) l at = left_next l (events_at l at) (λ p. left_from fuel l p)

unfoldable pub left_side : List ℕ → EventsRead
left_side l = left_from (length l + 1) l 0
