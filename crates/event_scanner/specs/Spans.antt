-- An event or a key sequence as the parts of its line, and which events of the model these are.
use Rattle.std.specs.Prelude.{ℕ, ◌+◌, Bool, cond, List, [], ◌∷◌, length, Option, None, Some}
use Rattle.model.specs.Lists.{part}
use Rattle.model.specs.Bytes.{run_end, skip, sign_at}
use Rattle.model.specs.Events.{ModifierList, Count, WrittenEvent, event, EventsRead, events, lead_at, modifiers_at, type_at, count_at, keys_from}
use Rattle.model.specs.declared.scan.Class.{Class}
use Rattle.model.specs.declared.scan.TypeRead.{TypeRead}
use Rattle.model.specs.declared.scan.CountRead.{CountRead}
use Rattle.list_scanner.specs.ModifierLists.{summed, list_from, modifiers_in, list_of_kind}
use Rattle.list_scanner.specs.declared.lists.ListRead.{ListRead}
use Rattle.event_scanner.specs.declared.keys.KeysRead.{KeysRead}
use Rattle.event_scanner.specs.declared.events.Part.{Part}
use Rattle.event_scanner.specs.declared.events.ListSpans.{ListSpans}
use Rattle.event_scanner.specs.declared.events.CountSpan.{CountSpan}
use Rattle.event_scanner.specs.declared.events.EventRead.{EventRead}

-- ---- The parts, read in order

abbrev pub detail_spans : List ℕ → ListSpans → Part → CountSpan → ℕ → EventRead
detail_spans l list name count start =
    EventRead.Plain
    (record { list = list; name = name; count = count; detail = record { start = start; end = run_end Class.Detail l start } })

abbrev pub count_spans : List ℕ → ListSpans → Part → CountRead → EventRead
count_spans l list name CountRead.Broken = EventRead.Broken
count_spans l list name (CountRead.Absent next) = detail_spans l list name CountSpan.Absent (skip l next)
count_spans l list name (CountRead.Digits start end plus next) =
    detail_spans l list name (CountSpan.Digits start end plus) (skip l next)

abbrev pub type_spans : List ℕ → ListSpans → TypeRead → EventRead
type_spans l list TypeRead.Broken = EventRead.Broken
type_spans l list (TypeRead.Type start end next) = count_spans l list (record { start = start; end = end }) (count_at l next)

abbrev pub with_list_read : List ℕ → Bool → Bool → ℕ → ListRead → EventRead
with_list_read l bang colon start ListRead.Broken = EventRead.Broken
with_list_read l bang colon start (ListRead.List kind end) =
    type_spans l (record { kind = kind; bang = bang; colon = colon; start = start }) (type_at l end)

-- from the first modifier on
unfoldable pub list_spans : List ℕ → Bool → Bool → ℕ → EventRead
list_spans l bang colon at = with_list_read l bang colon at (list_from bang colon (summed (modifiers_at l at)))

unfoldable pub plain_spans : List ℕ → ℕ → EventRead
plain_spans l at = list_spans l (lead_at l at).bang (lead_at l at).colon (lead_at l at).next

-- how many characters a key sequence has
abbrev pub keyed : EventsRead → KeysRead
keyed EventsRead.broken = KeysRead.Broken
keyed (events ks next) = KeysRead.Keys (length ks) next

abbrev pub keys_spans : ℕ → KeysRead → EventRead
keys_spans start KeysRead.Broken = EventRead.Broken
keys_spans start (KeysRead.Keys count next) = EventRead.Keys start count next

-- past the opening quote
unfoldable pub key_spans : List ℕ → ℕ → EventRead
key_spans l at = cond (sign_at l at "\"") EventRead.Broken (keys_spans at (keyed (keys_from (length l + 1) l at)))

-- at a position past blanks
unfoldable pub spans_from : List ℕ → ℕ → EventRead
spans_from l at = cond (sign_at l at "\"") (key_spans l (at + 1)) (plain_spans l at)

unfoldable pub spans_at : List ℕ → ℕ → EventRead
spans_at l at = spans_from l (skip l at)

-- ---- What the parts stand for

abbrev pub list_in : List ℕ → ListSpans → ModifierList
list_in l s = list_of_kind s.kind s.bang s.colon (modifiers_in (modifiers_at l s.start))

abbrev pub count_in : List ℕ → CountSpan → Option Count
count_in l CountSpan.Absent = None
count_in l (CountSpan.Digits start end plus) = Some (record { digits = part l start end; plus = plus })

abbrev pub part_in : List ℕ → Part → List ℕ
part_in l p = part l p.start p.end

abbrev pub events_in : EventsRead → List WrittenEvent
events_in EventsRead.broken = []
events_in (events es next) = es

-- the events of the model that what was read stands for
abbrev pub read_of : List ℕ → EventRead → EventsRead
read_of l EventRead.Broken = EventsRead.broken
read_of l (EventRead.Plain s) =
    events
    (event (record { list = list_in l s.list; type_name = part_in l s.name; count = count_in l s.count; detail = part_in l s.detail })
    ∷ [])
    s.detail.end
read_of l (EventRead.Keys start count next) = events (events_in (keys_from (length l + 1) l start)) next
