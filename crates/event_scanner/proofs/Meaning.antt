-- The parts that the code reads of an event stand for the events of the model.
use Prim.Native.Nat.{ℕ, ◌+◌}
use mathlib.Core.Path.{◌≡◌, refl, ap, ◌∙◌}
use mathlib.Core.List.{List}
use mathlib.Core.Bool.{Bool, true, false, cond}
use Rattle.std.specs.Prelude.{None, Some}
use lib.ListN.{length}
use Rattle.model.specs.Lists.{bytes, any}
use Rattle.model.specs.Bytes.{skip, sign_at}
use Rattle.model.specs.Events.{Modifier, Modifiers, modifiers, no_modifier, any_modifier, listed, has_tilde, is_named, is_none_or_any, stands_alone, list_of, EventsRead, events, lead_at, modifiers_at, type_at, count_at, with_count, with_type, with_list, with_modifiers, plain_event_at, keys_from, key_sequence_at, events_from, events_at}
use Rattle.model.specs.declared.scan.TypeRead.{TypeRead}
use Rattle.model.specs.declared.scan.CountRead.{CountRead}
use Rattle.list_scanner.specs.declared.lists.ListKind.{ListKind}
use Rattle.list_scanner.specs.declared.lists.ListRead.{ListRead}
use Rattle.event_scanner.specs.declared.events.Part.{Part}
use Rattle.event_scanner.specs.declared.events.ListSpans.{ListSpans}
use Rattle.list_scanner.specs.ModifierLists.{summed, list_end, list_from, modifiers_in}
use Rattle.event_scanner.specs.Spans.{count_spans, type_spans, with_list_read, list_spans, plain_spans, keyed, keys_spans, key_spans, spans_from, spans_at, list_in, part_in, events_in, read_of}

count_read : (l : List ℕ) (list : ListSpans) (name : Part) (r : CountRead)
    → read_of l (count_spans l list name r) ≡ with_count l (list_in l list) (part_in l name) r
count_read l list name CountRead.Broken = refl
count_read l list name (CountRead.Absent next) = refl
count_read l list name (CountRead.Digits start end plus next) = refl

type_read : (l : List ℕ) (list : ListSpans) (r : TypeRead) → read_of l (type_spans l list r) ≡ with_type l (list_in l list) r
type_read l list TypeRead.Broken = refl
type_read l list (TypeRead.Type start end next) = count_read l list (record { start = start; end = end }) (count_at l next)

module _ (l : List ℕ) (bang colon : Bool) (start : ℕ) (ms : List Modifier) (end : ℕ) (e : modifiers_in (modifiers_at l start) ≡ ms) where
  of_kind : ListKind → ListSpans
  of_kind kind = record { kind = kind; bang = bang; colon = colon; start = start }

  pick_read : (lone stands is_none : Bool)
      → read_of l
      (with_list_read l bang colon start
      (cond lone
      (cond stands (ListRead.List (cond is_none ListKind.NoModifier ListKind.AnyModifier) end) ListRead.Broken)
      (ListRead.List ListKind.Listed end)))
      ≡ with_list l
      (cond lone (cond stands (Some (cond is_none no_modifier any_modifier)) None) (Some (listed bang colon ms)))
      end
  unfolding of_kind
  pick_read true true true = type_read l (of_kind ListKind.NoModifier) (type_at l end)
  pick_read true true false = type_read l (of_kind ListKind.AnyModifier) (type_at l end)
  pick_read true false is_none = refl
  pick_read false stands is_none =
      type_read l (of_kind ListKind.Listed) (type_at l end) ∙ ap (λ (m : List Modifier). with_type l (listed bang colon m) (type_at l end)) e

  end_read :
      read_of l
      (with_list_read l bang colon start
      (list_end bang colon (length ms) (any has_tilde ms) (any (is_named (bytes "None")) ms) (any is_none_or_any ms) end))
      ≡ with_list l (list_of bang colon ms) end
  unfolding list_end list_of
  end_read = pick_read (any is_none_or_any ms) (stands_alone bang colon ms) (any (is_named (bytes "None")) ms)

list_read : (l : List ℕ) (bang colon : Bool) (start : ℕ)
    → read_of l (list_spans l bang colon start)
    ≡ with_modifiers l (record { bang = bang; colon = colon; next = start }) (modifiers_at l start)
unfolding list_spans
list_read l bang colon start = go (modifiers_at l start) refl
  where
    go : (m : Modifiers) → modifiers_at l start ≡ m
        → read_of l (with_list_read l bang colon start (list_from bang colon (summed m)))
        ≡ with_modifiers l (record { bang = bang; colon = colon; next = start }) m
    go Modifiers.broken e = refl
    go (modifiers ms end) e = end_read l bang colon start ms end (ap modifiers_in e)

plain_read : (l : List ℕ) (at : ℕ) → read_of l (plain_spans l at) ≡ plain_event_at l at
unfolding plain_spans plain_event_at
plain_read l at = list_read l (lead_at l at).bang (lead_at l at).colon (lead_at l at).next

keys_read : (l : List ℕ) (at : ℕ) → read_of l (keys_spans at (keyed (keys_from (length l + 1) l at))) ≡ keys_from (length l + 1) l at
keys_read l at = go (keys_from (length l + 1) l at) refl
  where
    go : (r : EventsRead) → keys_from (length l + 1) l at ≡ r → read_of l (keys_spans at (keyed r)) ≡ r
    go EventsRead.broken e = refl
    go (events ks next) e = ap (λ (r : EventsRead). events (events_in r) next) e

-- two answers under one test
cond_read : {A B : Type 0} (f : A → B) (t : Bool) {x y : A} {u v : B} → f x ≡ u → f y ≡ v → f (cond t x y) ≡ cond t u v
cond_read f true p q = p
cond_read f false p q = q

key_sequence_read : (l : List ℕ) (at : ℕ) → read_of l (key_spans l at) ≡ key_sequence_at l at
unfolding key_spans key_sequence_at
key_sequence_read l at = cond_read (read_of l) (sign_at l at "\"") refl (keys_read l at)

pub spans_read : (l : List ℕ) (at : ℕ) → read_of l (spans_at l at) ≡ events_at l at
unfolding spans_at spans_from events_at events_from
spans_read l at =
    cond_read (read_of l) (sign_at l (skip l at) "\"") (key_sequence_read l (skip l at + 1)) (plain_read l (skip l at))
