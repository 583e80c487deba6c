-- Where the parts of an event lie: in order, and within the line.
use Prim.Native.Nat.{ℕ, ◌+◌, ◌≤◌, ◌<◌}
use native.Mathlib.Omega.{arith}
use mathlib.Core.Path.{subst}
use mathlib.Core.List.{List}
use mathlib.Core.Bool.{Bool}
use lib.ListN.{length}
use Rattle.model.specs.Bytes.{skip, sign_at}
use Rattle.model.specs.Events.{EventsRead, events, lead_at, modifiers_at, type_at, count_at, keys_from, events_at}
use Rattle.model.specs.declared.scan.Class.{Class}
use Rattle.model.specs.declared.scan.TypeRead.{TypeRead}
use Rattle.model.specs.declared.scan.CountRead.{CountRead}
use Rattle.list_scanner.specs.declared.lists.ListRead.{ListRead}
use Rattle.event_scanner.specs.declared.events.Part.{Part}
use Rattle.event_scanner.specs.declared.events.ListSpans.{ListSpans}
use Rattle.event_scanner.specs.declared.events.CountSpan.{CountSpan}
use Rattle.event_scanner.specs.declared.events.EventSpans.{EventSpans}
use Rattle.event_scanner.specs.declared.events.EventRead.{EventRead}
use Rattle.list_scanner.specs.ModifierLists.{summed, list_from}
use Rattle.event_scanner.specs.Spans.{detail_spans, count_spans, type_spans, with_list_read, list_spans, plain_spans, keyed, keys_spans, key_spans, spans_from, spans_at, read_of}
use Rattle.scanner.proofs.Runs.{run_from, run_in, skip_from, skip_in}
use Rattle.scanner.proofs.Ranges.{cond_in, lead_in, TypeIn, type_in_lem, CountIn, count_in_lem}
use Rattle.list_scanner.proofs.ListSteps.{ListIn, list_in_lem}
use Rattle.event_scanner.proofs.KeyCounts.{KeysIn, keys_in}
use Rattle.event_scanner.proofs.Meaning.{spans_read}

-- the digits of a count, past the type's name
abbrev pub CountSpanIn : ℕ → ℕ → CountSpan → Type 0
CountSpanIn n from CountSpan.Absent = Unit
CountSpanIn n from (CountSpan.Digits start end plus) = (from < start) × (start < end) × (end < n)

-- the parts of an event that is read from a position of a line of n bytes
pub record PlainIn (n at : ℕ) (s : EventSpans) : Type 0 where
  pub list : at ≤ s.list.start
  pub name_from : s.list.start < s.name.start
  pub name : s.name.start < s.name.end
  pub count : CountSpanIn n s.name.end s.count
  pub detail_from : s.name.end < s.detail.start
  pub detail : s.detail.start ≤ s.detail.end
  pub within : s.detail.end ≤ n

abbrev pub EventIn : ℕ → ℕ → EventRead → Type 0
EventIn n at EventRead.Broken = Unit
EventIn n at (EventRead.Plain s) = PlainIn n at s
EventIn n at (EventRead.Keys start count next) = (at < start) × (start + count < next) × (next ≤ n)

module _ (l : List ℕ) (at : ℕ) (list : ListSpans) (from : at ≤ list.start) where
  detail_in : (name : Part) (count : CountSpan) (p : ℕ) → list.start < name.start → name.start < name.end
      → CountSpanIn (length l) name.end count → name.end < p → p ≤ length l
      → EventIn (length l) at (detail_spans l list name count (skip l p))
  detail_in name count p a b d e f =
      let s = skip_from l p in
      let s' = skip_in l p f in
      record {
        list = from;
        name_from = a;
        name = b;
        count = d;
        detail_from = omega arith;
        detail = run_from Class.Detail l (skip l p);
        within = run_in Class.Detail l (skip l p) s';
      }

  count_spans_in : (name : Part) (p : ℕ) (r : CountRead) → list.start < name.start → name.start < name.end → name.end < p
      → CountIn (length l) p r → EventIn (length l) at (count_spans l list name r)
  count_spans_in name p CountRead.Broken a b e h = tt
  count_spans_in name p (CountRead.Absent next) a b e h = detail_in name CountSpan.Absent next a b tt (omega (arith, h.0)) h.1
  count_spans_in name p (CountRead.Digits start end plus next) a b e h =
      detail_in name (CountSpan.Digits start end plus) next a b
      (omega (arith, h.0), h.1, omega (arith, h.2, h.3))
      (omega (arith, h.0, h.1, h.2))
      h.3

  type_spans_in : (p : ℕ) (r : TypeRead) → list.start ≤ p → TypeIn (length l) p r → EventIn (length l) at (type_spans l list r)
  type_spans_in p TypeRead.Broken a h = tt
  type_spans_in p (TypeRead.Type start end next) a h =
      count_spans_in (record { start = start; end = end }) next (count_at l next) (omega (arith, h.0)) h.1 h.2 (count_in_lem l next h.3)

list_read_in : (l : List ℕ) (at : ℕ) (bang colon : Bool) (start : ℕ) (r : ListRead) → at ≤ start → ListIn (length l) start r
    → EventIn (length l) at (with_list_read l bang colon start r)
list_read_in l at bang colon start ListRead.Broken f h = tt
list_read_in l at bang colon start (ListRead.List kind end) f h =
    type_spans_in l at (record { kind = kind; bang = bang; colon = colon; start = start }) f end (type_at l end) h.0 (type_in_lem l end h.1)

plain_in : (l : List ℕ) (from at : ℕ) → from ≤ at → at ≤ length l → EventIn (length l) from (plain_spans l at)
unfolding plain_spans list_spans
plain_in l from at f h =
    let k = lead_in l at h in
    list_read_in l from (lead_at l at).bang (lead_at l at).colon (lead_at l at).next
    (list_from (lead_at l at).bang (lead_at l at).colon (summed (modifiers_at l (lead_at l at).next)))
    (omega (arith, k.0))
    (list_in_lem l (lead_at l at).bang (lead_at l at).colon (lead_at l at).next k.1)

keyed_in : (n from at : ℕ) (r : EventsRead) → from < at → KeysIn n at r → EventIn n from (keys_spans at (keyed r))
keyed_in n from at EventsRead.broken f h = tt
keyed_in n from at (events ks next) f h = (f, h.0, h.1)

key_sequence_in : (l : List ℕ) (from at : ℕ) → from < at → EventIn (length l) from (key_spans l at)
unfolding key_spans
key_sequence_in l from at f =
    cond_in (EventIn (length l) from) (sign_at l at "\"")
    (λ e. tt)
    (λ e. keyed_in (length l) from at (keys_from (length l + 1) l at) f (keys_in (length l + 1) l at))

pub spans_in_lem : (l : List ℕ) (at : ℕ) → at ≤ length l → EventIn (length l) at (spans_at l at)
unfolding spans_at spans_from
spans_in_lem l at h =
    let s = skip_from l at in
    cond_in (EventIn (length l) at) (sign_at l (skip l at) "\"")
    (λ e. key_sequence_in l at (skip l at + 1) (omega arith))
    (λ e. plain_in l at (skip l at) s (skip_in l at h))

-- ---- The events of the model: reading goes on past where it began

abbrev pub EventsIn : ℕ → ℕ → EventsRead → Type 0
EventsIn n at EventsRead.broken = Unit
EventsIn n at (events es next) = (at < next) × (next ≤ n)

read_in : (l : List ℕ) (at : ℕ) (r : EventRead) → EventIn (length l) at r → EventsIn (length l) at (read_of l r)
read_in l at EventRead.Broken h = tt
read_in l at (EventRead.Plain s) h =
    (omega (arith, h.list, h.name_from, h.name, h.detail_from, h.detail), h.within)
read_in l at (EventRead.Keys start count next) h = (omega (arith, h.0, h.1), h.2)

pub events_in_lem : (l : List ℕ) (at : ℕ) → at ≤ length l → EventsIn (length l) at (events_at l at)
events_in_lem l at h = subst (EventsIn (length l) at) (spans_read l at) (read_in l at (spans_at l at) (spans_in_lem l at h))
