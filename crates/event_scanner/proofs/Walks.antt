-- What a second walk over a line that was read may rely on: nothing that it meets is broken.
use Prim.Native.Nat.{ℕ, zero, suc, pred, ◌+◌, ◌<◌}
use native.Mathlib.Omega.{arith}
use mathlib.Core.Path.{◌≡◌, refl, sym, ap, ◌∙◌}
use mathlib.Core.List.{List}
use mathlib.Core.Bool.{Bool}
use lib.ListN.{length}
use Rattle.model.specs.Bytes.{skip, sign_at}
use Rattle.model.specs.Events.{Modifiers, modifiers, EventsRead, events, lead_at, modifiers_at, type_at, count_at, keys_from, events_at, left_next, left_from}
use Rattle.model.specs.declared.scan.TypeRead.{TypeRead}
use Rattle.model.specs.declared.scan.CountRead.{CountRead}
use Rattle.list_scanner.specs.declared.lists.ListRead.{ListRead}
use Rattle.event_scanner.specs.declared.keys.KeysRead.{KeysRead}
use Rattle.event_scanner.specs.declared.events.Part.{Part}
use Rattle.event_scanner.specs.declared.events.ListSpans.{ListSpans}
use Rattle.event_scanner.specs.declared.events.EventRead.{EventRead}
use Rattle.list_scanner.specs.ModifierLists.{summed, list_from, modifiers_in}
use Rattle.event_scanner.specs.Spans.{count_spans, type_spans, with_list_read, list_spans, plain_spans, keyed, keys_spans, key_spans, spans_from, spans_at, events_in}
use Rattle.scanner.proofs.Ranges.{cond_in}

-- ---- Events

-- the modifiers from a position on are in the grammar
abbrev pub ModifiersStand : List ℕ → ℕ → Type 0
ModifiersStand l at = (end : ℕ) × (modifiers_at l at ≡ modifiers (modifiers_in (modifiers_at l at)) end)

-- the modifiers of an event are in the grammar, and so are the characters of a key sequence
abbrev pub Stands : List ℕ → EventRead → Type 0
Stands l EventRead.Broken = Unit
Stands l (EventRead.Plain s) = ModifiersStand l s.list.start
Stands l (EventRead.Keys start count next) = keyed (keys_from (length l + 1) l start) ≡ KeysRead.Keys count next

count_stands : (l : List ℕ) (list : ListSpans) (name : Part) (r : CountRead) → ModifiersStand l list.start
    → Stands l (count_spans l list name r)
count_stands l list name CountRead.Broken h = tt
count_stands l list name (CountRead.Absent next) h = h
count_stands l list name (CountRead.Digits start end plus next) h = h

type_stands : (l : List ℕ) (list : ListSpans) (r : TypeRead) → ModifiersStand l list.start → Stands l (type_spans l list r)
type_stands l list TypeRead.Broken h = tt
type_stands l list (TypeRead.Type start end next) h = count_stands l list (record { start = start; end = end }) (count_at l next) h

list_stands : (l : List ℕ) (bang colon : Bool) (start : ℕ) (r : ListRead) → ModifiersStand l start
    → Stands l (with_list_read l bang colon start r)
list_stands l bang colon start ListRead.Broken h = tt
list_stands l bang colon start (ListRead.List kind end) h =
    type_stands l (record { kind = kind; bang = bang; colon = colon; start = start }) (type_at l end) h

plain_stands : (l : List ℕ) (bang colon : Bool) (start : ℕ) → Stands l (list_spans l bang colon start)
unfolding list_spans
plain_stands l bang colon start = go (modifiers_at l start) refl
  where
    go : (m : Modifiers) → modifiers_at l start ≡ m → Stands l (with_list_read l bang colon start (list_from bang colon (summed m)))
    go Modifiers.broken e = tt
    go (modifiers ms end) e =
        list_stands l bang colon start (list_from bang colon (summed (modifiers ms end)))
        (end, e ∙ ap (λ (m : Modifiers). modifiers (modifiers_in m) end) (sym e))

keyed_stands : (l : List ℕ) (at : ℕ) (r : KeysRead) → keyed (keys_from (length l + 1) l at) ≡ r → Stands l (keys_spans at r)
keyed_stands l at KeysRead.Broken e = tt
keyed_stands l at (KeysRead.Keys count next) e = e

pub spans_stand : (l : List ℕ) (at : ℕ) → Stands l (spans_at l at)
unfolding spans_at spans_from key_spans plain_spans
spans_stand l at =
    let p = skip l at in
    cond_in (Stands l) (sign_at l p "\"")
    (λ e.
    cond_in (Stands l) (sign_at l (p + 1) "\"")
    (λ j. tt)
    (λ j. keyed_stands l (p + 1) (keyed (keys_from (length l + 1) l (p + 1))) refl))
    (λ e. plain_stands l (lead_at l p).bang (lead_at l p).colon (lead_at l p).next)

-- what was counted is there
pub keyed_good : (r : EventsRead) (count next : ℕ) → keyed r ≡ KeysRead.Keys count next
    → (r ≡ events (events_in r) next) × (length (events_in r) ≡ count)
keyed_good EventsRead.broken count next e = let z : ◌≡◌ {A = ℕ} 0 1 = cc in absurd (omega arith)
keyed_good (events ks p) count next e = (cc, cc)

-- ---- The left side

pub events_step : (f : ℕ) (l : List ℕ) (at : ℕ) (r : EventsRead) → 0 < f → events_at l at ≡ r
    → left_from f l at ≡ left_next l r (λ p. left_from (pred f) l p)
unfolding left_from
events_step zero l at r h e = absurd (omega arith)
events_step (suc f) l at r h e = rw e
