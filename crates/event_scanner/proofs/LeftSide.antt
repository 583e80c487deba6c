-- The left side of a production, one event at a time.
use Prim.Native.Nat.{ℕ, zero, suc, pred, ◌+◌, ◌≤◌, ◌<◌}
use native.Mathlib.Omega.{arith}
use mathlib.Core.Path.{◌≡◌, refl, ap, ◌∙◌}
use mathlib.Core.List.{List}
use lib.ListN.{length}
use Rattle.model.specs.Events.{WrittenEvent, EventsRead, events, events_at, after_event_at, join_events, after_events, left_next, left_from, left_side}
use Rattle.model.specs.declared.scan.AfterEvent.{AfterEvent}
use Rattle.event_scanner.specs.declared.left.LeftRead.{LeftRead}
use Rattle.event_scanner.specs.LeftSide.{step_of, event_step, left_of}
use Rattle.scanner.proofs.Ranges.{AfterIn, after_in}
use Rattle.event_scanner.proofs.EventRanges.{EventsIn, events_in_lem}

-- the rest of the side goes on after a comma
abbrev pub left_step : AfterEvent → (ℕ → LeftRead) → LeftRead
left_step AfterEvent.Broken rest = LeftRead.Broken
left_step (AfterEvent.Comma next) rest = rest next
left_step (AfterEvent.Colon next) rest = LeftRead.Left next

join_left : (es : List WrittenEvent) (r : EventsRead) → left_of (join_events es r) ≡ left_of r
join_left es EventsRead.broken = refl
join_left es (events fs next) = refl

after_left : (es : List WrittenEvent) (r : AfterEvent) (rest : ℕ → EventsRead)
    → left_of (after_events es r rest) ≡ left_step r (λ p. left_of (rest p))
after_left es AfterEvent.Broken rest = refl
after_left es (AfterEvent.Comma next) rest = join_left es (rest next)
after_left es (AfterEvent.Colon next) rest = refl

next_left : (l : List ℕ) (r : EventsRead) (rest : ℕ → EventsRead)
    → left_of (left_next l r rest) ≡ left_step (step_of l r) (λ p. left_of (rest p))
next_left l EventsRead.broken rest = refl
next_left l (events es next) rest = after_left es (after_event_at l next) rest

pub left_step_lem : (f : ℕ) (l : List ℕ) (at : ℕ) (r : AfterEvent) → 0 < f → event_step l at ≡ r
    → left_of (left_from f l at) ≡ left_step r (λ p. left_of (left_from (pred f) l p))
unfolding left_from event_step
left_step_lem zero l at r h e = absurd (omega arith)
left_step_lem (suc f) l at r h e =
    next_left l (events_at l at) (λ p. left_from f l p) ∙ ap (λ (s : AfterEvent). left_step s (λ p. left_of (left_from f l p))) e

step_in : (l : List ℕ) (at : ℕ) (r : EventsRead) → EventsIn (length l) at r → AfterIn (length l) at (step_of l r)
step_in l at EventsRead.broken h = tt
step_in l at (events es next) h = go (after_event_at l next) (after_in l next)
  where
    go : (r : AfterEvent) → AfterIn (length l) next r → AfterIn (length l) at r
    go AfterEvent.Broken k = tt
    go (AfterEvent.Comma p) k = (omega (arith, h.0, k.0), k.1)
    go (AfterEvent.Colon p) k = (omega (arith, h.0, k.0), k.1)

pub event_step_in : (l : List ℕ) (at : ℕ) → at ≤ length l → AfterIn (length l) at (event_step l at)
unfolding event_step
event_step_in l at h = step_in l at (events_at l at) (events_in_lem l at h)

-- ---- Where the side ends

abbrev pub LeftIn : ℕ → ℕ → LeftRead → Type 0
LeftIn n at LeftRead.Broken = Unit
LeftIn n at (LeftRead.Left next) = (at < next) × (next ≤ n)

left_past : (n at p : ℕ) (r : LeftRead) → at ≤ p → LeftIn n p r → LeftIn n at r
left_past n at p LeftRead.Broken h k = tt
left_past n at p (LeftRead.Left next) h k = (omega (arith, k.0), k.1)

left_next_in : (n at : ℕ) (r : AfterEvent) (rest : ℕ → LeftRead) → AfterIn n at r → ((p : ℕ) → p ≤ n → LeftIn n p (rest p))
    → LeftIn n at (left_step r rest)
left_next_in n at AfterEvent.Broken rest h k = tt
left_next_in n at (AfterEvent.Comma p) rest h k = left_past n at p (rest p) (omega (arith, h.0)) (k p h.1)
left_next_in n at (AfterEvent.Colon p) rest h k = h

left_from_in : (f : ℕ) (l : List ℕ) (at : ℕ) → at ≤ length l → LeftIn (length l) at (left_of (left_from f l at))
unfolding left_from event_step
left_from_in zero l at h = tt
left_from_in (suc f) l at h =
    rw (next_left l (events_at l at) (λ p. left_from f l p))
    (left_next_in (length l) at (step_of l (events_at l at)) (λ p. left_of (left_from f l p)) (event_step_in l at h) (λ p k. left_from_in f l p k))

pub left_in : (l : List ℕ) → LeftIn (length l) 0 (left_of (left_side l))
unfolding left_side
left_in l = left_from_in (length l + 1) l 0 (omega arith)
