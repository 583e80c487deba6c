-- The left side, judged from a position on: one turn of the walk over it.
use Prim.Native.Nat.{ℕ, pred, ◌+◌, ◌*◌, ◌≤◌, ◌<◌}
use native.Mathlib.Omega.{arith}
use mathlib.Core.Path.{◌≡◌, refl, subst, ◌∙◌}
use mathlib.Core.Bool.{Bool, false, ◌||◌}
use mathlib.Core.List.{List}
use lib.ListN.{length}
use Rattle.model.specs.Bytes.{byte_at}
use Rattle.model.specs.Events.{EventsRead, events, events_at, after_event_at, left_from, left_side}
use Rattle.model.specs.declared.scan.AfterEvent.{AfterEvent}
use Rattle.event_scanner.specs.declared.left.LeftRead.{LeftRead}
use Rattle.event_scanner.specs.LeftSide.{event_step, left_of}
use Rattle.scanner.proofs.Ranges.{AfterIn, after_in}
use Rattle.event_scanner.proofs.LeftSide.{left_step, left_step_lem}
use Rattle.lines.specs.declared.left.LeftJudged.{LeftJudged}
use Rattle.lines.specs.declared.left.StepJudged.{StepJudged}
use Rattle.lines.specs.Left.{IsRead, finished, side_judged, step_judged}
use Rattle.lines.proofs.Kept.{side_from, side_start, after_turn, left_turn_lem, step_after, step_broken}
use Rattle.lines.proofs.Steps.{StepIn, step_in}

-- at a position, after n events that are m elements, or after one that is crowded; what follows need not be in the grammar
pub record LeftAt (l : List ℕ) (at : ℕ) (o : Bool) (n m : ℕ) : Type 0 where
  pub fuel : ℕ
  pub enough : length l < fuel + at
  pub inside : at ≤ length l
  pub events : n ≤ at
  pub elements : m ≤ 18 * at
  pub side : left_of (left_side l) ≡ left_of (left_from fuel l at)
  pub whole : IsRead (left_side l) → side_judged (left_side l) ≡ side_from o n m (left_from fuel l at)

pub left_start : (l : List ℕ) → LeftAt l 0 false 0 0
unfolding left_side
left_start l =
    record {
      fuel = length l + 1;
      enough = omega arith;
      inside = omega arith;
      events = omega arith;
      elements = omega arith;
      side = refl;
      whole = λ h. side_start (left_from (length l + 1) l 0);
    }

-- whether a side is in the grammar shows at its end
same_read : (r s : EventsRead) → left_of r ≡ left_of s → IsRead r → IsRead s
same_read EventsRead.broken s e h = absurd h
same_read (events es next) EventsRead.broken e h = let z : ◌≡◌ {A = ℕ} 0 1 = cc in absurd (omega arith)
same_read (events es next) (events fs end) e h = tt

pub left_is_read : (r : EventsRead) (next : ℕ) → left_of r ≡ LeftRead.Left next → IsRead r
left_is_read EventsRead.broken next e = let z : ◌≡◌ {A = ℕ} 0 1 = cc in absurd (omega arith)
left_is_read (events es end) next e = tt

module _ (l : List ℕ) (at : ℕ) (o : Bool) (n m : ℕ) (h : LeftAt l at o n m) where
  still_read : IsRead (left_side l) → IsRead (left_from h.fuel l at)
  still_read r = same_read (left_side l) (left_from h.fuel l at) h.side r

  side_step : (a : AfterEvent) → event_step l at ≡ a → left_of (left_side l) ≡ left_step a (λ p. left_of (left_from (pred h.fuel) l p))
  side_step a e = h.side ∙ left_step_lem h.fuel l at a (omega (arith, h.enough, h.inside)) e

  pub left_refused : (k : ℕ) → step_judged (events_at l at) ≡ StepJudged.Refuse k → IsRead (left_side l)
      → side_judged (left_side l) ≡ LeftJudged.Refuse k
  left_refused k e r =
      h.whole r ∙ left_turn_lem o n m h.fuel l at (StepJudged.Refuse k) (omega (arith, h.enough, h.inside)) (still_read r) e

  pub left_broken : step_judged (events_at l at) ≡ StepJudged.Broken → left_of (left_side l) ≡ LeftRead.Broken
  left_broken e = side_step AfterEvent.Broken (step_broken l at e)

  module _ (a b : ℕ) (one : Bool) (next : ℕ) (e : step_judged (events_at l at) ≡ StepJudged.Keep a b one next) where
    turned : IsRead (left_side l) → side_judged (left_side l)
        ≡ after_turn (one || o) (n + a) (m + b) (after_event_at l next) (λ c i j p. side_from c i j (left_from (pred h.fuel) l p))
    turned r =
        h.whole r ∙ left_turn_lem o n m h.fuel l at (StepJudged.Keep a b one next) (omega (arith, h.enough, h.inside)) (still_read r) e

    side_after : (x : AfterEvent) → after_event_at l next ≡ x → left_of (left_side l) ≡ left_step x (λ p. left_of (left_from (pred h.fuel) l p))
    side_after x q = side_step x (step_after l at a b one next e ∙ q)

    pub after_broken : after_event_at l next ≡ AfterEvent.Broken → left_of (left_side l) ≡ LeftRead.Broken
    after_broken q = side_after AfterEvent.Broken q

    pub left_colon : (p : ℕ) → after_event_at l next ≡ AfterEvent.Colon p
        → (left_of (left_side l) ≡ LeftRead.Left p) × (side_judged (left_side l) ≡ finished (one || o) (n + a) (m + b))
    left_colon p q =
        let s = side_after (AfterEvent.Colon p) q in
        (s, rw q at (turned (left_is_read (left_side l) p s)))

    module _ (bytes : (k : ℕ) → byte_at l k < 256) where
      pub step_bounds : (at + a ≤ next) × (b ≤ 18 * a) × (next ≤ length l)
      step_bounds = subst (StepIn (length l) at) e (step_in l at bytes h.inside)

      module _ (p : ℕ) (q : after_event_at l next ≡ AfterEvent.Comma p) where
        pub comma_bounds : (next < p) × (p ≤ length l)
        comma_bounds = subst (AfterIn (length l) next) q (after_in l next)

        pub left_comma : LeftAt l p (one || o) (n + a) (m + b)
        left_comma =
            let s = step_bounds in
            let t = comma_bounds in
            record {
              fuel = pred h.fuel;
              enough = omega (arith, h.enough, s.0, t.0);
              inside = t.1;
              events = omega (arith, h.events, s.0, t.0);
              elements = omega (arith, h.elements, s.0, s.1, t.0);
              side = side_after (AfterEvent.Comma p) q;
              whole = λ r. rw q at (turned r);
            }
