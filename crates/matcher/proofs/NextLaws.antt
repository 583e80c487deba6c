-- The state that an accepted call gives is whole, whatever the table.
use Prim.Native.Nat.{ℕ, ◌+◌, ◌<◌}
use native.Mathlib.Omega.{arith}
use borrow.Author.Tests.{eq-eqb}
use mathlib.Core.Path.{◌≡◌, refl}
use mathlib.Core.Bool.{Bool, true, false, cond, ◌&&◌}
use Rattle.std.specs.Prelude.{Option, None, Some}
use mathlib.Core.List.{List, [], ◌∷◌}
use lib.Dec.{eqb}
use lib.ListN.{length, drop, length-drop}
use lib.Seq.{get_or-drop}
use Rattle.records.specs.Ranges.{EventRanges}
use Rattle.records.proofs.Ranges.{read_ranges}
use Rattle.model.specs.Setting.{Setting}
use Rattle.model.specs.Tables.{Table}
use Rattle.model.specs.Records.{record_read}
use Rattle.model.specs.Selection.{Reading}
use Rattle.model.specs.Matching.{reading_of}
use Rattle.model.specs.Demand.{MatchCall}
use Rattle.model.specs.declared.events.Event.{Event}
use Rattle.model.specs.declared.answers.RecordRead.{RecordRead}
use Rattle.machine.specs.Kept.{Kept, left, longest_end, grown, used_up, unused, reopened, moved, choice, marked, kept, step_number, act, stepped}
use Rattle.machine.proofs.Bounded.{stepped_bounded}
use Rattle.tables.specs.Reading.{decode}
use Rattle.states.specs.declared.State.{State}
use Rattle.states.specs.State.{zero_event, kept_of, state_keeping, whole_state}
use Rattle.acting.specs.Act.{step_answer}
use Rattle.matcher.specs.Match.{match_number, call_answer}
use Rattle.acting.proofs.MoveLaws.{ranges_left}
use Rattle.matcher.proofs.MatchLaws.{past_all}
use Rattle.states.proofs.StateLaws.{InRanges, ranges_tail, ranges_more, state_facts, kept_ranges, kept_bounded, bounded_whole}

-- ---- Events in range

ranges_drop : (n : ℕ) (xs : List Event) → InRanges xs → InRanges (drop n xs)
ranges_drop n xs r i h =
    let b : n + i < length xs = omega (arith, length-drop n xs) in
    rw (get_or-drop n xs i zero_event) (r (n + i) b)

module _ (R : Reading Event) where
  ranges_longest : (xs : List Event) → InRanges xs → InRanges (longest_end R xs)
  unfolding longest_end
  ranges_longest [] r = r
  ranges_longest (x ∷ xs) r = go (R.prefix (x ∷ xs)) (ranges_longest xs (ranges_tail x xs r))
    where
      go : (b : Bool) → InRanges (longest_end R xs) → InRanges (cond b (x ∷ xs) (longest_end R xs))
      go true i = r
      go false i = i

  ranges_reopened : (moving : Bool) (rest end : List Event) → InRanges rest → InRanges end
      → InRanges (reopened R moving rest end).events
  ranges_reopened true rest [] r e = r
  ranges_reopened false rest [] r e = e
  ranges_reopened moving rest (y ∷ ys) r e = e

  ranges_moved : (k : Kept Event) (x : Event) → InRanges k.events → EventRanges x → InRanges (moved R k x).events
  unfolding moved
  ranges_moved k x r e = go (k.is_open && R.prefix (grown R k x))
    where
      rest : InRanges (unused R k x)
      rest = ranges_drop (used_up R k) (grown R k x) (ranges_more k.events x r e)

      go : (b : Bool)
          → InRanges (cond {A = Kept Event} b (record { events = grown R k x; selected = k.selected; is_open = true })
          (reopened R (R.motion x) (unused R k x) (longest_end R (unused R k x)))).events
      go true = ranges_more k.events x r e
      go false =
          ranges_reopened (R.motion x) (unused R k x) (longest_end R (unused R k x)) rest (ranges_longest (unused R k x) rest)

  ranges_marked : (k : Kept Event) (o : Option ℕ) → InRanges k.events → InRanges (marked R k o).events
  ranges_marked k None r = r
  ranges_marked k (Some p) r = r

  ranges_kept : (k : Kept Event) (x : Event) → InRanges k.events → EventRanges x → InRanges (kept R k x).events
  unfolding kept
  ranges_kept k x r e =
      ranges_marked (moved R (left R k x) x) (choice R k x) (ranges_moved (left R k x) x (ranges_left R k x r) e)

-- ---- One call

module _ (t : Table) (setting : Setting) (k : Kept Event) (r : InRanges k.events) where
  ranges_act : (bytes : List ℕ) (order : ℕ) (read : RecordRead) → record_read bytes order ≡ read
      → InRanges (act t setting k read).next.events
  ranges_act bytes order (RecordRead.Refused n) e = r
  ranges_act bytes order (RecordRead.Event x) e = go ((reading_of t setting).known x) refl
    where
      go : (b : Bool) → (reading_of t setting).known x ≡ b → InRanges (act t setting k (RecordRead.Event x)).next.events
      go true q = rw q (ranges_kept (reading_of t setting) k x r (read_ranges bytes order x e))
      go false q = rw q r

  pub stepped_ranges : (c : MatchCall) → InRanges (stepped t setting k c).next.events
  unfolding stepped
  stepped_ranges c = go (eqb (step_number t setting k c) 0) refl
    where
      go : (b : Bool) → eqb (step_number t setting k c) 0 ≡ b → InRanges (stepped t setting k c).next.events
      go true q = rw q (ranges_act c.bytes c.order (record_read c.bytes c.order) refl)
      go false q = rw q r

-- the state after a step from a whole state
pub step_whole : (t : Table) (setting : Setting) (s : State) (c : MatchCall) → whole_state s ≡ true
    → whole_state (state_keeping (stepped t setting (kept_of s) c).next) ≡ true
step_whole t setting s c w =
    let f = state_facts s w in
    bounded_whole (stepped t setting (kept_of s) c).next
    (stepped_bounded t setting (kept_of s) (kept_bounded s f) c)
    (stepped_ranges t setting (kept_of s) (kept_ranges s f) c)

pub accepted_whole : (table : List ℕ) (setting : Setting) (s : State) (c : MatchCall)
    → match_number table setting s c ≡ 0 → whole_state (call_answer table setting s c).state ≡ true
unfolding call_answer step_answer
accepted_whole table setting s c e =
    rw (eq-eqb (match_number table setting s c) 0 e)
    (step_whole (decode table) setting s c (past_all table setting s c e).0.state_whole)
