-- A state never keeps more than 24 events, nor a mark past them, whatever the table; an open context has an event, and where
-- none is open nothing is used up, and what is kept ends in a motion.
use Prim.Native.Nat.{ℕ, pred, ◌≤◌, ◌<◌}
use native.Mathlib.Omega.{arith}
use borrow.Author.Tests.{ltb-false, eqb-true, eqb-false, not-true, not-false}
use mathlib.Core.Path.{◌≡◌, refl, sym, ap, ◌∙◌}
use mathlib.Core.Bool.{Bool, true, false, cond, not, ◌&&◌, false≢true}
use Rattle.std.specs.Prelude.{Option, None, Some}
use mathlib.Core.List.{List, [], ◌∷◌}
use lib.Dec.{eqb, ltb}
use lib.ListN.{length, length-drop}
use Rattle.model.specs.Tables.{Table}
use Rattle.model.specs.Records.{record_read}
use Rattle.model.specs.Setting.{Setting}
use Rattle.model.specs.Selection.{Reading, ends_in, without_last, falls_back}
use Rattle.model.specs.Matching.{reading_of}
use Rattle.model.specs.Demand.{MatchCall, call_checks}
use Rattle.model.specs.declared.events.Event.{Event}
use Rattle.model.specs.declared.answers.RecordRead.{RecordRead}
use Rattle.machine.specs.Kept.{Kept, fresh, context_limit, Bounded, shortened, left, longest_end, grown, used_up, unused, reopened, moved, chosen_in, choice, marked, kept, keeps_too_many, passes_context, step_number, act, stepped}
use Rattle.machine.proofs.Falls.{falls_within, falls_zero}
use Rattle.machine.proofs.Checks.{none_applies}
use Rattle.machine.proofs.Tests.{and_right}
use Rattle.machine.proofs.Lists.{length_snoc, length_without, ends_snoc, ends_some, ends_drop}

pub bounded_fresh : {E : Type 0} (motion : E → Bool) → Bounded motion fresh
bounded_fresh motion =
    record {
      few = omega arith;
      within = omega arith;
      opened = λ o. absurd (false≢true o);
      shut = λ o. refl;
      replaceable = λ o l. absurd (omega (arith, l));
    }

-- ---- What is left

-- what is left need not end in a motion where no context is open, but the event has room
pub record LeftBounded {E : Type 0} (k : Kept E) : Type 0 where
  pub few : length k.events ≤ context_limit
  pub roomy : k.is_open ≡ false → length k.events < context_limit
  pub within : k.selected ≤ length k.events
  pub opened : k.is_open ≡ true → 0 < length k.events
  pub shut : k.is_open ≡ false → k.selected ≡ 0

module _ {E : Type 0} (R : Reading E) where
  shortened_bounded : (k : Kept E) → Bounded R.motion k → 0 < length k.events → LeftBounded (shortened R k)
  shortened_bounded k b some-kept =
      record {
        few = omega (arith, b.few, n);
        roomy = λ o. omega (arith, b.few, n, some-kept);
        within = omega (arith, w, n);
        opened = λ o. omega (arith, n, some-kept, eqb-false (length k.events) 1 (not-true _ (and_right k.is_open _ o)));
        shut = λ o. go k.is_open refl o;
      }
    where
      n : length (without_last k.events) ≡ pred (length k.events)
      n = length_without k.events

      w : falls_back (length k.events) k.selected ≤ pred (length k.events)
      w = omega (arith, falls_within (length k.events) k.selected b.within some-kept)

      -- the context was closed before, or its only event is replaced
      go : (a : Bool) → k.is_open ≡ a → a && not (eqb (length k.events) 1) ≡ false
          → falls_back (length k.events) k.selected ≡ 0
      go true q o = omega (arith, w, eqb-true (length k.events) 1 (not-false _ o))
      go false q o = falls_zero (length k.events) k.selected (b.shut q)

  pub left_bounded : (k : Kept E) (x : E) → Bounded R.motion k → LeftBounded (left R k x)
  unfolding left
  left_bounded k x b = go (R.motion x && ends_in R.motion k.events) refl
    where
      as_it_was : (a : Bool) → k.is_open ≡ a → LeftBounded (cond a k fresh)
      as_it_was true q =
          record {
            few = b.few;
            roomy = λ o. absurd (false≢true (sym o ∙ q));
            within = b.within;
            opened = b.opened;
            shut = b.shut;
          }
      as_it_was false q =
          record {
            few = omega arith;
            roomy = λ o. omega arith;
            within = omega arith;
            opened = λ o. absurd (false≢true o);
            shut = λ o. refl;
          }

      go : (a : Bool) → R.motion x && ends_in R.motion k.events ≡ a
          → LeftBounded (cond a (shortened R k) (cond k.is_open k fresh))
      go true q = shortened_bounded k b (ends_some R.motion k.events (and_right (R.motion x) _ q))
      go false q = as_it_was k.is_open refl

  -- ---- The context after rule 3

  -- what a new start may take ends in the event
  unused_ends : (k : Kept E) (x : E) → 0 < length (unused R k x) → ends_in R.motion (unused R k x) ≡ R.motion x
  unused_ends k x l =
      ends_drop R.motion (grown R k x) (used_up R k) (omega (arith, length-drop (used_up R k) (grown R k x), l))
      ∙ ends_snoc R.motion k.events x

  -- with a context open its first event is used up, with none open there is room
  unused_few : (k : Kept E) (x : E) → LeftBounded k → length (unused R k x) ≤ context_limit
  unused_few k x b = go k.is_open refl
    where
      go : (a : Bool) → k.is_open ≡ a → length (unused R k x) ≤ context_limit
      go true q =
          let u : 1 ≤ used_up R k = rw q (omega arith) in
          omega (arith, u, b.few, length_snoc k.events x, length-drop (used_up R k) (grown R k x))
      go false q = omega (arith, b.roomy q, length_snoc k.events x, length-drop (used_up R k) (grown R k x))

  reopened_bounded :
      (moves : Bool) (rest end : List E) → length rest ≤ context_limit
      → (0 < length rest → ends_in R.motion rest ≡ moves)
      → ((reopened R moves rest end).is_open ≡ true → length (reopened R moves rest end).events ≤ context_limit)
      → Bounded R.motion (reopened R moves rest end)
  reopened_bounded true rest [] l e f =
      record {
        few = l;
        within = omega arith;
        opened = λ o. absurd (false≢true o);
        shut = λ o. refl;
        replaceable = λ o n. e n;
      }
  reopened_bounded false rest [] l e f = bounded_fresh R.motion
  reopened_bounded moves rest (y ∷ ys) l e f =
      record {
        few = f refl;
        within = omega arith;
        opened = λ o. omega arith;
        shut = λ o. absurd (false≢true (sym o));
        replaceable = λ o n. absurd (false≢true (sym o));
      }

  pub moved_bounded :
      (k : Kept E) (x : E) → LeftBounded k → ((moved R k x).is_open ≡ true → length (moved R k x).events ≤ context_limit)
      → Bounded R.motion (moved R k x)
  unfolding moved
  moved_bounded k x b = go (k.is_open && R.prefix (grown R k x)) refl
    where
      go : (a : Bool) → k.is_open && R.prefix (grown R k x) ≡ a
          → ((moved R k x).is_open ≡ true → length (moved R k x).events ≤ context_limit)
          → Bounded R.motion (moved R k x)
      go true q =
          rw q
          (λ f.
          record {
            few = f refl;
            within = omega (arith, b.within, length_snoc k.events x);
            opened = λ o. omega (arith, length_snoc k.events x);
            shut = λ o. absurd (false≢true (sym o));
            replaceable = λ o n. absurd (false≢true (sym o));
          })
      go false q =
          rw q
          (reopened_bounded (R.motion x) (unused R k x) (longest_end R (unused R k x)) (unused_few k x b) (unused_ends k x))

  -- ---- The state after an event

  marked_open : (k : Kept E) → Bounded R.motion k → k.is_open ≡ true → (o : Option ℕ) → Bounded R.motion (marked R k o)
  marked_open k b q None = b
  marked_open k b q (Some p) =
      record {
        few = b.few;
        within = omega arith;
        opened = b.opened;
        shut = λ o. absurd (false≢true (sym o ∙ q));
        replaceable = b.replaceable;
      }

  marked_bounded : (k : Kept E) → Bounded R.motion k → Bounded R.motion (marked R k (chosen_in R k))
  marked_bounded k b = go k.is_open refl
    where
      go : (a : Bool) → k.is_open ≡ a → Bounded R.motion (marked R k (cond a (R.chosen k.events) None))
      go true q = marked_open k b q (R.chosen k.events)
      go false q = b

  pub kept_bounded :
      (k : Kept E) (x : E) → Bounded R.motion k
      → ((moved R (left R k x) x).is_open ≡ true → length (moved R (left R k x) x).events ≤ context_limit)
      → Bounded R.motion (kept R k x)
  unfolding kept choice
  kept_bounded k x b f =
      marked_bounded (moved R (left R k x) x) (moved_bounded (left R k x) x (left_bounded k x b) f)

-- ---- One call

module _ (t : Table) (setting : Setting) (k : Kept Event) (b : Bounded (reading_of t setting).motion k) where
  not_full : (c : MatchCall) → eqb (step_number t setting k c) 0 ≡ true → passes_context t setting k (record_read c.bytes c.order) ≡ false
  unfolding step_number
  not_full c q = (none_applies (call_checks setting c (passes_context t setting k (record_read c.bytes c.order))) q).full

  act_bounded : (r : RecordRead) → passes_context t setting k r ≡ false → Bounded (reading_of t setting).motion (act t setting k r).next
  act_bounded (RecordRead.Refused n) f = b
  act_bounded (RecordRead.Event x) f = go ((reading_of t setting).known x) refl
    where
      m : Kept Event
      m = moved (reading_of t setting) (left (reading_of t setting) k x) x

      go : (a : Bool) → (reading_of t setting).known x ≡ a → Bounded (reading_of t setting).motion (act t setting k (RecordRead.Event x)).next
      go true q =
          let l : keeps_too_many t setting m ≡ false = ap (λ a. a && keeps_too_many t setting m) (sym q) ∙ f in
          rw q
          (kept_bounded (reading_of t setting) k x b
          (λ o.
          ltb-false context_limit (length m.events) (ap (λ a. a && ltb context_limit (length m.events)) (sym o) ∙ l)))
      go false q = rw q b

  pub stepped_bounded : (c : MatchCall) → Bounded (reading_of t setting).motion (stepped t setting k c).next
  unfolding stepped
  stepped_bounded c = go (eqb (step_number t setting k c) 0) refl
    where
      go : (a : Bool) → eqb (step_number t setting k c) 0 ≡ a → Bounded (reading_of t setting).motion (stepped t setting k c).next
      go true q = rw q (act_bounded (record_read c.bytes c.order) (not_full c q))
      go false q = rw q b
