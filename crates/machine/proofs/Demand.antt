-- Demand 3, of the bounded matcher on every table that passes no limit.
use Prim.Native.Nat.{ℕ}
use mathlib.Core.Path.{◌≡◌, refl}
use mathlib.Core.Bool.{Bool, true, false}
use Rattle.std.specs.Prelude.{Option, None, Some}
use lib.Dec.{eqb}
use Rattle.model.specs.Numbers.{matched_number, matched_selection}
use Rattle.model.specs.Tables.{Table}
use Rattle.model.specs.Records.{record_read}
use Rattle.model.specs.Setting.{Setting}
use Rattle.model.specs.Matching.{reading_of}
use Rattle.model.specs.Demand.{MatchCall, selection, heard_all, state_after, Demand3For}
use Rattle.model.specs.declared.events.Event.{Event}
use Rattle.model.specs.declared.answers.RecordRead.{RecordRead}
use Rattle.machine.specs.Kept.{Kept, fresh, Step, choice, step_number, act, stepped, kept_matcher}
use Rattle.machine.proofs.Selects.{selects}
use Rattle.machine.proofs.Apart.{apart}
use Rattle.machine.proofs.Blind.{blind}

-- ---- "a refused call selects none and changes nothing"

module _ (t : Table) (setting : Setting) (k : Kept Event) where
  abbrev Refuses : Step → Type 0
  Refuses s = (matched_number s.answer ≡ 0 → ⊥) → (matched_selection s.answer ≡ None) × (s.next ≡ k)

  selection_number : (o : Option ℕ) → matched_number (selection t setting o) ≡ 0
  selection_number None = refl
  selection_number (Some p) = refl

  act_refuses : (r : RecordRead) → Refuses (act t setting k r)
  act_refuses (RecordRead.Refused n) = λ f. (refl, refl)
  act_refuses (RecordRead.Event x) = go ((reading_of t setting).known x) refl
    where
      go : (b : Bool) → (reading_of t setting).known x ≡ b → Refuses (act t setting k (RecordRead.Event x))
      go true q = rw q (λ f. absurd (f (selection_number (choice (reading_of t setting) k x))))
      go false q = rw q (λ f. absurd (f refl))

  pub step_refuses : (c : MatchCall) → Refuses (stepped t setting k c)
  unfolding stepped
  step_refuses c = go (eqb (step_number t setting k c) 0) refl
    where
      go : (b : Bool) → eqb (step_number t setting k c) 0 ≡ b → Refuses (stepped t setting k c)
      go true q = rw q (act_refuses (record_read c.bytes c.order))
      go false q = rw q (λ f. (refl, refl))

-- ---- The claim

pub demand3 : Demand3For kept_matcher
demand3 t w setting cs =
    record {
      selects = selects t setting w cs;
      refuses = λ before rest c e f. step_refuses t setting (state_after (kept_matcher t setting) fresh before) c f;
      apart = λ i j l m g q. apart (reading_of t setting) (heard_all t setting cs) i j l g;
      blind = λ ds l. blind t setting cs ds l;
    }
