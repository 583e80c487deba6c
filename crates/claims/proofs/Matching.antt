-- Demand 3 of the matcher that runs: its states stand for those of the bounded matcher, of which the claim is shown.
use Prim.Native.Nat.{ℕ}
use native.Mathlib.Omega.{arith}
use borrow.Author.Tests.{le-ltb}
use mathlib.Core.Path.{◌≡◌, refl, sym, ap, ◌∙◌, subst}
use mathlib.Core.Bool.{Bool, true, false, cond, not}
use mathlib.Core.List.{List, ◌++◌}
use lib.Dec.{eqb}
use lib.ListN.{length}
use Rattle.model.specs.Numbers.{matched_number}
use Rattle.model.specs.Setting.{Setting}
use Rattle.model.specs.Tables.{Table}
use Rattle.model.specs.Demand.{MatchCall, Demand3}
use Rattle.model.specs.declared.answers.Matched.{Matched}
use Rattle.machine.specs.Kept.{Step, step_number, stepped, kept_matcher}
use Rattle.machine.specs.Viewed.{Views}
use Rattle.machine.proofs.Demand.{demand3, step_refuses}
use Rattle.machine.proofs.Bounded.{stepped_bounded}
use Rattle.machine.proofs.Viewed.{viewed}
use Rattle.tables.specs.Layout.{table_length, encode}
use Rattle.tables.specs.Reading.{decode}
use Rattle.tables.specs.Whole.{whole}
use Rattle.tables.proofs.Facts.{fit_facts}
use Rattle.tables.proofs.Theorems.{whole_holds, whole_length, whole_encode, decode_encode}
use Rattle.states.specs.declared.State.{State}
use Rattle.states.specs.State.{kept_of, state_keeping, whole_state}
use Rattle.states.proofs.StateLaws.{state_facts, kept_bounded, kept_state, state_kept, fresh_whole, fresh_kept}
use Rattle.acting.specs.declared.Answer.{Answer}
use Rattle.acting.specs.Act.{step_answer, refused_with}
use Rattle.matcher.specs.Match.{too_short, match_number, call_answer}
use Rattle.matcher.proofs.NextLaws.{step_whole}
use Rattle.claims.specs.Matching.{matcher_on, Demand3OnWhole, Demand3Encoded}

Good : State → Type 0
Good s = whole_state s ≡ true

module _ (table : List ℕ) (w : whole table ≡ true) (setting : Setting) where
  abbrev t : Table
  t = decode table

  short_map : too_short table setting.keyboard ≡ not (eqb (length setting.keyboard) 496)
  unfolding too_short
  short_map = rw (le-ltb (length table) table_length (whole_length table w))

  module _ (s : State) (c : MatchCall) (g : whole_state s ≡ true) where
    abbrev step : Step
    step = stepped t setting (kept_of s) c

    abbrev number : ℕ
    number = step_number t setting (kept_of s) c

    same_number : match_number table setting s c ≡ number
    unfolding match_number step_number
    same_number = rw (short_map, w, g)

    abbrev answered : Bool → Answer
    answered b = cond b (step_answer step) (refused_with number s)

    same_answer : call_answer table setting s c ≡ answered (eqb number 0)
    unfolding call_answer
    same_answer = rw same_number

    refused_step : eqb number 0 ≡ false → step ≡ record { answer = Matched.Refused number; next = kept_of s }
    unfolding stepped
    refused_step q = rw q

    answer_same : (b : Bool) → eqb number 0 ≡ b → (answered b).matched ≡ step.answer
    unfolding step_answer
    answer_same true q = refl
    answer_same false q = sym (ap (λ (u : Step). u.answer) (refused_step q))

    next_same : (b : Bool) → eqb number 0 ≡ b → kept_of (answered b).state ≡ step.next
    unfolding step_answer
    next_same true q =
        let b = (stepped_bounded t setting (kept_of s) (kept_bounded s (state_facts s g)) c).few in
        kept_state step.next (omega arith)
    next_same false q = sym (ap (λ (u : Step). u.next) (refused_step q))

    next_whole : (b : Bool) → whole_state (answered b).state ≡ true
    unfolding step_answer
    next_whole true = step_whole t setting s c g
    next_whole false = g

    next_kept : (b : Bool) → (matched_number step.answer ≡ 0 → ⊥) → (answered b).state ≡ s
    unfolding step_answer
    next_kept true f =
        ap state_keeping (step_refuses t setting (kept_of s) c f).1 ∙ state_kept s (state_facts s g)
    next_kept false f = refl

    answer_is : (call_answer table setting s c).matched ≡ step.answer
    answer_is = rw same_answer (answer_same (eqb number 0) refl)

    whole_is : whole_state (call_answer table setting s c).state ≡ true
    whole_is = rw same_answer (next_whole (eqb number 0))

    stands_is : kept_of (call_answer table setting s c).state ≡ step.next
    stands_is = rw same_answer (next_same (eqb number 0) refl)

    kept_is : (matched_number (call_answer table setting s c).matched ≡ 0 → ⊥) → (call_answer table setting s c).state ≡ s
    kept_is f = rw same_answer (next_kept (eqb number 0) (λ z. f (ap matched_number answer_is ∙ z)))

  views : Views (matcher_on table setting) (kept_matcher t setting) kept_of Good
  unfolding Good
  views =
      record {
        fresh_good = fresh_whole;
        next_good = λ s c g. whole_is s c g;
        fresh = fresh_kept;
        answer = λ s c g. answer_is s c g;
        next = λ s c g. stands_is s c g;
        refused = λ s c g f. kept_is s c g f;
      }

-- Demand 3
pub demand3_on_whole : Demand3OnWhole
demand3_on_whole table w setting cs =
    viewed (matcher_on table setting) (kept_matcher (decode table) setting) kept_of Good (views table w setting)
    (decode table) setting cs
    (demand3 (decode table) (fit_facts (decode table) (whole_holds table w).fits).limit setting cs)

-- the same where it is known what the bytes read as
pub demand3_read :
    (table : List ℕ) → whole table ≡ true → (t : Table) → decode table ≡ t → (setting : Setting) (cs : List MatchCall)
    → Demand3 (matcher_on table setting) t setting cs
demand3_read table w t e setting cs =
    subst (λ (u : Table). Demand3 (matcher_on table setting) u setting cs) e (demand3_on_whole table w setting cs)

pub demand3_encoded : Demand3Encoded
demand3_encoded t fit after =
    demand3_read (encode t ++ after) (whole_encode t fit after) t (decode_encode t fit after)
