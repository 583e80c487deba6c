-- The number and the selection of an answer, and what a call owes whatever it is given.
use Prim.Native.Nat.{ℕ}
use native.Mathlib.Omega.{arith}
use borrow.Author.Tests.{eqb-true}
use mathlib.Core.Path.{◌≡◌, refl, sym, ap, ◌∙◌}
use mathlib.Core.Bool.{Bool, true, false, cond}
use mathlib.Core.List.{List}
use Rattle.std.specs.Prelude.{Option, None, Some}
use lib.Dec.{eqb}
use Rattle.model.specs.Numbers.{matched_number, matched_selection}
use Rattle.model.specs.Setting.{Setting}
use Rattle.model.specs.Tables.{Table}
use Rattle.model.specs.Records.{record_read, event_of, code_of}
use Rattle.model.specs.Lists.{any}
use Rattle.model.specs.Matching.{has_type, reading_of}
use Rattle.model.specs.Demand.{MatchCall, selection}
use Rattle.model.specs.declared.events.Event.{Event}
use Rattle.model.specs.declared.answers.RecordRead.{RecordRead}
use Rattle.model.specs.declared.answers.Matched.{Matched}
use Rattle.machine.specs.Kept.{Kept, Step, choice, drop_event, hear, act}
use Rattle.tables.specs.Reading.{decode}
use Rattle.states.specs.declared.State.{State}
use Rattle.states.specs.State.{kept_of}
use Rattle.acting.specs.declared.Answer.{Answer}
use Rattle.acting.specs.Act.{match_call, step_answer, refused_with}
use Rattle.matcher.specs.Match.{match_number, match_selection, call_answer}
use Rattle.matcher.specs.Laws.{EveryAnswer}
use Rattle.acting.proofs.ActLaws.{read_good}
use Rattle.matcher.proofs.MatchLaws.{past_all, acted, dropped_call}
use Rattle.matcher.proofs.NextLaws.{accepted_whole}

-- ---- An event that is read

module _ (t : Table) (setting : Setting) where
  selection_number : (o : Option ℕ) → matched_number (selection t setting o) ≡ 0
  selection_number None = refl
  selection_number (Some p) = refl

  selection_is : (o : Option ℕ) → matched_selection (selection t setting o) ≡ o
  selection_is None = refl
  selection_is (Some p) = refl

  not_dropped : (o : Option ℕ) → selection t setting o ≡ Matched.Dropped → ⊥
  not_dropped None e = let z : ◌≡◌ {A = ℕ} 0 1 = cc in omega arith
  not_dropped (Some p) e = let z : ◌≡◌ {A = ℕ} 0 1 = cc in omega arith

  -- what the matcher answers to an event of a type that some production has, or none
  abbrev acts : Bool → Kept Event → Event → Step
  acts known k x = cond known (hear t setting k x) (drop_event t setting k)

  acts_number : (b : Bool) (k : Kept Event) (x : Event) → matched_number (acts b k x).answer ≡ 0
  acts_number true k x = selection_number (choice (reading_of t setting) k x)
  acts_number false k x = refl

  acts_selection : (b : Bool) (k : Kept Event) (x : Event)
      → matched_selection (acts b k x).answer ≡ cond b (choice (reading_of t setting) k x) None
  acts_selection true k x = selection_is (choice (reading_of t setting) k x)
  acts_selection false k x = refl

  acts_dropped : (b : Bool) (k : Kept Event) (x : Event) → (acts b k x).answer ≡ Matched.Dropped → b ≡ false
  acts_dropped true k x e = absurd (not_dropped (choice (reading_of t setting) k x) e)
  acts_dropped false k x e = refl

-- ---- A call

module _ (table : List ℕ) (setting : Setting) (s : State) (c : MatchCall) where
  abbrev number : ℕ
  number = match_number table setting s c

  abbrev answer : Answer
  answer = call_answer table setting s c

  abbrev x : Event
  x = event_of c.bytes c.order (code_of c.bytes)

  -- a call that is accepted reads an event
  read_is : number ≡ 0 → record_read c.bytes c.order ≡ RecordRead.Event x
  read_is e = read_good c (past_all table setting s c e).1

  accepted_is : number ≡ 0 → answer ≡ step_answer (act (decode table) setting (kept_of s) (RecordRead.Event x))
  accepted_is e = acted table setting s c (past_all table setting s c e).0 x (read_is e)

  accepted_matched : number ≡ 0 → answer.matched ≡ (acts (decode table) setting ((reading_of (decode table) setting).known x) (kept_of s) x).answer
  unfolding step_answer
  accepted_matched e = ap (λ (a : Answer). a.matched) (accepted_is e)

  refused_is : eqb number 0 ≡ false → answer ≡ refused_with number s
  unfolding call_answer
  refused_is e = rw e

  number_by : (b : Bool) → eqb number 0 ≡ b → matched_number answer.matched ≡ number
  number_by true q =
      let e : number ≡ 0 = eqb-true number 0 q in
      ap matched_number (accepted_matched e)
      ∙ acts_number (decode table) setting ((reading_of (decode table) setting).known x) (kept_of s) x
      ∙ sym e
  number_by false q = ap (λ (a : Answer). matched_number a.matched) (refused_is q)

  pub answer_number : matched_number answer.matched ≡ number
  answer_number = number_by (eqb number 0) refl

  selection_by : (b : Bool) → eqb number 0 ≡ b → matched_selection answer.matched ≡ match_selection table setting s c
  unfolding match_selection
  selection_by true q =
      let e : number ≡ 0 = eqb-true number 0 q in
      rw (q, read_is e)
      (ap matched_selection (accepted_matched e)
      ∙ acts_selection (decode table) setting ((reading_of (decode table) setting).known x) (kept_of s) x)
  selection_by false q = rw q (ap (λ (a : Answer). matched_selection a.matched) (refused_is q))

  -- the three clauses of the contract, of which the first has the other two
  pub answered : (r : Answer) → r ≡ answer
      → (r ≡ answer) × ((matched_number r.matched ≡ number) × (matched_selection r.matched ≡ match_selection table setting s c))
  answered r e = (
    e,
    (
      ap (λ (a : Answer). matched_number a.matched) e ∙ answer_number,
      ap (λ (a : Answer). matched_selection a.matched) e ∙ selection_by (eqb number 0) refl,
    ),
  )

  -- ---- The laws

  refused_by : (b : Bool) → eqb number 0 ≡ b → (matched_number answer.matched ≡ 0 → ⊥)
      → (matched_selection answer.matched ≡ None) × (answer.state ≡ s)
  refused_by true q f = absurd (f (answer_number ∙ eqb-true number 0 q))
  refused_by false q f = (
    ap (λ (a : Answer). matched_selection a.matched) (refused_is q),
    ap (λ (a : Answer). a.state) (refused_is q),
  )

  unknown_by : (y : Event) → number ≡ 0 → record_read c.bytes c.order ≡ RecordRead.Event y
      → any (has_type y.code) (decode table).productions ≡ false
      → ◌≡◌ {A = Answer} (record { matched = Matched.Dropped; state = s }) answer
  unknown_by y e r q = dropped_call table setting s c (past_all table setting s c e).0 y r q

  dropped_by : answer.matched ≡ Matched.Dropped → (matched_selection answer.matched ≡ None) × (answer.state ≡ s)
  dropped_by d =
      let e : number ≡ 0 = sym answer_number ∙ ap matched_number d in
      let q = acts_dropped (decode table) setting ((reading_of (decode table) setting).known x) (kept_of s) x (sym (accepted_matched e) ∙ d) in
      (ap matched_selection d, sym (ap (λ (a : Answer). a.state) (unknown_by x e (read_is e) q)))

pub every_answer : EveryAnswer
every_answer table setting s bytes order =
    let c : MatchCall = match_call bytes order in
    record {
      refused = refused_by table setting s c (eqb (match_number table setting s c) 0) refl;
      unknown = λ y e r q. sym (ap (λ (a : Answer). a.matched) (unknown_by table setting s c y (sym (answer_number table setting s c) ∙ e) r q));
      dropped = dropped_by table setting s c;
      accepted = λ e. accepted_whole table setting s c (sym (answer_number table setting s c) ∙ e);
    }
