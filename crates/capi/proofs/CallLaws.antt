-- What one call of `tt_match` does to the lent bytes of a state, whatever they are.
use Prim.Native.Nat.{ℕ, ◌≤◌, ◌<◌}
use native.Mathlib.Omega.{arith}
use borrow.Author.Tests.{lt-ltb, ltb-true, ltb-false, eq-eqb, eqb-true}
use mathlib.Core.Path.{◌≡◌, refl, sym, ap, ◌∙◌}
use mathlib.Core.Bool.{Bool, true, false, not, false≢true}
use mathlib.Core.List.{List}
use Rattle.std.specs.Prelude.{Option, None, Some}
use lib.Dec.{eqb, ltb}
use lib.ListN.{length, drop}
use lib.Seq.{drop_at}
use Rattle.model.specs.Numbers.{matched_number, matched_selection}
use Rattle.model.specs.Setting.{Setting}
use Rattle.model.specs.Resolving.{is_bad_map}
use Rattle.model.specs.Tables.{Table}
use Rattle.model.specs.Records.{code_of, event_of, is_bad_record, record_read}
use Rattle.model.specs.Matching.{reading_of}
use Rattle.model.specs.Demand.{MatchCall, call_checks, selection}
use Rattle.model.specs.declared.events.Event.{Event}
use Rattle.model.specs.declared.answers.RecordRead.{RecordRead}
use Rattle.model.specs.declared.answers.Matched.{Matched}
use Rattle.machine.specs.Kept.{Kept, Step, choice, passes_context, step_number, refuse, drop_event, hear, act, stepped}
use Rattle.machine.proofs.Checks.{order_not}
use Rattle.tables.specs.Reading.{decode}
use Rattle.tables.specs.Whole.{whole}
use Rattle.tables.proofs.Positions.{cond_both}
use Rattle.states.specs.declared.State.{State}
use Rattle.states.specs.State.{whole_state, kept_of}
use Rattle.acting.specs.declared.Answer.{Answer}
use Rattle.matcher.proofs.MatchLaws.{past_all}
use Rattle.acting.specs.Act.{step_answer, refused_with}
use Rattle.matcher.specs.Match.{too_short, match_number, call_answer}
use Rattle.states.proofs.StateLaws.{state_facts}
use Rattle.capi.specs.State.{store, load}
use Rattle.capi.specs.Match.{stored, keeps, left_by, matched_on, state_left}
use Rattle.capi.specs.Laws.{EveryCall}
use Rattle.capi.proofs.StateLaws.{length_store}
use Rattle.capi.proofs.Matches.{left_dropped}
use Rattle.capi.proofs.Demand.{Holds, given, answer_is, left_is, left_kept, given_whole, left_good}

-- a refused call selects none
selects_none : (a : Matched) → (matched_number a ≡ 0 → ⊥) → matched_selection a ≡ None
selects_none (Matched.Refused n) f = refl
selects_none Matched.Dropped f = absurd (f refl)
selects_none Matched.Heard f = absurd (f refl)
selects_none (Matched.Selected p) f = absurd (f refl)

past_left : (l : List ℕ) (a : Matched) (s : State) → whole_state s ≡ true → drop 200 (left_by a s l) ≡ drop 200 l
unfolding left_by
past_left l a s w =
    cond_both (λ (x : List ℕ). drop 200 x ≡ drop 200 l) (keeps a) l (stored s l)
    (λ _. refl) (λ _. drop_at (store s) (drop 200 l) 200 (length_store s (state_facts s w)))

-- ---- 14 is given for a state that is not whole alone

abbrev Not14 : Matched → Type 0
Not14 a = matched_number a ≡ 14 → ⊥

module _ (t : Table) (setting : Setting) where
  selection_not : (o : Option ℕ) → Not14 (selection t setting o)
  selection_not None z = omega arith
  selection_not (Some p) z = omega arith

  event_not : (k : Kept Event) (x : Event) → Not14 (act t setting k (RecordRead.Event x)).answer
  event_not k x =
      cond_both (λ (s : Step). Not14 s.answer) ((reading_of t setting).known x) (hear t setting k x) (drop_event t setting k)
      (λ _. selection_not (choice (reading_of t setting) k x)) (λ _ z. omega arith)

  read_not : (k : Kept Event) (c : MatchCall) → Not14 (act t setting k (record_read c.bytes c.order)).answer
  unfolding record_read
  read_not k c =
      cond_both (λ (r : RecordRead). Not14 (act t setting k r).answer) (is_bad_record c.bytes c.order) (RecordRead.Refused 13) (RecordRead.Event (event_of c.bytes c.order (code_of c.bytes)))
      (λ _ z. omega arith) (λ _. event_not k (event_of c.bytes c.order (code_of c.bytes)))

  step_not : (k : Kept Event) (c : MatchCall) → Not14 (stepped t setting k c).answer
  unfolding stepped step_number
  step_not k c =
      cond_both (λ (s : Step). Not14 s.answer) (eqb (step_number t setting k c) 0) (act t setting k (record_read c.bytes c.order)) (refuse t setting (step_number t setting k c) k)
      (λ _. read_not k c)
      (λ _. order_not (call_checks setting c (passes_context t setting k (record_read c.bytes c.order))) refl)

number_not : (table : List ℕ) (setting : Setting) (s : State) (c : MatchCall) → whole_state s ≡ true → match_number table setting s c ≡ 14 → ⊥
unfolding match_number
number_not table setting s c w =
    order_not
    (record {
      short = too_short table setting.keyboard;
      modifiers_bad = is_bad_map setting.modifiers;
      table_broken = not (whole table);
      state_broken = not (whole_state s);
      record_bad = is_bad_record c.bytes c.order;
      full = passes_context (decode table) setting (kept_of s) (record_read c.bytes c.order);
    })
    (ap not w)

whole_not : (table : List ℕ) (setting : Setting) (s : State) (c : MatchCall) → whole_state s ≡ true → Not14 (call_answer table setting s c).matched
unfolding call_answer step_answer
whole_not table setting s c w =
    cond_both (λ (a : Answer). Not14 a.matched) (eqb (match_number table setting s c) 0) (step_answer (stepped (decode table) setting (kept_of s) c)) (refused_with (match_number table setting s c) s)
    (λ _. step_not (decode table) setting (kept_of s) c)
    (λ _ z. number_not table setting s c w z)

module _ (table : List ℕ) (setting : Setting) (l : List ℕ) (c : MatchCall) where
  abbrev matched : Matched
  matched = matched_on table setting l c.bytes c.order

  abbrev left : List ℕ
  left = state_left table setting l c.bytes c.order

  abbrev number : ℕ
  number = match_number table setting (load l) c

  -- ---- A short state

  module _ (h : length l < 200) where
    short_left : left ≡ l
    unfolding state_left
    short_left = rw (lt-ltb (length l) 200 h)

    short_number : matched_number matched ≡ 1
    unfolding matched_on
    short_number = rw (lt-ltb (length l) 200 h)

  -- ---- A state that is long enough

  module _ (h : 200 ≤ length l) where
    -- no number: the bytes hold a whole state
    holds : eqb number 0 ≡ true → Holds l
    holds e =
        record {
          long = h;
          is_whole = (past_all table setting (load l) c (eqb-true number 0 e)).0.state_whole;
        }

    refused_answer : eqb number 0 ≡ false → given table setting l c ≡ refused_with number (load l)
    unfolding call_answer
    refused_answer e = rw e

    refused_number : eqb number 0 ≡ false → matched_number matched ≡ 0 → ⊥
    refused_number e z =
        let q : matched_number matched ≡ number = ap matched_number (answer_is table setting l c h ∙ ap (λ a. a.matched) (refused_answer e)) in
        false≢true (sym e ∙ eq-eqb number 0 (sym q ∙ z))

    past_stored : Holds l → drop 200 left ≡ drop 200 l
    past_stored g =
        let a = given table setting l c in
        ap (drop 200) (left_is table setting l c h) ∙ past_left l a.matched a.state (given_whole table setting l c g)

    long_accepted : (b : Bool) → eqb number 0 ≡ b → matched_number matched ≡ 0 → whole_state (load left) ≡ true
    long_accepted true e z = (left_good table setting l c (holds e)).is_whole
    long_accepted false e z = absurd (refused_number e z)

    long_past : (b : Bool) → eqb number 0 ≡ b → drop 200 left ≡ drop 200 l
    long_past true e = past_stored (holds e)
    long_past false e = ap (drop 200) (left_kept table setting l c h (refused_number e))

    not_whole_lem : too_short table setting.keyboard ≡ false → is_bad_map setting.modifiers ≡ false → whole table ≡ true → whole_state (load l) ≡ false → matched ≡ Matched.Refused 14
    unfolding call_answer match_number
    not_whole_lem a m b d = answer_is table setting l c h ∙ rw (a, m, b, d)

  -- ---- Any state

  accepted_by : (b : Bool) → ltb (length l) 200 ≡ b → matched_number matched ≡ 0 → whole_state (load left) ≡ true
  accepted_by true e z = let k = short_number (ltb-true (length l) 200 e) in absurd (omega arith)
  accepted_by false e z = long_accepted (ltb-false (length l) 200 e) (eqb number 0) refl z

  dropped_by : (b : Bool) → ltb (length l) 200 ≡ b → matched ≡ Matched.Dropped → left ≡ l
  dropped_by true e d = short_left (ltb-true (length l) 200 e)
  dropped_by false e d =
      let h = ltb-false (length l) 200 e in
      let a = given table setting l c in
      left_is table setting l c h ∙ sym (left_dropped a.matched a.state l (sym (answer_is table setting l c h) ∙ d))

  refused_by : (b : Bool) → ltb (length l) 200 ≡ b → (matched_number matched ≡ 0 → ⊥) → left ≡ l
  refused_by true e f = short_left (ltb-true (length l) 200 e)
  refused_by false e f = left_kept table setting l c (ltb-false (length l) 200 e) f

  past_by_length : (b : Bool) → ltb (length l) 200 ≡ b → drop 200 left ≡ drop 200 l
  past_by_length true e = ap (drop 200) (short_left (ltb-true (length l) 200 e))
  past_by_length false e = long_past (ltb-false (length l) 200 e) (eqb number 0) refl

  only_by : (b w : Bool) → ltb (length l) 200 ≡ b → whole_state (load l) ≡ w → matched_number matched ≡ 14 → w ≡ false
  only_by b false e q z = refl
  only_by true true e q z = let k = short_number (ltb-true (length l) 200 e) in absurd (omega arith)
  only_by false true e q z =
      absurd (whole_not table setting (load l) c q (sym (ap matched_number (answer_is table setting l c (ltb-false (length l) 200 e))) ∙ z))

pub every_call : EveryCall
every_call table setting state bytes order =
    let c : MatchCall = record { bytes = bytes; order = order } in
    record {
      accepted = λ z. accepted_by table setting state c (ltb (length state) 200) refl z;
      dropped = λ d. dropped_by table setting state c (ltb (length state) 200) refl d;
      refused = λ f. (selects_none (matched_on table setting state bytes order) f, refused_by table setting state c (ltb (length state) 200) refl f);
      not_whole = λ h a m b d. not_whole_lem table setting state c h a m b d;
      only = λ z. only_by table setting state c (ltb (length state) 200) (whole_state (load state)) refl refl z;
      past = past_by_length table setting state c (ltb (length state) 200) refl;
    }
