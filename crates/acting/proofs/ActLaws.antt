-- The ways that a call can go past the checks of what is lent.
use Prim.Native.Nat.{ℕ}
use native.Mathlib.Omega.{arith}
use borrow.Author.Tests.{eq-eqb}
use mathlib.Core.Path.{◌≡◌, refl, sym, ap, ◌∙◌}
use mathlib.Core.Bool.{Bool, true, false, cond}
use lib.ListN.{length}
use Rattle.model.specs.Setting.{Setting}
use Rattle.model.specs.Resolving.{is_bad_map}
use Rattle.model.specs.Lists.{any}
use Rattle.model.specs.Numbers.{bad_record, match_order, record_number}
use Rattle.model.specs.Records.{is_bad_record, record_read, event_of, code_of}
use Rattle.model.specs.Tables.{Table}
use Rattle.model.specs.Compiling.{passes_limit}
use Rattle.model.specs.Matching.{has_type}
use Rattle.model.specs.Demand.{MatchCall}
use Rattle.model.specs.declared.events.Event.{Event}
use Rattle.model.specs.declared.answers.RecordRead.{RecordRead}
use Rattle.model.specs.declared.answers.Matched.{Matched}
use Rattle.machine.specs.Kept.{Kept, step_number, refuse, drop_event, hear, act, stepped}
use Rattle.machine.proofs.Limits.{never_full}
use Rattle.states.specs.declared.State.{State}
use Rattle.states.specs.State.{kept_of, whole_state}
use Rattle.states.proofs.StateLaws.{state_facts, state_kept}
use Rattle.acting.specs.declared.Answer.{Answer}
use Rattle.acting.specs.Act.{step_answer, refused_with}

-- ---- The record

module _ (c : MatchCall) where
  read_bad : is_bad_record c.bytes c.order ≡ true → record_read c.bytes c.order ≡ RecordRead.Refused bad_record
  unfolding record_read
  read_bad e = rw e

  pub read_good : is_bad_record c.bytes c.order ≡ false
      → record_read c.bytes c.order ≡ RecordRead.Event (event_of c.bytes c.order (code_of c.bytes))
  unfolding record_read
  read_good e = rw e

  is_bad_lem : (n : ℕ) → record_read c.bytes c.order ≡ RecordRead.Refused n → is_bad_record c.bytes c.order ≡ true
  is_bad_lem n r = go (is_bad_record c.bytes c.order) refl
    where
      go : (bad : Bool) → is_bad_record c.bytes c.order ≡ bad → bad ≡ true
      go true e = refl
      go false e =
          let z : RecordRead.Event (event_of c.bytes c.order (code_of c.bytes)) ≡ RecordRead.Refused n = sym (read_good e) ∙ r in
          let o : ◌≡◌ {A = ℕ} 0 1 = cc in
          absurd (omega arith)

  is_good : (x : Event) → record_read c.bytes c.order ≡ RecordRead.Event x → is_bad_record c.bytes c.order ≡ false
  is_good x r = go (is_bad_record c.bytes c.order) refl
    where
      go : (bad : Bool) → is_bad_record c.bytes c.order ≡ bad → bad ≡ false
      go true e =
          let z : RecordRead.Refused bad_record ≡ RecordRead.Event x = sym (read_bad e) ∙ r in
          let o : ◌≡◌ {A = ℕ} 0 1 = cc in
          absurd (omega arith)
      go false e = refl

-- ---- The step

module _ (t : Table) (within : passes_limit t.productions ≡ false) (setting : Setting)
    (map_long : length setting.keyboard ≡ 496) (modifiers_good : is_bad_map setting.modifiers ≡ false) (c : MatchCall) where
  -- 13, or none
  step_number_lem : (k : Kept Event) (bad : Bool) → is_bad_record c.bytes c.order ≡ bad
      → step_number t setting k c ≡ cond bad bad_record 0
  unfolding step_number
  step_number_lem k bad e =
      rw (
        eq-eqb (length setting.keyboard) 496 map_long,
        modifiers_good,
        e,
        never_full t within setting k (record_read c.bytes c.order),
      )
      (by bad)
    where
      by : (b : Bool)
          → match_order (record { short = false; modifiers_bad = false; table_broken = false; state_broken = false; record_bad = b; full = false })
          ≡ cond b bad_record 0
      by true = refl
      by false = refl

  stepped_refused : (k : Kept Event) → is_bad_record c.bytes c.order ≡ true → stepped t setting k c ≡ refuse t setting bad_record k
  unfolding stepped
  stepped_refused k e = rw (step_number_lem k true e)

  pub stepped_event : (k : Kept Event) (x : Event) → record_read c.bytes c.order ≡ RecordRead.Event x
      → stepped t setting k c ≡ act t setting k (RecordRead.Event x)
  unfolding stepped
  stepped_event k x r = rw (step_number_lem k false (is_good c x r), r)

  -- ---- The answer

  module _ (s : State) (w : whole_state s ≡ true) where
    -- the state is kept
    kept_answer : (m : Matched) → ◌≡◌ {A = Answer} (record { matched = m; state = s }) (step_answer (record { answer = m; next = kept_of s }))
    unfolding step_answer
    kept_answer m = ap (λ (u : State). record { matched = m; state = u }) (sym (state_kept s (state_facts s w)))

    pub refused_by : is_bad_record c.bytes c.order ≡ true
        → refused_with bad_record s ≡ step_answer (stepped t setting (kept_of s) c)
    refused_by e = kept_answer (Matched.Refused bad_record) ∙ sym (ap step_answer (stepped_refused (kept_of s) e))

    -- 13
    pub refused_record : (n : ℕ) → record_read c.bytes c.order ≡ RecordRead.Refused n
        → refused_with bad_record s ≡ step_answer (stepped t setting (kept_of s) c)
    refused_record n r = refused_by (is_bad_lem c n r)

    module _ (x : Event) (r : record_read c.bytes c.order ≡ RecordRead.Event x) where
      by_type : (b : Bool) → any (has_type x.code) t.productions ≡ b
          → stepped t setting (kept_of s) c ≡ cond b (hear t setting (kept_of s) x) (drop_event t setting (kept_of s))
      by_type b q =
          stepped_event (kept_of s) x r
          ∙ ap (λ (b : Bool). cond b (hear t setting (kept_of s) x) (drop_event t setting (kept_of s))) q

      -- no production has an event of its type
      pub dropped_event : any (has_type x.code) t.productions ≡ false
          → ◌≡◌ {A = Answer} (record { matched = Matched.Dropped; state = s }) (step_answer (stepped t setting (kept_of s) c))
      dropped_event q = kept_answer Matched.Dropped ∙ sym (ap step_answer (by_type false q))

      pub heard_event_lem : any (has_type x.code) t.productions ≡ true
          → step_answer (hear t setting (kept_of s) x) ≡ step_answer (stepped t setting (kept_of s) c)
      heard_event_lem q = sym (ap step_answer (by_type true q))
