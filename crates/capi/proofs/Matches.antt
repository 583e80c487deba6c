-- What the matcher answers through `tt_match`, case by case, and that its selection is small.
use Prim.Native.Nat.{ℕ, ◌+◌, ◌*◌, ◌≤◌, ◌<◌}
use native.Mathlib.Omega.{arith}
use borrow.Author.Tests.{lt-ltb, le-ltb, eqb-true}
use mathlib.Core.Path.{◌≡◌, sym, ap, subst, ◌∙◌}
use mathlib.Core.Bool.{true}
use mathlib.Core.List.{List}
use Rattle.std.specs.Prelude.{Option, None, Some}
use lib.Dec.{eqb}
use lib.ListN.{length}
use Rattle.words.specs.Words.{cleared}
use Rattle.words.proofs.RunLaws.{length_run}
use Rattle.model.specs.Numbers.{matched_selection}
use Rattle.model.specs.Setting.{Setting}
use Rattle.model.specs.Tables.{Table}
use Rattle.model.specs.Records.{record_read}
use Rattle.model.specs.Matching.{reading_of, is_whole_sequence}
use Rattle.model.specs.Demand.{MatchCall, selection}
use Rattle.model.specs.declared.events.Event.{Event}
use Rattle.model.specs.declared.answers.RecordRead.{RecordRead}
use Rattle.model.specs.declared.answers.Matched.{Matched}
use Rattle.machine.specs.Kept.{Kept, Step, left, moved, chosen_in, choice, step_number, refuse, drop_event, hear, act, stepped}
use Rattle.tables.specs.Reading.{decode, production_entry, production_total}
use Rattle.tables.specs.Whole.{whole}
use Rattle.tables.proofs.Positions.{cond_both}
use Rattle.table_check.proofs.WholeFacts.{facts_of_whole}
use Rattle.states.specs.declared.State.{State}
use Rattle.acting.specs.declared.Answer.{Answer}
use Rattle.states.specs.State.{kept_of}
use Rattle.acting.specs.Act.{step_answer, refused_with}
use Rattle.matcher.specs.Match.{match_answer, match_number, call_answer}
use Rattle.matcher.proofs.MatchLaws.{past_all}
use Rattle.capi.specs.State.{load}
use Rattle.capi.specs.Match.{stored, fresh_number, fresh_bytes, selection_mark, matched_word, left_by, answer_on, matched_on, state_left}
use Rattle.capi.proofs.Bounds.{Below, earliest_below}
use Rattle.capi.proofs.StateLaws.{fresh_bytes_lem}

-- ---- The number of each case

abbrev mark_of : Matched → ℕ
mark_of a = selection_mark (matched_selection a)

module _ (a : Matched) where
  pub matched_refused : (n : ℕ) → a ≡ Matched.Refused n → (r : ℕ) → r ≡ n → r ≡ matched_word a
  unfolding matched_word
  matched_refused n e r q = rw e (omega arith)

  pub matched_dropped : a ≡ Matched.Dropped → 0 ≡ matched_word a
  unfolding matched_word
  matched_dropped e = rw e (omega arith)

  pub matched_heard : a ≡ Matched.Heard → 0 ≡ matched_word a
  unfolding matched_word
  matched_heard e = rw e (omega arith)

  module _ (p : ℕ) (e : a ≡ Matched.Selected p) where
    pub matched_selected : (r : ℕ) → r ≡ 0 + 256 * (p + 1) → r ≡ matched_word a
    unfolding matched_word
    matched_selected r q = rw e (omega arith)

    pub mark_of_lem : mark_of a ≤ 64 → p + 1 ≤ 64
    mark_of_lem h = rw e at h

-- ---- What each case leaves

module _ (a : Matched) (s : State) (l : List ℕ) where
  pub left_refused : (n : ℕ) → a ≡ Matched.Refused n → l ≡ left_by a s l
  unfolding left_by
  left_refused n e = rw e

  pub left_dropped : a ≡ Matched.Dropped → l ≡ left_by a s l
  unfolding left_by
  left_dropped e = rw e

  pub left_heard : a ≡ Matched.Heard → stored s l ≡ left_by a s l
  unfolding left_by
  left_heard e = rw e

  pub left_selected : (p : ℕ) → a ≡ Matched.Selected p → stored s l ≡ left_by a s l
  unfolding left_by
  left_selected p e = rw e

-- ---- A fresh state

module _ (l : List ℕ) where
  pub fresh_short : length l < 200 → (1 ≡ fresh_number l) × (l ≡ fresh_bytes l)
  unfolding fresh_bytes
  fresh_short h = (rw (lt-ltb (length l) 200 h), rw (lt-ltb (length l) 200 h))

  pub fresh_long : 200 ≤ length l → (0 ≡ fresh_number l) × (cleared 200 l ≡ fresh_bytes l)
  unfolding fresh_bytes cleared
  fresh_long h = (rw (le-ltb (length l) 200 h), rw (le-ltb (length l) 200 h, fresh_bytes_lem))

-- ---- A call

module _ (table : List ℕ) (setting : Setting) (state bytes : List ℕ) (order : ℕ) where
  pub match_short : length state < 200 → (1 ≡ matched_word (matched_on table setting state bytes order)) × (state ≡ state_left table setting state bytes order)
  unfolding matched_on state_left matched_word
  match_short h = (rw (lt-ltb (length state) 200 h), rw (lt-ltb (length state) 200 h))

  module _ (h : 200 ≤ length state) where
    answer_long : (answer_on table setting state bytes order).matched ≡ matched_on table setting state bytes order
    unfolding matched_on
    answer_long = rw (le-ltb (length state) 200 h)

    left_long :
        left_by (answer_on table setting state bytes order).matched (answer_on table setting state bytes order).state state
        ≡ state_left table setting state bytes order
    unfolding state_left
    left_long = rw (le-ltb (length state) 200 h)

    module _ (s : State) (e : s ≡ load state) (x : Answer) (f : x ≡ match_answer table setting s bytes order) where
      same : x ≡ answer_on table setting state bytes order
      same = f ∙ ap (λ (u : State). match_answer table setting u bytes order) e

      pub match_long : (r : ℕ) (out : List ℕ) → r ≡ matched_word x.matched → out ≡ left_by x.matched x.state state
          → (r ≡ matched_word (matched_on table setting state bytes order)) × (out ≡ state_left table setting state bytes order)
      match_long r out p q = (
        p ∙ ap (λ (u : Answer). matched_word u.matched) same ∙ ap matched_word answer_long,
        q ∙ ap (λ (u : Answer). left_by u.matched u.state state) same ∙ left_long,
      )

-- ---- A selection is one of at most 64 productions

module _ (t : Table) (setting : Setting) (few : length t.productions ≤ 64) where
  selection_few : (o : Option ℕ) → Below 64 o → mark_of (selection t setting o) ≤ 64
  selection_few None b = omega arith
  selection_few (Some p) b = omega arith

  chosen_few : (k : Kept Event) → Below 64 (chosen_in (reading_of t setting) k)
  chosen_few k =
      cond_both (Below 64) k.is_open ((reading_of t setting).chosen k.events) None
      (λ _. earliest_below (is_whole_sequence setting k.events) 0 64 t.productions (omega arith)) (λ _. tt)

  act_few : (k : Kept Event) (r : RecordRead) → mark_of (act t setting k r).answer ≤ 64
  unfolding choice
  act_few k (RecordRead.Refused n) = omega arith
  act_few k (RecordRead.Event x) =
      cond_both (λ (s : Step). mark_of s.answer ≤ 64) ((reading_of t setting).known x) (hear t setting k x) (drop_event t setting k)
      (λ _. selection_few (choice (reading_of t setting) k x) (chosen_few (moved (reading_of t setting) (left (reading_of t setting) k x) x)))
      (λ _. omega arith)

  step_few : (k : Kept Event) (c : MatchCall) → mark_of (stepped t setting k c).answer ≤ 64
  unfolding stepped
  step_few k c =
      cond_both (λ (s : Step). mark_of s.answer ≤ 64) (eqb (step_number t setting k c) 0) (act t setting k (record_read c.bytes c.order)) (refuse t setting (step_number t setting k c) k)
      (λ _. act_few k (record_read c.bytes c.order)) (λ _. omega arith)

few_productions : (table : List ℕ) → whole table ≡ true → length (decode table).productions ≤ 64
unfolding decode
few_productions table w = rw (length_run (production_entry table) 0 (production_total table)) (facts_of_whole table w).productions

answer_few : (table : List ℕ) (setting : Setting) (s : State) (c : MatchCall) → mark_of (call_answer table setting s c).matched ≤ 64
unfolding call_answer step_answer
answer_few table setting s c =
    cond_both (λ (a : Answer). mark_of a.matched ≤ 64) (eqb (match_number table setting s c) 0) (step_answer (stepped (decode table) setting (kept_of s) c)) (refused_with (match_number table setting s c) s)
    (λ e.
    let w : whole table ≡ true = (past_all table setting s c (eqb-true (match_number table setting s c) 0 e)).0.is_whole in
    step_few (decode table) setting (few_productions table w) (kept_of s) c)
    (λ _. omega arith)

pub matched_few : (table : List ℕ) (setting : Setting) (s : State) (bytes : List ℕ) (order : ℕ) (x : Answer)
    → x ≡ match_answer table setting s bytes order → selection_mark (matched_selection x.matched) ≤ 64
matched_few table setting s bytes order x f =
    subst (λ (u : Answer). selection_mark (matched_selection u.matched) ≤ 64) (sym f)
    (answer_few table setting s (record { bytes = bytes; order = order }))
