-- Demand 3 of `tt_match`: the bytes between its calls stand for the states of `match_event`.
use Prim.Native.Nat.{ℕ, ◌+◌, ◌*◌, ◌-◌, ◌/◌, ◌≤◌, ◌<◌}
use native.Mathlib.Omega.{arith}
use borrow.Author.Tests.{le-ltb, ne_eqb}
use mathlib.Core.Path.{◌≡◌, refl, sym, ap, ap₂, ◌∙◌}
use mathlib.Core.Bool.{Bool, true, false, cond, false≢true}
use mathlib.Core.List.{List, [], ◌∷◌, ◌++◌, map}
use Rattle.std.specs.Prelude.{Option, None, Some}
use lib.Dec.{eqb}
use lib.ListN.{length, drop, length-append, length-drop}
use Rattle.model.specs.Numbers.{matched_number, matched_selection}
use Rattle.model.specs.Setting.{Setting}
use Rattle.model.specs.Tables.{Table}
use Rattle.model.specs.Records.{record_read}
use Rattle.model.specs.Demand.{MatchCall, heard, named_heard, named, named_from, call_checks, call_number, selection, standing_after, answers_from, Demand3}
use Rattle.model.specs.Matching.{reading_of}
use Rattle.model.specs.declared.events.Event.{Event}
use Rattle.model.specs.declared.answers.RecordRead.{RecordRead}
use Rattle.model.specs.declared.answers.Matched.{Matched}
use Rattle.machine.specs.Kept.{Kept, Step, step_number, choice, hear, drop_event, refuse, act, stepped}
use Rattle.machine.specs.Viewed.{Views}
use Rattle.machine.proofs.Checks.{order_small}
use Rattle.machine.proofs.Viewed.{viewed}
use Rattle.tables.specs.Reading.{decode}
use Rattle.tables.proofs.Positions.{cond_both}
use Rattle.states.specs.declared.State.{State}
use Rattle.acting.specs.declared.Answer.{Answer}
use Rattle.states.specs.State.{whole_state, fresh_state, kept_of, state_keeping}
use Rattle.acting.specs.Act.{step_answer, refused_with}
use Rattle.matcher.specs.Match.{match_number, call_answer}
use Rattle.states.proofs.StateLaws.{state_facts, state_kept, fresh_whole}
use Rattle.matcher.proofs.NextLaws.{step_whole}
use Rattle.claims.specs.Matching.{matcher_on}
use Rattle.claims.proofs.Matching.{demand3_on_whole}
use Rattle.capi.specs.State.{store, load}
use Rattle.capi.specs.Match.{stored, fresh_bytes, matched_word, keeps, left_by, matched_on, state_left}
use Rattle.capi.specs.Demand.{word_number, word_selection, matcher_on_states, words_from, OnStates, EveryList, Demand3OnStates}
use Rattle.capi.proofs.StateLaws.{state_back, length_store}

-- ---- The state that a call gives

module _ (table : List ℕ) (setting : Setting) (s : State) (w : whole_state s ≡ true) (c : MatchCall) where
  abbrev answer : Answer
  answer = call_answer table setting s c

  -- it is whole
  next_whole : whole_state answer.state ≡ true
  unfolding call_answer step_answer
  next_whole =
      cond_both (λ (a : Answer). whole_state a.state ≡ true) (eqb (match_number table setting s c) 0)
      (step_answer (stepped (decode table) setting (kept_of s) c)) (refused_with (match_number table setting s c) s)
      (λ _. step_whole (decode table) setting s c w) (λ _. w)

  -- where a call is refused or its event dropped, it is the state that was given
  abbrev Same : Kept Event → Step → Type 0
  Same k u = keeps u.answer ≡ true → u.next ≡ k

  selected_same : (t : Table) (o : Option ℕ) (k n : Kept Event) → Same k (record { answer = selection t setting o; next = n })
  selected_same t None k n e = absurd (false≢true e)
  selected_same t (Some p) k n e = absurd (false≢true e)

  act_same : (t : Table) (k : Kept Event) (r : RecordRead) → Same k (act t setting k r)
  act_same t k (RecordRead.Refused n) = λ _. refl
  act_same t k (RecordRead.Event x) =
      cond_both (Same k) ((reading_of t setting).known x) (hear t setting k x) (drop_event t setting k)
      (λ _. selected_same t (choice (reading_of t setting) k x) k (hear t setting k x).next) (λ _ _. refl)

  step_same : (t : Table) (k : Kept Event) → Same k (stepped t setting k c)
  unfolding stepped
  step_same t k =
      cond_both (Same k) (eqb (step_number t setting k c) 0) (act t setting k (record_read c.bytes c.order)) (refuse t setting (step_number t setting k c) k)
      (λ _. act_same t k (record_read c.bytes c.order)) (λ _ _. refl)

  next_same : keeps answer.matched ≡ true → answer.state ≡ s
  unfolding call_answer step_answer
  next_same =
      cond_both (λ (a : Answer). keeps a.matched ≡ true → a.state ≡ s) (eqb (match_number table setting s c) 0)
      (step_answer (stepped (decode table) setting (kept_of s) c)) (refused_with (match_number table setting s c) s)
      (λ _ e. ap state_keeping (step_same (decode table) (kept_of s) e) ∙ state_kept s (state_facts s w)) (λ _ _. refl)

-- ---- Lent bytes that hold a whole state

pub record Holds (l : List ℕ) : Type 0 where
  pub long : 200 ≤ length l
  pub is_whole : whole_state (load l) ≡ true

module _ (s : State) (w : whole_state s ≡ true) (l : List ℕ) (h : 200 ≤ length l) where
  stored_loads : load (stored s l) ≡ s
  stored_loads = state_back s (state_facts s w) (drop 200 l)

  stored_holds : Holds (stored s l)
  stored_holds =
      record {
        long = omega (arith, length-append (store s) (drop 200 l), length_store s (state_facts s w), length-drop 200 l);
        is_whole = rw stored_loads w;
      }

  -- what a call leaves, where it keeps the state
  left_loads : (a : Matched) → (keeps a ≡ true → s ≡ load l) → load (left_by a s l) ≡ s
  unfolding left_by
  left_loads a k = go (keeps a) refl
    where
      go : (b : Bool) → keeps a ≡ b → load (cond b l (stored s l)) ≡ s
      go true e = sym (k e)
      go false e = stored_loads

  left_holds : (a : Matched) → Holds l → Holds (left_by a s l)
  unfolding left_by
  left_holds a g = cond_both Holds (keeps a) l (stored s l) (λ _. g) (λ _. stored_holds)

module _ (lent : List ℕ) (h : 200 ≤ length lent) where
  fresh_is : fresh_bytes lent ≡ stored fresh_state lent
  unfolding fresh_bytes
  fresh_is = rw (le-ltb (length lent) 200 h)

  fresh_holds : Holds (fresh_bytes lent)
  fresh_holds = rw fresh_is (stored_holds fresh_state fresh_whole lent h)

  fresh_loads : load (fresh_bytes lent) ≡ fresh_state
  fresh_loads = ap load fresh_is ∙ stored_loads fresh_state fresh_whole lent h

-- ---- `tt_match` does what `match_event` does

module _ (table : List ℕ) (setting : Setting) (l : List ℕ) (c : MatchCall) where
  -- what the matcher answers to the state that the bytes load to
  abbrev pub given : Answer
  given = call_answer table setting (load l) c

  pub answer_is : 200 ≤ length l → matched_on table setting l c.bytes c.order ≡ given.matched
  unfolding matched_on
  answer_is h = rw (le-ltb (length l) 200 h)

  pub left_is : 200 ≤ length l → state_left table setting l c.bytes c.order ≡ left_by given.matched given.state l
  unfolding state_left
  left_is h = rw (le-ltb (length l) 200 h)

  pub refused_left : (a : Matched) (s : State) → (matched_number a ≡ 0 → ⊥) → left_by a s l ≡ l
  unfolding left_by
  refused_left (Matched.Refused n) s f = refl
  refused_left Matched.Dropped s f = refl
  refused_left Matched.Heard s f = absurd (f refl)
  refused_left (Matched.Selected p) s f = absurd (f refl)

  pub left_kept : 200 ≤ length l → (matched_number (matched_on table setting l c.bytes c.order) ≡ 0 → ⊥) → state_left table setting l c.bytes c.order ≡ l
  left_kept h f = left_is h ∙ refused_left given.matched given.state (λ z. f (ap matched_number (answer_is h) ∙ z))

  module _ (g : Holds l) where
    pub given_whole : whole_state given.state ≡ true
    given_whole = next_whole table setting (load l) g.is_whole c

    pub left_good : Holds (state_left table setting l c.bytes c.order)
    left_good = rw (left_is g.long) (left_holds given.state given_whole l g.long given.matched g)

    left_stands : load (state_left table setting l c.bytes c.order) ≡ given.state
    left_stands =
        ap load (left_is g.long)
        ∙ left_loads given.state given_whole l g.long given.matched
        (next_same table setting (load l) g.is_whole c)

views : (table : List ℕ) (setting : Setting) (lent : List ℕ) → 200 ≤ length lent
    → Views (matcher_on_states table setting lent) (matcher_on table setting) load Holds
views table setting lent h =
    record {
      fresh_good = fresh_holds lent h;
      next_good = λ l c g. left_good table setting l c g;
      fresh = fresh_loads lent h;
      answer = λ l c g. answer_is table setting l c g.long;
      next = λ l c g. left_stands table setting l c g;
      refused = λ l c g f. left_kept table setting l c g.long f;
    }

-- ---- The numbers that are returned

-- the number and the selection can be told from the number that is returned
pub record Told (a : Matched) : Type 0 where
  pub number : word_number (matched_word a) ≡ matched_number a
  pub selection : word_selection (matched_word a) ≡ matched_selection a

told_refused : (n : ℕ) → n < 256 → Told (Matched.Refused n)
unfolding matched_word
told_refused n h =
    let e : (n + 256 * 0) / 256 ≡ 0 = omega arith in
    record { number = omega arith; selection = rw e }

told_selected : (p : ℕ) → Told (Matched.Selected p)
unfolding matched_word
told_selected p =
    let e : (0 + 256 * (p + 1)) / 256 ≡ p + 1 = omega arith in
    let f : p + 1 - 1 ≡ p = omega arith in
    record {
      number = omega arith;
      selection = ap (λ (n : ℕ). cond (eqb n 0) None (Some (n - 1))) e ∙ rw (ne_eqb (p + 1) 0 (λ z. omega arith), f);
    }

told_heard : Told Matched.Heard
unfolding matched_word
told_heard = record { number = refl; selection = refl }

told_dropped : Told Matched.Dropped
unfolding matched_word
told_dropped = record { number = refl; selection = refl }

module _ (t : Table) (setting : Setting) where
  told_selection : (o : Option ℕ) → Told (selection t setting o)
  told_selection None = told_heard
  told_selection (Some p) = told_selected p

  told_heard_list : (cs : List MatchCall) (es : List Event) → Told (named_heard t setting cs es)
  told_heard_list cs [] = told_dropped
  told_heard_list cs (e ∷ es) = told_selection (standing_after t setting cs).selected

  told_named : (before : List MatchCall) (c : MatchCall) → Told (named t setting before c)
  unfolding named
  told_named before c =
      cond_both Told (eqb (call_number t setting c) 0) (named_heard t setting (before ++ (c ∷ [])) (heard t setting c)) (Matched.Refused (call_number t setting c))
      (λ _. told_heard_list (before ++ (c ∷ [])) (heard t setting c))
      (λ _. told_refused (call_number t setting c) (order_small (call_checks setting c false)))

  numbers_told : (before cs : List MatchCall) → map word_number (map matched_word (named_from t setting before cs)) ≡ map matched_number (named_from t setting before cs)
  unfolding named_from
  numbers_told before [] = refl
  numbers_told before (c ∷ cs) = ap₂ ◌∷◌ (told_named before c).number (numbers_told (before ++ (c ∷ [])) cs)

  selections_told : (before cs : List MatchCall) → map word_selection (map matched_word (named_from t setting before cs)) ≡ map matched_selection (named_from t setting before cs)
  unfolding named_from
  selections_told before [] = refl
  selections_told before (c ∷ cs) = ap₂ ◌∷◌ (told_named before c).selection (selections_told (before ++ (c ∷ [])) cs)

words_are : (table : List ℕ) (setting : Setting) (lent l : List ℕ) (cs : List MatchCall)
    → words_from table setting l cs ≡ map matched_word (answers_from (matcher_on_states table setting lent) l cs)
unfolding words_from answers_from
words_are table setting lent l [] = refl
words_are table setting lent l (c ∷ cs) =
    ap (λ (ws : List ℕ). matched_word (matched_on table setting l c.bytes c.order) ∷ ws)
    (words_are table setting lent (state_left table setting l c.bytes c.order) cs)

-- ---- Demand 3

module _ (table : List ℕ) (setting : Setting) (lent : List ℕ) (t : Table) (cs : List MatchCall) where
  words_named : Demand3 (matcher_on_states table setting lent) t setting cs
      → words_from table setting (fresh_bytes lent) cs ≡ map matched_word (named_from t setting [] cs)
  words_named d = words_are table setting lent (fresh_bytes lent) cs ∙ ap (map matched_word) d.selects

  on_states : Demand3 (matcher_on_states table setting lent) t setting cs → OnStates table setting lent t cs
  on_states d =
      record {
        demand = d;
        numbers = ap (map word_number) (words_named d) ∙ numbers_told t setting [] cs;
        selections = ap (map word_selection) (words_named d) ∙ selections_told t setting [] cs;
      }

-- from demand 3 of `match_event` on the same bytes
pub states_demand3 :
    (table : List ℕ) (t : Table) → ((setting : Setting) (cs : List MatchCall) → Demand3 (matcher_on table setting) t setting cs)
    → EveryList table t
states_demand3 table t d setting lent h cs =
    on_states table setting lent t cs
    (viewed (matcher_on_states table setting lent) (matcher_on table setting) load Holds (views table setting lent h) t setting cs
    (d setting cs))

pub demand3_on_states : Demand3OnStates
demand3_on_states table w = states_demand3 table (decode table) (demand3_on_whole table w)
