-- What `tt_match` and `tt_fresh` answer, and what they leave in the lent state, for all input.
use Rattle.std.specs.Prelude.{ℕ, ◌+◌, ◌*◌, Bool, true, false, cond, List, ◌++◌, ltb, length, drop, Option, None, Some}
use Rattle.model.specs.Numbers.{no_refusal, short_buffer, matched_number, matched_selection}
use Rattle.model.specs.Setting.{Setting}
use Rattle.model.specs.declared.answers.Matched.{Matched}
use Rattle.states.specs.declared.State.{State}
use Rattle.acting.specs.declared.Answer.{Answer}
use Rattle.states.specs.State.{fresh_state}
use Rattle.matcher.specs.Match.{match_answer}
use Rattle.capi.specs.State.{state_length, store, load}

-- "1: a lent buffer is too short"
abbrev pub state_short : List ℕ → Bool
state_short state = ltb (length state) state_length

-- the lent bytes with a state stored in them; bytes past it stay
abbrev pub stored : State → List ℕ → List ℕ
stored s state = store s ++ drop state_length state

-- ---- A fresh state

abbrev pub fresh_number : List ℕ → ℕ
fresh_number state = cond (state_short state) short_buffer no_refusal

unfoldable pub fresh_bytes : List ℕ → List ℕ
fresh_bytes state = cond (state_short state) state (stored fresh_state state)

-- ---- A call

-- 0 for none, else the production + 1
abbrev pub selection_mark : Option ℕ → ℕ
selection_mark None = 0
selection_mark (Some p) = p + 1

-- number + 256 × (0 none, production + 1)
unfoldable pub matched_word : Matched → ℕ
matched_word a = matched_number a + 256 * selection_mark (matched_selection a)

-- "A refused matcher call keeps the state"; a dropped event leaves it too
abbrev pub keeps : Matched → Bool
keeps (Matched.Refused n) = true
keeps Matched.Dropped = true
keeps Matched.Heard = false
keeps (Matched.Selected p) = false

unfoldable pub left_by : Matched → State → List ℕ → List ℕ
left_by a next state = cond (keeps a) state (stored next state)

module _ (table : List ℕ) (setting : Setting) (state bytes : List ℕ) (order : ℕ) where
  -- what the matcher answers to the state that the bytes load to
  abbrev pub answer_on : Answer
  answer_on = match_answer table setting (load state) bytes order

  unfoldable pub matched_on : Matched
  matched_on = cond (state_short state) (Matched.Refused short_buffer) answer_on.matched

  unfoldable pub state_left : List ℕ
  state_left = cond (state_short state) state (left_by answer_on.matched answer_on.state state)
