-- What a call answers on a table and a state that are whole: the case, and the state for the next call.
use Rattle.std.specs.Prelude.{ℕ, List}
use Rattle.model.specs.Demand.{MatchCall}
use Rattle.model.specs.declared.answers.Matched.{Matched}
use Rattle.machine.specs.Kept.{Step}
use Rattle.states.specs.declared.State.{State}
use Rattle.states.specs.State.{state_keeping}
use Rattle.acting.specs.declared.Answer.{Answer}

abbrev pub match_call : (bytes : List ℕ) → (order : ℕ) → MatchCall
match_call bytes order = record { bytes = bytes; order = order }

-- the answer with the state that stands for what is kept
unfoldable pub step_answer : Step → Answer
step_answer s = record { matched = s.answer; state = state_keeping s.next }

-- "A refused matcher call keeps the state and selects none."
abbrev pub refused_with : ℕ → State → Answer
refused_with n s = record { matched = Matched.Refused n; state = s }
