-- What an event that is heard comes to, in machine's terms: what is left for it, and the answer of what it leaves.
use Rattle.std.specs.Prelude.{ℕ, pred, Bool, not, ◌&&◌, List, eqb, length, take}
use Rattle.model.specs.Codes.{is_motion}
use Rattle.model.specs.Setting.{Setting}
use Rattle.model.specs.Tables.{Table}
use Rattle.model.specs.Selection.{falls_back}
use Rattle.model.specs.Matching.{reading_of}
use Rattle.model.specs.Demand.{selection}
use Rattle.model.specs.declared.events.Event.{Event}
use Rattle.model.specs.declared.answers.Matched.{Matched}
use Rattle.machine.specs.Kept.{Kept, longest_end, reopened, chosen_in, marked}
use Rattle.walk.specs.declared.Passed.{Passed}
use Rattle.states.specs.State.{slots_of}
use Rattle.acting.specs.declared.Answer.{Answer}
use Rattle.acting.specs.declared.moves.Left.{Left}
use Rattle.acting.specs.Act.{step_answer}

-- ---- What is left

-- it is a motion event
abbrev pub moves : Event → Bool
moves x = is_motion x.code

-- what bytes and marks keep
abbrev pub kept_in : List ℕ → (kept selected : ℕ) → (is_open : Bool) → Kept Event
kept_in bytes kept selected is_open = record { events = take kept (slots_of bytes); selected = selected; is_open = is_open }

-- how many events are left, and their marks
abbrev pub left_marks : Kept Event → Left
left_marks k = record { kept = length k.events; selected = k.selected; «open» = k.is_open }

-- those of what is left without the last event
abbrev pub short_marks : (kept selected : ℕ) → (is_open : Bool) → Left
short_marks kept selected is_open =
    record { kept = pred kept; selected = falls_back kept selected; «open» = is_open && not (eqb kept 1) }

-- ---- The answer

abbrev pub matched_by : Passed → Matched
matched_by Passed.No = Matched.Heard
matched_by Passed.Prefix = Matched.Heard
matched_by (Passed.Chosen p) = Matched.Selected p

-- at a selection every event of the context is used up
abbrev pub mark_by : Passed → (kept selected : ℕ) → ℕ
mark_by Passed.No kept selected = selected
mark_by Passed.Prefix kept selected = selected
mark_by (Passed.Chosen p) kept selected = kept

unfoldable pub answer_with : Passed → (kept selected : ℕ) → (is_open : Bool) → List ℕ → Answer
answer_with found kept selected is_open bytes =
    record {
      matched = matched_by found;
      state = record { kept = kept; selected = mark_by found kept selected; «open» = is_open; events = bytes };
    }

-- where rule 3 comes to this: what rule 4 selects, and the state
unfoldable pub answer_of : Table → Setting → Kept Event → Answer
answer_of t setting k =
    step_answer (
    record {
      answer = selection t setting (chosen_in (reading_of t setting) k);
      next = marked (reading_of t setting) k (chosen_in (reading_of t setting) k);
    }
    )

-- where no context goes on, and a new start may take these events
unfoldable pub restarted : Table → Setting → (moving : Bool) → (rest : List Event) → Answer
restarted t setting moving rest =
    answer_of t setting (reopened (reading_of t setting) moving rest (longest_end (reading_of t setting) rest))
