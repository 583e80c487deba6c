-- What document 01 says of every call of `match_event`, about the values that it answers: for all bytes, states and records.
-- Shown in proofs/AnswerLaws.
use Rattle.std.specs.Prelude.{ℕ, ◌≡◌, true, false, List, None}
use Rattle.model.specs.Numbers.{matched_number, matched_selection}
use Rattle.model.specs.Setting.{Setting}
use Rattle.model.specs.Records.{record_read}
use Rattle.model.specs.Lists.{any}
use Rattle.model.specs.Matching.{has_type}
use Rattle.model.specs.declared.events.Event.{Event}
use Rattle.model.specs.declared.answers.RecordRead.{RecordRead}
use Rattle.model.specs.declared.answers.Matched.{Matched}
use Rattle.tables.specs.Reading.{decode}
use Rattle.states.specs.declared.State.{State}
use Rattle.states.specs.State.{whole_state}
use Rattle.matcher.specs.Match.{match_answer}

pub record AnswerLaws (table : List ℕ) (setting : Setting) (s : State) (bytes : List ℕ) (order : ℕ) : Type 0 where
  -- "A refused matcher call keeps the state and selects none."
  pub refused :
      (matched_number (match_answer table setting s bytes order).matched ≡ 0 → ⊥)
      → (matched_selection (match_answer table setting s bytes order).matched ≡ None)
      × ((match_answer table setting s bytes order).state ≡ s)
  -- rule 1: "An event whose type no production has, expansion included, is dropped"
  pub unknown :
      (x : Event) → matched_number (match_answer table setting s bytes order).matched ≡ 0
      → record_read bytes order ≡ RecordRead.Event x → any (has_type x.code) (decode table).productions ≡ false
      → (match_answer table setting s bytes order).matched ≡ Matched.Dropped
  -- "none selected, state unchanged"
  pub dropped :
      (match_answer table setting s bytes order).matched ≡ Matched.Dropped
      → (matched_selection (match_answer table setting s bytes order).matched ≡ None)
      × ((match_answer table setting s bytes order).state ≡ s)
  -- "Every .. state that an accepted call gives is whole"
  pub accepted :
      matched_number (match_answer table setting s bytes order).matched ≡ 0
      → whole_state (match_answer table setting s bytes order).state ≡ true

abbrev pub EveryAnswer : Type 0
EveryAnswer =
    (table : List ℕ) (setting : Setting) (s : State) (bytes : List ℕ) (order : ℕ) → AnswerLaws table setting s bytes order
