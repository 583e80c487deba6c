-- The matcher's answer, as a definition of its input alone.
use Rattle.std.specs.Prelude.{ℕ, Bool, false, cond, not, ◌||◌, List, eqb, ltb, length, Option, None}
use Rattle.model.specs.Limits.{map_length}
use Rattle.model.specs.Numbers.{MatchChecks, match_order}
use Rattle.model.specs.Setting.{Setting}
use Rattle.model.specs.Resolving.{is_bad_map}
use Rattle.model.specs.Tables.{Table}
use Rattle.model.specs.Records.{is_bad_record, record_read}
use Rattle.model.specs.Matching.{reading_of}
use Rattle.model.specs.Demand.{MatchCall}
use Rattle.model.specs.declared.events.Event.{Event}
use Rattle.model.specs.declared.answers.RecordRead.{RecordRead}
use Rattle.machine.specs.Kept.{Kept, choice, passes_context, stepped}
use Rattle.tables.specs.Layout.{table_length}
use Rattle.tables.specs.Reading.{decode}
use Rattle.tables.specs.Whole.{whole}
use Rattle.states.specs.declared.State.{State}
use Rattle.states.specs.State.{kept_of, whole_state}
use Rattle.acting.specs.declared.Answer.{Answer}
use Rattle.acting.specs.Act.{match_call, step_answer, refused_with}

-- ---- The number

-- number 1: "a lent buffer is too short (keyboard map: not 496 numbers)"
unfoldable pub too_short : (table map : List ℕ) → Bool
too_short table map = ltb (length table) table_length || not (eqb (length map) map_length)

-- the checks that come before the record is looked at
abbrev pub early_checks : (short modifiers_bad table_broken state_broken : Bool) → MatchChecks
early_checks short modifiers_bad table_broken state_broken =
    record {
      short = short;
      modifiers_bad = modifiers_bad;
      table_broken = table_broken;
      state_broken = state_broken;
      record_bad = false;
      full = false;
    }

-- "Matcher: 1, 12, 14, 13, 15."; R-1: "18 .. after 1"
unfoldable pub match_number : (table : List ℕ) → Setting → State → MatchCall → ℕ
match_number table setting s c =
    match_order (
    record {
      short = too_short table setting.keyboard;
      modifiers_bad = is_bad_map setting.modifiers;
      table_broken = not (whole table);
      state_broken = not (whole_state s);
      record_bad = is_bad_record c.bytes c.order;
      full = passes_context (decode table) setting (kept_of s) (record_read c.bytes c.order);
    }
    )

-- ---- The selection

-- what rule 4 selects at an event that is heard
abbrev pub read_selection : Table → Setting → Kept Event → RecordRead → Option ℕ
read_selection t setting k (RecordRead.Event x) = cond ((reading_of t setting).known x) (choice (reading_of t setting) k x) None
read_selection t setting k (RecordRead.Refused n) = None

-- and at a call that is accepted
unfoldable pub match_selection : (table : List ℕ) → Setting → State → MatchCall → Option ℕ
match_selection table setting s c =
    cond (eqb (match_number table setting s c) 0)
    (read_selection (decode table) setting (kept_of s) (record_read c.bytes c.order))
    None

-- ---- The whole answer: the case, and the state for the next call

unfoldable pub call_answer : (table : List ℕ) → Setting → State → MatchCall → Answer
call_answer table setting s c =
    cond (eqb (match_number table setting s c) 0)
    (step_answer (stepped (decode table) setting (kept_of s) c))
    (refused_with (match_number table setting s c) s)

abbrev pub match_answer : (table : List ℕ) → Setting → State → (bytes : List ℕ) → (order : ℕ) → Answer
match_answer table setting s bytes order = call_answer table setting s (match_call bytes order)
