-- The number that reading a record gives, and the event.
use Rattle.std.specs.Prelude.{ℕ, cond, List, Option, None, Some}
use Rattle.model.specs.Numbers.{no_refusal, bad_record}
use Rattle.model.specs.Records.{code_of, event_of, is_bad_record}
use Rattle.model.specs.declared.events.Event.{Event}

-- 13, or accepted
abbrev pub read_number : (bytes : List ℕ) → (order : ℕ) → ℕ
read_number bytes order = cond (is_bad_record bytes order) bad_record no_refusal

-- the event of a record that is accepted
abbrev pub read_event : (bytes : List ℕ) → (order : ℕ) → Option Event
read_event bytes order = cond (is_bad_record bytes order) None (Some (event_of bytes order (code_of bytes)))
