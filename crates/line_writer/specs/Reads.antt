-- What the walks over a line come to and rely on: what they meet is in the grammar, and fits what is left of the table.
use Rattle.std.specs.Prelude.{ℕ, ◌+◌, ◌≤◌, ◌<◌, ◌≡◌, false, List, [], map, length}
use Rattle.model.specs.Lists.{in_all}
use Rattle.model.specs.Events.{EventsRead, events, left_side}
use Rattle.model.specs.Calls.{span, Parameters, parameters, parameters_at, CallsRead, calls, right_side}
use Rattle.model.specs.Compiling.{in_text, call_of}
use Rattle.model.specs.declared.scan.Span.{Span}
use Rattle.event_scanner.specs.Spans.{events_in}
use Rattle.event_scanner.specs.LeftSide.{left_of}
use Rattle.event_scanner.specs.declared.left.LeftRead.{LeftRead}
use Rattle.call_scanner.specs.RightSide.{parameter_number, calls_in}
use Rattle.call_scanner.specs.declared.right.CallSpans.{CallSpans}
use Rattle.lines.specs.Left.{IsRead, side_judged}
use Rattle.lines.specs.declared.left.LeftJudged.{LeftJudged}
use Rattle.line_writer.specs.declared.events.LeftWritten.{LeftWritten}
use Rattle.tables.specs.Writing.{put_call}
use Rattle.line_writer.specs.Puts.{put_written, put_parameters, put_calls}

-- from event k on
abbrev pub EventsFit : EventsRead → ℕ → Type 0
EventsFit EventsRead.broken k = ⊥
EventsFit (events es next) k = k + length es ≤ 256

-- the bytes hold the events of a line from event k on, where they fit
abbrev pub EventsPut : (l : List ℕ) (k : ℕ) (before after : List ℕ) → Type 0
EventsPut l k before after = EventsFit (left_side l) k → after ≡ put_written before k (events_in (left_side l))

-- what the walk over a left side came to, with its events from event k on
abbrev pub LeftDone : (l : List ℕ) (k : ℕ) (before after : List ℕ) → LeftWritten → Type 0
LeftDone l k before after LeftWritten.Broken = left_of (left_side l) ≡ LeftRead.Broken
LeftDone l k before after (LeftWritten.Refuse n) = IsRead (left_side l) → side_judged (left_side l) ≡ LeftJudged.Refuse n
LeftDone l k before after (LeftWritten.Read left next) =
    (left_of (left_side l) ≡ LeftRead.Left next) × (side_judged (left_side l) ≡ left) × EventsPut l k before after

-- from parameter k on
abbrev pub ParametersFit : Parameters → ℕ → Type 0
ParametersFit Parameters.broken k = ⊥
ParametersFit (parameters ss next) k = k + length ss ≤ 256

abbrev pub spans_in : Parameters → List Span
spans_in Parameters.broken = []
spans_in (parameters ss next) = ss

-- from call n and parameter p on
abbrev pub CallsFit : CallsRead → ℕ → ℕ → Type 0
CallsFit CallsRead.broken n p = ⊥
CallsFit (calls cs) n p = (n + length cs ≤ 128) × (p + in_all parameter_number cs ≤ 256)

-- a call whose name and parameters were read: it is call n, its parameters stand from p on, and the bytes hold it where it fits
abbrev pub CallPut : List ℕ → ℕ → (n p : ℕ) (before after : List ℕ) → CallSpans → Type 0
CallPut l base n p before after CallSpans.Broken = Unit
CallPut l base n p before after CallSpans.End = after ≡ before
CallPut l base n p before after (CallSpans.Call start end count next) =
    n < 128 → ParametersFit (parameters_at l (end + 1)) p
    → after ≡ put_call (put_parameters before p (map (in_text base) (spans_in (parameters_at l (end + 1))))) n false (in_text base (span start end)) count

-- the bytes hold the calls of a line that begins at `base`, its calls at `right`, where they fit
abbrev pub CallsPut : List ℕ → (base right n p : ℕ) (before after : List ℕ) → Type 0
CallsPut l base right n p before after =
    CallsFit (right_side l right) n p → after ≡ put_calls before n p (map (call_of base) (calls_in (right_side l right)))
