-- A line, judged: what the code keeps of the model's outcome.
use Rattle.std.specs.Prelude.{ℕ, Bool, cond, ◌||◌, List, ltb}
use Rattle.model.specs.Limits.{production_limit, sequence_limit, event_limit, calls_of_production_limit, call_limit, parameters_of_call_limit, parameter_limit}
use Rattle.model.specs.Numbers.{not_grammar, past_limit}
use Rattle.model.specs.Events.{EventsRead, events, left_side}
use Rattle.model.specs.Calls.{right_side}
use Rattle.model.specs.Compiling.{LineOutcome, add}
use Rattle.event_scanner.specs.declared.left.LeftRead.{LeftRead}
use Rattle.call_scanner.specs.declared.right.RightRead.{RightRead}
use Rattle.call_scanner.specs.RightSide.{right_of}
use Rattle.lines.specs.declared.totals.Totals.{Totals}
use Rattle.lines.specs.declared.totals.Line.{Line}
use Rattle.lines.specs.declared.left.LeftJudged.{LeftJudged}
use Rattle.lines.specs.declared.line.LineJudged.{LineJudged}
use Rattle.lines.specs.Totals.{held_line, with_line}

-- where the calls of a line begin
abbrev pub calls_found : EventsRead → ℕ
calls_found EventsRead.broken = 0
calls_found (events es next) = next

unfoldable pub calls_start : List ℕ → ℕ
calls_start l = calls_found (left_side l)

-- the refusal, or the production by its counts
abbrev pub judged_of : ℕ → LineOutcome → LineJudged
judged_of right (add p) = LineJudged.Add (held_line right p)
judged_of right (LineOutcome.refuse n) = LineJudged.Refuse n

-- a limit of one production is passed; `most` is the largest number of parameters that one call has
unfoldable pub line_passes : Line → ℕ → Bool
line_passes line most =
    ltb sequence_limit line.elements || ltb calls_of_production_limit line.calls || ltb parameters_of_call_limit most

-- a limit in all is passed
unfoldable pub all_pass : Totals → Bool
all_pass t =
    ltb production_limit t.productions
    || ltb event_limit t.elements
    || ltb call_limit t.calls
    || ltb parameter_limit t.parameters

-- "then 11 with that line counted"
unfoldable pub limited : Totals → Line → ℕ → LineJudged
limited t line most =
    cond (line_passes line most || all_pass (with_line t line)) (LineJudged.Refuse past_limit) (LineJudged.Add line)

-- ---- "4 for the whole line; then event by event ..; then 11 with that line counted"

-- of a line in the grammar, by what its left side came to and by its calls
abbrev pub left_verdict : Totals → ℕ → (count parameters most : ℕ) → LeftJudged → LineJudged
left_verdict t right count parameters most (LeftJudged.Refuse n) = LineJudged.Refuse n
left_verdict t right count parameters most LeftJudged.Crowded = LineJudged.Refuse past_limit
left_verdict t right count parameters most (LeftJudged.Keep kept elements) =
    limited t (record { events = kept; elements = elements; calls = count; parameters = parameters; right = right }) most

-- of a line whose left side is in the grammar
abbrev pub right_verdict : Totals → ℕ → LeftJudged → RightRead → LineJudged
right_verdict t right j RightRead.Broken = LineJudged.Refuse not_grammar
right_verdict t right j (RightRead.Right count parameters most) = left_verdict t right count parameters most j

-- of any line
abbrev pub sides_verdict : Totals → List ℕ → LeftJudged → LeftRead → LineJudged
sides_verdict t l j LeftRead.Broken = LineJudged.Refuse not_grammar
sides_verdict t l j (LeftRead.Left next) = right_verdict t next j (right_of (right_side l next))
