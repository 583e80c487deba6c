-- Document 01, "Numbers handed back" and "The text": what a text compiles to.
-- The recursion with fuel need not be believed by a reader who believes grammar/specs/Compiling and Exact (see Events): `lines_from`
-- and what it calls compute the outcome that the relation `Compiles` there gives. Out of fuel reads as a refusal, and is never reached.
use Rattle.std.specs.Prelude.{ℕ, zero, suc, ◌+◌, Bool, false, cond, ◌||◌, List, [], ◌∷◌, ◌++◌, map, leb, ltb, length, Option, None, Some}
use Rattle.model.specs.Lists.{any, in_all}
use Rattle.model.specs.Limits.{text_limit, production_limit, sequence_limit, event_limit, calls_of_production_limit, call_limit, parameters_of_call_limit, parameter_limit}
use Rattle.model.specs.Numbers.{short_buffer, long_text, bad_byte, not_grammar, past_limit}
use Rattle.model.specs.Bytes.{first_bad_byte}
use Rattle.model.specs.Lines.{line_end, line_at, is_blank_line, directive_at}
use Rattle.model.specs.Events.{WrittenEvent, EventsRead, events, left_side}
use Rattle.model.specs.Calls.{WrittenCall, CallsRead, calls, right_side}
use Rattle.model.specs.Judging.{judged}
use Rattle.model.specs.Tables.{Call, Production, Table}
use Rattle.model.specs.Counts.{sequence}
use Rattle.model.specs.declared.scan.Span.{Span}
use Rattle.model.specs.declared.events.KeptEvent.{KeptEvent}
use Rattle.model.specs.declared.events.Directive.{Directive}
use Rattle.model.specs.declared.answers.Judged.{Judged}
use Rattle.model.specs.declared.answers.Compiled.{Compiled}

-- ---- Limits: "11: a limit above passed"

-- "Events in one production after expansion: 24"; "Calls: 8 a production"; "Parameters: 8 a call"
unfoldable pub production_passes : Production → Bool
production_passes p =
    ltb sequence_limit (length (sequence p))
    || ltb calls_of_production_limit (length p.calls)
    || any (λ c. ltb parameters_of_call_limit (length c.parameters)) p.calls

abbrev pub events_in_all : List Production → ℕ
events_in_all ps = in_all (λ p. length (sequence p)) ps

abbrev pub calls_in_all : List Production → ℕ
calls_in_all ps = in_all (λ p. length p.calls) ps

abbrev pub parameters_in_all : List Production → ℕ
parameters_in_all ps = in_all (λ p. in_all (λ c. length c.parameters) p.calls) ps

-- "in all, 256", "128 in all", "256 in all"
unfoldable pub totals_pass : List Production → Bool
totals_pass ps =
    ltb production_limit (length ps)
    || ltb event_limit (events_in_all ps)
    || ltb call_limit (calls_in_all ps)
    || ltb parameter_limit (parameters_in_all ps)

unfoldable pub passes_limit : List Production → Bool
passes_limit ps = any production_passes ps || totals_pass ps

-- ---- A line

-- a production as it is written, none where the line is not in the grammar
pub data LineRead : Type 0 where
  broken : LineRead
  production : List WrittenEvent → List WrittenCall → LineRead

abbrev pub with_calls : List WrittenEvent → CallsRead → LineRead
with_calls es CallsRead.broken = broken
with_calls es (calls cs) = production es cs

abbrev pub with_events : List ℕ → EventsRead → LineRead
with_events l EventsRead.broken = broken
with_events l (events es next) = with_calls es (right_side l next)

-- "A production is events parted by commas, a colon, then zero or more calls."
unfoldable pub line_read : List ℕ → LineRead
line_read l = with_events l (left_side l)

pub data EventsJudged : Type 0 where
  keep : List KeptEvent → EventsJudged
  -- no event is refused, and one names too many keysyms
  crowded : EventsJudged
  refuse : ℕ → EventsJudged

abbrev pub keep_one_more : KeptEvent → EventsJudged → EventsJudged
keep_one_more e (keep es) = keep (e ∷ es)
keep_one_more e crowded = crowded
keep_one_more e (refuse n) = refuse n

abbrev pub crowded_with : EventsJudged → EventsJudged
crowded_with (keep es) = crowded
crowded_with crowded = crowded
crowded_with (refuse n) = refuse n

abbrev pub judged_next : Judged → EventsJudged → EventsJudged
judged_next (Judged.Keep e) rest = keep_one_more e rest
judged_next Judged.Crowded rest = crowded_with rest
judged_next (Judged.Refuse n) rest = refuse n

-- "event by event": the number of the earliest event that is refused, or all events
unfoldable pub judged_all : List WrittenEvent → EventsJudged
judged_all [] = keep []
judged_all (e ∷ es) = judged_next (judged e) (judged_all es)

-- spans of a line that begins at `base` in its text
abbrev pub in_text : ℕ → Span → Span
in_text base s = record { start = base + s.start; len = s.len }

abbrev pub call_of : ℕ → WrittenCall → Call
call_of base c = record { second = false; name = in_text base c.name; parameters = map (in_text base) c.parameters }

-- what a line that is not blank comes to
pub data LineOutcome : Type 0 where
  add : Production → LineOutcome
  refuse : ℕ → LineOutcome

-- "then 11 with that line counted"
abbrev pub within_limits : List Production → Production → LineOutcome
within_limits before p = cond (passes_limit (before ++ (p ∷ []))) (LineOutcome.refuse past_limit) (add p)

abbrev pub line_judged : List Production → ℕ → EventsJudged → List WrittenCall → LineOutcome
line_judged before base (keep es) cs = within_limits before (record { events = es; calls = map (call_of base) cs })
line_judged before base crowded cs = LineOutcome.refuse past_limit
line_judged before base (EventsJudged.refuse n) cs = LineOutcome.refuse n

-- "4 for the whole line; then event by event ..; then 11 with that line counted"
abbrev pub line_from : List Production → ℕ → LineRead → LineOutcome
line_from before base broken = LineOutcome.refuse not_grammar
line_from before base (production es cs) = line_judged before base (judged_all es) cs

unfoldable pub line_outcome : List Production → ℕ → List ℕ → LineOutcome
line_outcome before base line = line_from before base (line_read line)

-- ---- A text

-- a model table, or a number and a place
pub data Outcome : Type 0 where
  accepted : Table → Outcome
  refused : (number place : ℕ) → Outcome

abbrev pub table_of : List ℕ → Directive → List Production → Table
table_of text directive ps =
    record { directive = directive; merged = false; first_length = length text; second_length = 0; productions = ps }

-- the line that ends at `end` is done: the table, or the next line
abbrev pub go_on : List ℕ → ℕ → Directive → List Production → (ℕ → Directive → List Production → Outcome) → Outcome
go_on text end directive ps rest = cond (leb (length text) end) (accepted (table_of text directive ps)) (rest (end + 1) directive ps)

-- "The place is .. the start of the line for 4..11"
abbrev pub after_line : List ℕ → ℕ → Directive → List Production → LineOutcome → (ℕ → Directive → List Production → Outcome) → Outcome
after_line text at directive ps (add p) rest = go_on text (line_end text at) directive (ps ++ (p ∷ [])) rest
after_line text at directive ps (LineOutcome.refuse n) rest = refused n at

abbrev pub after_directive : List ℕ → ℕ → Directive → List Production → Option Directive → (ℕ → Directive → List Production → Outcome) → Outcome
after_directive text at directive ps (Some d) rest = go_on text (line_end text at) d ps rest
after_directive text at directive ps None rest =
    cond (is_blank_line (line_at text at))
    (go_on text (line_end text at) directive ps rest)
    (after_line text at directive ps (line_outcome ps at (line_at text at)) rest)

-- where the fuel of `lines_from` ends, which is never reached (`enough` of grammar/specs/Exact): a refusal by 1, which no line gives
abbrev pub out_of_fuel : ℕ → Outcome
out_of_fuel at = refused short_buffer at

-- "line by line": the lines from a position on, after productions; fuel bounds how many
unfoldable pub lines_from : ℕ → List ℕ → ℕ → Directive → List Production → Outcome
lines_from zero text at directive ps = out_of_fuel at
lines_from (suc fuel) text at directive ps =
    after_directive text at directive ps (directive_at text at) (λ p d qs. lines_from fuel text p d qs)

-- "none means replace"
unfoldable pub lines_of : List ℕ → Outcome
lines_of text = lines_from (length text + 1) text 0 Directive.Replace []

-- "then 3 over the whole text, then line by line"; "The place is the byte for 3"
abbrev pub after_bytes : List ℕ → Option ℕ → Outcome
after_bytes text (Some place) = refused bad_byte place
after_bytes text None = lines_of text

-- what a text compiles to
unfoldable pub compiled : List ℕ → Outcome
compiled text = cond (ltb text_limit (length text)) (refused long_text 0) (after_bytes text (first_bad_byte text))

-- "Compiling checks 1, 2, then 3 over the whole text, then line by line."
unfoldable pub compile_outcome : (short : Bool) → List ℕ → Outcome
compile_outcome short text = cond short (refused short_buffer 0) (compiled text)

abbrev pub outcome_answer : Outcome → Compiled
outcome_answer (accepted t) = Compiled.Accepted
outcome_answer (refused n p) = Compiled.Refused n p
