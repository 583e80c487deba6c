-- The events of a line, judged: what the code keeps of them.
use Rattle.std.specs.Prelude.{ℕ, Bool, true, false, cond, length}
use Rattle.model.specs.Numbers.{not_grammar}
use Rattle.model.specs.Counts.{expanded}
use Rattle.model.specs.Events.{EventsRead, events}
use Rattle.model.specs.Compiling.{EventsJudged, keep, crowded, judged_all}
use Rattle.lines.specs.declared.left.LeftJudged.{LeftJudged}
use Rattle.lines.specs.declared.left.StepJudged.{StepJudged}

-- something was read
abbrev pub IsRead : EventsRead → Type 0
IsRead EventsRead.broken = ⊥
IsRead (events es next) = Unit

-- where no event is refused
abbrev pub finished : (is_crowded : Bool) (count elements : ℕ) → LeftJudged
finished is_crowded count elements = cond is_crowded LeftJudged.Crowded (LeftJudged.Keep count elements)

abbrev pub kept_counts : EventsJudged → LeftJudged
kept_counts (keep ks) = LeftJudged.Keep (length ks) (length (expanded ks))
kept_counts crowded = LeftJudged.Crowded
kept_counts (EventsJudged.refuse n) = LeftJudged.Refuse n

-- the earliest refusal, or how much is kept
abbrev pub side_judged : EventsRead → LeftJudged
side_judged EventsRead.broken = LeftJudged.Refuse not_grammar
side_judged (events es next) = kept_counts (judged_all es)

-- the same, with how many events there are in all, and where reading goes on
abbrev pub going_on : ℕ → LeftJudged → ℕ → StepJudged
going_on count (LeftJudged.Refuse n) next = StepJudged.Refuse n
going_on count LeftJudged.Crowded next = StepJudged.Keep count 0 true next
going_on count (LeftJudged.Keep kept elements) next = StepJudged.Keep kept elements false next

abbrev pub step_judged : EventsRead → StepJudged
step_judged EventsRead.broken = StepJudged.Broken
step_judged (events es next) = going_on (length es) (kept_counts (judged_all es)) next
