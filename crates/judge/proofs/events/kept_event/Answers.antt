-- `judge::events::kept_event` meets its contract.
use Rattle.judge.specs.Judged.{event_of_parts}
use Rattle.judge.proofs.events.kept_event.Goals as goal

pub returns : goal.returns
unfolding event_of_parts
returns c = rw (c.kept_clear.ensures, c.forms_of-names.ensures)
