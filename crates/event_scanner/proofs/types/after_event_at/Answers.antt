use Rattle.model.specs.Events.{after_event_at}
use Rattle.event_scanner.proofs.types.after_event_at.Goals as goal

pub returns : goal.returns
unfolding after_event_at
returns c = rw (c.after_event_from.ensures, c.skip-start.ensures)
