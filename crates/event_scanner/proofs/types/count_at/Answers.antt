use Rattle.model.specs.Events.{count_at}
use Rattle.event_scanner.proofs.types.count_at.Goals as goal

pub returns : goal.returns
unfolding count_at
returns c = rw (c.count_from.ensures, c.skip-start.ensures)
