use Rattle.model.specs.Events.{lead_at}
use Rattle.list_scanner.proofs.modifiers.lead_at.Goals as goal

pub returns : goal.returns
unfolding lead_at
returns c = rw (c.lead_from.ensures, c.skip-start.ensures)
