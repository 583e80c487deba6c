use Rattle.model.specs.Calls.{call_at}
use Rattle.call_scanner.proofs.calls.call_at.Goals as goal

pub returns : goal.returns
unfolding call_at
returns c = rw (c.call_from.ensures, c.skip-start.ensures)
