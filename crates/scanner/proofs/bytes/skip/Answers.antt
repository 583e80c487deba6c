use Rattle.model.specs.Bytes.{skip}
use Rattle.scanner.proofs.bytes.skip.Goals as goal

pub returns : goal.returns
unfolding skip
returns c = c.run_end.ensures
