use Rattle.model.specs.Calls.{parameter_at}
use Rattle.scanner.proofs.Runs.{skip_in}
use native.Mathlib.Omega.{arith}
use Rattle.call_scanner.proofs.calls.parameter_at.Goals as goal

pub parameter_from-requires : goal.parameter_from-requires
parameter_from-requires c = omega (arith, skip_in c.args.l.now c.args.at c.requires)

pub returns : goal.returns
unfolding parameter_at
returns c = rw (c.parameter_from.ensures, c.skip-start.ensures)
