use Rattle.model.specs.Events.{modifier_at}
use Rattle.scanner.proofs.Runs.{skip_in}
use native.Mathlib.Omega.{arith}
use Rattle.list_scanner.proofs.modifiers.modifier_at.Goals as goal

pub modifier_from-requires : goal.modifier_from-requires
modifier_from-requires c = omega (arith, skip_in c.args.l.now c.args.at c.requires)

pub returns : goal.returns
unfolding modifier_at
returns c = rw (c.modifier_from.ensures, c.skip-start.ensures)
