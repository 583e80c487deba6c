use Rattle.scanner.proofs.Runs.{skip_in}
use native.Mathlib.Omega.{arith}
use Rattle.event_scanner.proofs.events.with_detail.Goals as goal

pub run_end-end-requires : goal.run_end-end-requires
run_end-end-requires c = omega (arith, skip_in c.args.l.now c.args.at c.requires)

pub returns : goal.returns
returns c = rw (c.run_end-end.ensures, c.skip-start.ensures)
