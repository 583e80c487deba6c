use Rattle.model.specs.Events.{count_digits, count_run}
use Rattle.model.specs.declared.scan.Class.{Class}
use Rattle.scanner.proofs.Runs.{run_in, test_is, test_not}
use native.Mathlib.Omega.{arith}
use Rattle.event_scanner.proofs.types.count_digits.Goals as goal

pub returns-then-stop-start : goal.returns-then-stop-start
unfolding count_digits count_run
returns-then-stop-start c = rw (test_is c.run_end-stop.ensures c.if-stop-start.true)

pub skip-after-requires : goal.skip-after-requires
skip-after-requires c = omega (arith, run_in Class.Digit c.args.l.now c.args.start c.requires)

pub returns : goal.returns
unfolding count_digits count_run
returns c = rw (c.count_plus.ensures, c.skip-after.ensures, c.run_end-stop.ensures, test_not c.run_end-stop.ensures c.if-stop-start.false)
