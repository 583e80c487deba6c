use Rattle.scanner.proofs.Runs.{test_in, test_is, test_not}
use Rattle.call_scanner.specs.RightSide.{open_at, open_from}
use native.Mathlib.Omega.{arith}
use Rattle.call_scanner.proofs.right.open_parameters.Goals as goal

pub overflow_add-result : goal.overflow_add-result
overflow_add-result c = omega (arith, test_in c.args.l.now c.skip-start.result 41 (omega arith) c.byte_at.ensures c.if-byte_at-eq41.true)

pub returns-then-byte_at-eq41 : goal.returns-then-byte_at-eq41
unfolding open_at open_from
returns-then-byte_at-eq41 c = rw (← c.skip-start.ensures, test_is c.byte_at.ensures c.if-byte_at-eq41.true)

pub returns : goal.returns
unfolding open_at open_from
returns c = rw (← c.skip-start.ensures, test_not c.byte_at.ensures c.if-byte_at-eq41.false)
