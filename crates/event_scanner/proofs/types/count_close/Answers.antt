use Rattle.model.specs.Events.{count_close}
use Rattle.scanner.proofs.Runs.{test_in, test_is, test_not}
use native.Mathlib.Omega.{arith}
use Rattle.event_scanner.proofs.types.count_close.Goals as goal

pub overflow_add-result : goal.overflow_add-result
overflow_add-result c = omega (arith, test_in c.args.l.now c.args.close 41 (omega arith) c.byte_at.ensures c.if-byte_at-eq41.true)

pub returns-then-byte_at-eq41 : goal.returns-then-byte_at-eq41
unfolding count_close
returns-then-byte_at-eq41 c = rw (test_is c.byte_at.ensures c.if-byte_at-eq41.true)

pub returns : goal.returns
unfolding count_close
returns c = rw (test_not c.byte_at.ensures c.if-byte_at-eq41.false)
