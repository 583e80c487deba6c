use Rattle.model.specs.Calls.{parameter_end}
use Rattle.scanner.proofs.Runs.{test_in, test_is, test_not}
use native.Mathlib.Omega.{arith}
use Rattle.call_scanner.proofs.calls.parameter_end.Goals as goal

pub overflow_add-result : goal.overflow_add-result
overflow_add-result c = omega (arith, test_in c.args.l.now c.args.at 44 (omega arith) c.byte_at-b.ensures c.if-b-eq44.true)

pub returns-then-b-eq44 : goal.returns-then-b-eq44
unfolding parameter_end
returns-then-b-eq44 c = rw (test_is c.byte_at-b.ensures c.if-b-eq44.true)

pub overflow_add-result-then-b-eq41 : goal.overflow_add-result-then-b-eq41
overflow_add-result-then-b-eq41 c = omega (arith, test_in c.args.l.now c.args.at 41 (omega arith) c.byte_at-b.ensures c.if-b-eq41.true)

pub returns-then-b-eq41 : goal.returns-then-b-eq41
unfolding parameter_end
returns-then-b-eq41 c = rw (test_not c.byte_at-b.ensures c.if-b-eq44.false, test_is c.byte_at-b.ensures c.if-b-eq41.true)

pub returns : goal.returns
unfolding parameter_end
returns c = rw (test_not c.byte_at-b.ensures c.if-b-eq44.false, test_not c.byte_at-b.ensures c.if-b-eq41.false)
