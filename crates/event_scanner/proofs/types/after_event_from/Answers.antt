use Rattle.model.specs.Events.{after_event_from}
use Rattle.scanner.proofs.Runs.{test_in, test_is, test_not}
use native.Mathlib.Omega.{arith}
use Rattle.event_scanner.proofs.types.after_event_from.Goals as goal

pub overflow_add-result : goal.overflow_add-result
overflow_add-result c = omega (arith, test_in c.args.l.now c.args.at 44 (omega arith) c.byte_at-b.ensures c.if-b-eq44.true)

pub returns-then-b-eq44 : goal.returns-then-b-eq44
unfolding after_event_from
returns-then-b-eq44 c = rw (test_is c.byte_at-b.ensures c.if-b-eq44.true)

pub overflow_add-result-then-b-eq58 : goal.overflow_add-result-then-b-eq58
overflow_add-result-then-b-eq58 c = omega (arith, test_in c.args.l.now c.args.at 58 (omega arith) c.byte_at-b.ensures c.if-b-eq58.true)

pub returns-then-b-eq58 : goal.returns-then-b-eq58
unfolding after_event_from
returns-then-b-eq58 c = rw (test_not c.byte_at-b.ensures c.if-b-eq44.false, test_is c.byte_at-b.ensures c.if-b-eq58.true)

pub returns : goal.returns
unfolding after_event_from
returns c = rw (test_not c.byte_at-b.ensures c.if-b-eq44.false, test_not c.byte_at-b.ensures c.if-b-eq58.false)
