use Rattle.model.specs.Events.{lead_colon}
use Rattle.scanner.proofs.Runs.{test_in, test_is, test_not}
use native.Mathlib.Omega.{arith}
use Rattle.list_scanner.proofs.modifiers.lead_colon.Goals as goal

pub overflow_add-result : goal.overflow_add-result
overflow_add-result c = omega (arith, test_in c.args.l.now c.args.at 58 (omega arith) c.byte_at.ensures c.if-byte_at-eq58.true)

pub returns-then-byte_at-eq58 : goal.returns-then-byte_at-eq58
unfolding lead_colon
returns-then-byte_at-eq58 c = rw (test_is c.byte_at.ensures c.if-byte_at-eq58.true)

pub returns : goal.returns
unfolding lead_colon
returns c = rw (test_not c.byte_at.ensures c.if-byte_at-eq58.false)
