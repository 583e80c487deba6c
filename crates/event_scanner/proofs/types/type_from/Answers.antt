use Rattle.model.specs.Events.{type_from}
use Rattle.scanner.proofs.Runs.{test_in, test_is, test_not}
use borrow.Author.Tests.{eq-eqb, ne_eqb}
use native.Mathlib.Omega.{arith}
use Rattle.event_scanner.proofs.types.type_from.Goals as goal

pub returns-then-end-start : goal.returns-then-end-start
unfolding type_from
returns-then-end-start c = rw (eq-eqb _ _ c.if-end-start.true)

pub overflow_add-result : goal.overflow_add-result
overflow_add-result c = omega (arith, test_in c.args.l.now c.args.close 62 (omega arith) c.byte_at.ensures c.if-byte_at-eq62.true)

pub returns-then-byte_at-eq62 : goal.returns-then-byte_at-eq62
unfolding type_from
returns-then-byte_at-eq62 c = rw (ne_eqb _ _ c.if-end-start.false, test_is c.byte_at.ensures c.if-byte_at-eq62.true)

pub returns : goal.returns
unfolding type_from
returns c = rw (ne_eqb _ _ c.if-end-start.false, test_not c.byte_at.ensures c.if-byte_at-eq62.false)
