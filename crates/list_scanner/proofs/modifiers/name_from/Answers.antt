use Rattle.model.specs.Events.{name_from}
use Rattle.scanner.proofs.Runs.{test_in, test_is, test_not}
use borrow.Author.Tests.{eq-eqb, ne_eqb}
use native.Mathlib.Omega.{arith}
use Rattle.list_scanner.proofs.modifiers.name_from.Goals as goal

pub overflow_add-run : goal.overflow_add-run
overflow_add-run c = omega (arith, test_in c.args.l.now c.args.start 64 (omega arith) c.byte_at.ensures c.if-byte_at-eq64.true)

pub run_end-stop-requires : goal.run_end-stop-requires
run_end-stop-requires c = omega (arith, test_in c.args.l.now c.args.start 64 (omega arith) c.byte_at.ensures c.if-byte_at-eq64.true)

pub returns-then-byte_at-eq64 : goal.returns-then-byte_at-eq64
unfolding name_from
returns-then-byte_at-eq64 c = rw (c.keysym_from.ensures, c.run_end-stop.ensures, eq-eqb _ _ c.if-end-start.true, test_is c.byte_at.ensures c.if-byte_at-eq64.true)

pub returns-then-end-start : goal.returns-then-end-start
unfolding name_from
returns-then-end-start c = rw (eq-eqb _ _ c.if-end-start.true, test_not c.byte_at.ensures c.if-byte_at-eq64.false)

pub returns-then-after-eq64 : goal.returns-then-after-eq64
unfolding name_from
returns-then-after-eq64 c = rw (ne_eqb _ _ c.if-end-start.false, test_is c.byte_at-after.ensures c.if-after-eq64.true)

pub returns : goal.returns
unfolding name_from
returns c = rw (ne_eqb _ _ c.if-end-start.false, test_not c.byte_at-after.ensures c.if-after-eq64.false)
