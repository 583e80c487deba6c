use Rattle.model.specs.Events.{keysym_from}
use Rattle.scanner.proofs.Runs.{test_is, test_not}
use borrow.Author.Tests.{eq-eqb, ne_eqb}
use Rattle.list_scanner.proofs.modifiers.keysym_from.Goals as goal

pub returns-then-end-start : goal.returns-then-end-start
unfolding keysym_from
returns-then-end-start c = rw (eq-eqb _ _ c.if-end-start.true)

pub returns-then-byte_at-eq64 : goal.returns-then-byte_at-eq64
unfolding keysym_from
returns-then-byte_at-eq64 c = rw (ne_eqb _ _ c.if-end-start.false, test_is c.byte_at.ensures c.if-byte_at-eq64.true)

pub returns : goal.returns
unfolding keysym_from
returns c = rw (ne_eqb _ _ c.if-end-start.false, test_not c.byte_at.ensures c.if-byte_at-eq64.false)
