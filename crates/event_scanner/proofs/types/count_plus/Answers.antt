use Rattle.model.specs.Events.{count_plus}
use Rattle.scanner.proofs.Runs.{test_in, test_is, test_not}
use native.Mathlib.Omega.{arith}
use Rattle.event_scanner.proofs.types.count_plus.Goals as goal

pub overflow_add-at : goal.overflow_add-at
overflow_add-at c = omega (arith, test_in c.args.l.now c.args.at 43 (omega arith) c.byte_at.ensures c.if-byte_at-eq43.true)

pub skip-close-requires : goal.skip-close-requires
skip-close-requires c = omega (arith, test_in c.args.l.now c.args.at 43 (omega arith) c.byte_at.ensures c.if-byte_at-eq43.true)

pub returns-then-byte_at-eq43 : goal.returns-then-byte_at-eq43
unfolding count_plus
returns-then-byte_at-eq43 c = rw (c.count_close.ensures, c.skip-close.ensures, test_is c.byte_at.ensures c.if-byte_at-eq43.true)

pub returns : goal.returns
unfolding count_plus
returns c = rw (c.count_close-2.ensures, test_not c.byte_at.ensures c.if-byte_at-eq43.false)
