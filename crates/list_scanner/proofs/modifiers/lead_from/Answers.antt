use Rattle.model.specs.Events.{lead_from}
use Rattle.scanner.proofs.Runs.{test_in, test_is, test_not}
use native.Mathlib.Omega.{arith}
use Rattle.list_scanner.proofs.modifiers.lead_from.Goals as goal

pub overflow_add-at : goal.overflow_add-at
overflow_add-at c = omega (arith, test_in c.args.l.now c.args.at 33 (omega arith) c.byte_at.ensures c.if-byte_at-eq33.true)

pub skip-next-requires : goal.skip-next-requires
skip-next-requires c = omega (arith, test_in c.args.l.now c.args.at 33 (omega arith) c.byte_at.ensures c.if-byte_at-eq33.true)

pub returns-then-byte_at-eq33 : goal.returns-then-byte_at-eq33
unfolding lead_from
returns-then-byte_at-eq33 c = rw (c.lead_colon.ensures, c.skip-next.ensures, test_is c.byte_at.ensures c.if-byte_at-eq33.true)

pub returns : goal.returns
unfolding lead_from
returns c = rw (c.lead_colon-2.ensures, test_not c.byte_at.ensures c.if-byte_at-eq33.false)
