use Prim.Native.Nat.{◌+◌}
use Rattle.model.specs.Events.{count_from}
use Rattle.scanner.proofs.Runs.{skip_in, test_in, test_is, test_not}
use native.Mathlib.Omega.{arith}
use Rattle.event_scanner.proofs.types.count_from.Goals as goal

pub overflow_add-at : goal.overflow_add-at
overflow_add-at c = omega (arith, test_in c.args.l.now c.args.at 40 (omega arith) c.byte_at.ensures c.if-byte_at-eq40.true)

pub skip-start-requires : goal.skip-start-requires
skip-start-requires c = omega (arith, test_in c.args.l.now c.args.at 40 (omega arith) c.byte_at.ensures c.if-byte_at-eq40.true)

pub count_digits-requires : goal.count_digits-requires
count_digits-requires c =
    let h = test_in c.args.l.now c.args.at 40 (omega arith) c.byte_at.ensures c.if-byte_at-eq40.true in
    omega (arith, skip_in c.args.l.now (c.args.at + 1) (omega arith))

pub returns-then-byte_at-eq40 : goal.returns-then-byte_at-eq40
unfolding count_from
returns-then-byte_at-eq40 c = rw (c.count_digits.ensures, c.skip-start.ensures, test_is c.byte_at.ensures c.if-byte_at-eq40.true)

pub returns : goal.returns
unfolding count_from
returns c = rw (test_not c.byte_at.ensures c.if-byte_at-eq40.false)
