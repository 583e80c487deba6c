use Prim.Native.Nat.{◌+◌}
use Rattle.model.specs.Events.{modifier_from}
use Rattle.scanner.proofs.Runs.{skip_in, test_in, test_is, test_not}
use native.Mathlib.Omega.{arith}
use Rattle.list_scanner.proofs.modifiers.modifier_from.Goals as goal

pub returns-then-b-eq60 : goal.returns-then-b-eq60
unfolding modifier_from
returns-then-b-eq60 c = rw (test_is c.byte_at-b.ensures c.if-b-eq60.true)

pub skip-start-requires : goal.skip-start-requires
skip-start-requires c = omega (arith, test_in c.args.l.now c.args.at 126 (omega arith) c.byte_at-b.ensures c.if-b-eq126.true)

pub modifier_name_at-requires : goal.modifier_name_at-requires
modifier_name_at-requires c =
    let h = test_in c.args.l.now c.args.at 126 (omega arith) c.byte_at-b.ensures c.if-b-eq126.true in
    omega (arith, skip_in c.args.l.now (c.args.at + 1) (omega arith))

pub returns-then-b-eq126 : goal.returns-then-b-eq126
unfolding modifier_from
returns-then-b-eq126 c = rw (c.modifier_name_at.ensures, c.skip-start.ensures, test_not c.byte_at-b.ensures c.if-b-eq60.false, test_is c.byte_at-b.ensures c.if-b-eq126.true)

pub returns : goal.returns
unfolding modifier_from
returns c = rw (c.modifier_name_at-2.ensures, test_not c.byte_at-b.ensures c.if-b-eq60.false, test_not c.byte_at-b.ensures c.if-b-eq126.false)
