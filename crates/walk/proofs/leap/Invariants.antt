-- `walk::leap` meets its contract.
use Prim.Native.Nat.{◌*◌}
use Rattle.walk.specs.Walk.{Skipped}
use Rattle.walk.proofs.leap.Given as goal

abbrev pub invariant-loop-i : goal.invariant-loop-i
invariant-loop-i l = Skipped l.table l.low l.at (16 * l.i)
