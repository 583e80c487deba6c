-- `walk::skip` meets its contract.
use Rattle.walk.specs.Walk.{Skipped}
use Rattle.walk.proofs.skip.Given as goal

abbrev pub invariant-loop-p : goal.invariant-loop-p
invariant-loop-p l = Skipped l.table l.low l.at l.p
