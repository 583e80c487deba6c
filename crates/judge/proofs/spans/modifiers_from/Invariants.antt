-- `judge::spans::modifiers_from` meets its contract. The loop's invariant: the value is that of the modifiers read so far.
use Prim.Native.Nat.{◌-◌}
use lib.ListN.{length}
use Rattle.judge.proofs.Reading.{Read}
use Rattle.judge.proofs.spans.modifiers_from.Given as goal

abbrev pub invariant-loop-s : goal.invariant-loop-s
invariant-loop-s l = Read l.l l.bang l.colon l.at l.s l.i

abbrev pub decreases-loop-s : goal.decreases-loop-s
decreases-loop-s l = length l.l - l.i
