use Prim.Native.Nat.{◌-◌}
use mathlib.Core.Path.{◌≡◌}
use lib.ListN.{length}
use Rattle.line_writer.proofs.EventWalk.{Walking}
use Rattle.line_writer.proofs.events.write_left.Given as goal

abbrev pub invariant-loop-n : goal.invariant-loop-n
invariant-loop-n l =
    Walking l.l l.initial.out l.first l.out l.at l.crowded l.kept l.expanded × (length l.out ≡ length l.initial.out)

abbrev pub decreases-loop-n : goal.decreases-loop-n
decreases-loop-n l = length l.l - l.at
