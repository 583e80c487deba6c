use Prim.Native.Nat.{◌-◌}
use mathlib.Core.Path.{◌≡◌}
use lib.ListN.{length}
use Rattle.line_writer.proofs.CallWalk.{CallsWalk}
use Rattle.line_writer.proofs.calls.write_right.Given as goal

abbrev pub invariant-loop-count : goal.invariant-loop-count
invariant-loop-count l =
    CallsWalk l.l l.at l.base l.n l.p l.initial.out l.out l.i l.calls l.parameters l.most × (length l.out ≡ length l.initial.out)

abbrev pub decreases-loop-count : goal.decreases-loop-count
decreases-loop-count l = length l.l - l.i
