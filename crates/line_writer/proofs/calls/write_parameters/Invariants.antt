use Prim.Native.Nat.{◌-◌}
use mathlib.Core.Path.{◌≡◌}
use lib.ListN.{length}
use Rattle.line_writer.proofs.CallWalk.{ParametersWalk}
use Rattle.line_writer.proofs.calls.write_parameters.Given as goal

abbrev pub invariant-loop-start : goal.invariant-loop-start
invariant-loop-start l =
    ParametersWalk l.l l.at l.base l.first l.initial.out l.out l.i l.count × (length l.out ≡ length l.initial.out)

abbrev pub decreases-loop-start : goal.decreases-loop-start
decreases-loop-start l = length l.l - l.i
