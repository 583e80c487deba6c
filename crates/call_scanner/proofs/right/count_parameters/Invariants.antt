use Prim.Native.Nat.{◌+◌, ◌-◌, ◌<◌, ◌≤◌, ℕ}
use Rattle.model.specs.Calls.{parameters_from}
use Rattle.call_scanner.proofs.RightSide.{counted_from}
use Rattle.call_scanner.specs.RightSide.{parameters_counted}
use lib.ListN.{length}
use mathlib.Core.Path.{◌≡◌}
use Rattle.call_scanner.proofs.right.count_parameters.Given as goal

-- what is left from i on gives the whole; f is fuel that suffices there
abbrev pub invariant-loop-next : goal.invariant-loop-next
invariant-loop-next l =
    (f : ℕ) × (length l.l < f + l.i) × (l.i ≤ length l.l) × (l.count ≤ l.i)
    × (parameters_counted (parameters_from (length l.l + 1) l.l l.at) ≡ counted_from l.count (parameters_from f l.l l.i))

abbrev pub decreases-loop-next : goal.decreases-loop-next
decreases-loop-next l = length l.l - l.i
