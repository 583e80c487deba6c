use Prim.Native.Nat.{◌+◌, ◌-◌, ◌<◌, ◌≤◌, ℕ}
use Rattle.model.specs.Calls.{calls_from, right_side}
use Rattle.call_scanner.proofs.RightSide.{right_from}
use Rattle.call_scanner.specs.RightSide.{right_of}
use lib.ListN.{length}
use mathlib.Core.Path.{◌≡◌}
use Rattle.call_scanner.proofs.right.right_side.Given as goal

-- what is left from i on gives the whole; f is fuel that suffices there
abbrev pub invariant-loop-count : goal.invariant-loop-count
invariant-loop-count l =
    (f : ℕ) × (length l.l < f + l.i) × (l.i ≤ length l.l) × (l.calls ≤ l.i) × (l.parameters ≤ l.i)
    × (right_of (right_side l.l l.at) ≡ right_from l.calls l.parameters l.most (calls_from f l.l l.i))

abbrev pub decreases-loop-count : goal.decreases-loop-count
decreases-loop-count l = length l.l - l.i
