use Prim.Native.Nat.{◌+◌, ◌-◌, ◌<◌, ◌≤◌, ℕ}
use Rattle.model.specs.Events.{left_from, left_side}
use Rattle.event_scanner.specs.LeftSide.{left_of}
use lib.ListN.{length}
use mathlib.Core.Path.{◌≡◌}
use Rattle.event_scanner.proofs.left.left_side.Given as goal

-- what is left from at on gives the whole; f is fuel that suffices there
abbrev pub invariant-loop-next : goal.invariant-loop-next
invariant-loop-next l = (f : ℕ) × (length l.l < f + l.at) × (l.at ≤ length l.l) × (left_of (left_side l.l) ≡ left_of (left_from f l.l l.at))

abbrev pub decreases-loop-next : goal.decreases-loop-next
decreases-loop-next l = length l.l - l.at
