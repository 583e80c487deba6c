-- `lookup::find::number_of` meets its contract. The loop's invariant: the bytes from i on make the number, which has no more digits
-- than they are. Assumes nothing.
use Prim.Native.Nat.{◌-◌, ◌^◌, ◌≤◌, ◌<◌}
use mathlib.Core.Path.{◌≡◌}
use Rattle.model.specs.Lists.{part}
use Rattle.names.specs.Table.{packed}
use Rattle.lookup.proofs.find.number_of.Given as goal

abbrev pub invariant-loop-i : goal.invariant-loop-i
invariant-loop-i l =
    (l.from ≤ l.i)
    × (l.i ≤ l.to)
    × (l.v ≡ packed (part l.w l.i l.to))
    × (l.v < 256 ^ (l.to - l.i))

abbrev pub decreases-loop-i : goal.decreases-loop-i
decreases-loop-i l = l.i
