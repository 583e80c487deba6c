-- `lookup::find::find` meets its contract. The loop's invariant: what is left of the range gives the whole. Assumes nothing.
use Prim.Native.Nat.{◌-◌, ◌≤◌}
use mathlib.Core.Path.{◌≡◌}
use lib.ListN.{length}
use Rattle.names.specs.Places.{name_total}
use Rattle.names.specs.Table.{spelling_of, Bytes, longest_name}
use Rattle.lookup.specs.Find.{find_from}
use Rattle.lookup.proofs.find.find.Given as goal

abbrev pub invariant-loop-i : goal.invariant-loop-i
invariant-loop-i l =
    (l.i ≤ l.to)
    × (l.to ≤ name_total)
    × (length l.w ≤ longest_name)
    × Bytes l.w
    × (l.own ≡ spelling_of l.w)
    × (find_from (l.to - l.from) l.from l.w ≡ find_from (l.to - l.i) l.i l.w)

abbrev pub decreases-loop-i : goal.decreases-loop-i
decreases-loop-i l = l.to - l.i
