-- `numerals::number::number_in` meets its contract. The loop's invariant: the value so far and the bytes left give the number.
-- Assumes nothing.
use Prim.Native.Nat.{◌-◌, ◌≤◌, ◌<◌}
use mathlib.Core.Path.{◌≡◌}
use lib.ListN.{length, drop}
use Rattle.model.specs.Details.{digits_from, within_limit, number_in}
use Rattle.numerals.proofs.number.number_in.Given as goal

abbrev pub invariant-loop-i : goal.invariant-loop-i
invariant-loop-i l =
    (l.i ≤ length l.w)
    × ((0 < l.base) × (l.base ≤ 16) × (l.limit < 4294967296))
    × (number_in l.base l.limit l.w ≡ within_limit l.limit (digits_from l.base l.value (drop l.i l.w)))

abbrev pub decreases-loop-i : goal.decreases-loop-i
decreases-loop-i l = length l.w - l.i
