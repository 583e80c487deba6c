-- `keysyms::search::rank` meets its contract. The loop's invariant: the names up to `low` stand before the word, those from `high` on do not. Assumes nothing.
use Prim.Native.Nat.{ℕ, ◌-◌, ◌≤◌, ◌<◌}
use mathlib.Core.Path.{◌≡◌}
use mathlib.Core.Bool.{true, false}
use Rattle.model.specs.Lists.{is_before}
use Rattle.keysyms.specs.Table.{keysym_total, keysym_name}
use Rattle.keysyms.proofs.search.rank.Given as goal

abbrev pub invariant-loop-low : goal.invariant-loop-low
invariant-loop-low l =
    (l.low ≤ l.high)
    × (l.high ≤ keysym_total)
    × ((i : ℕ) → i < l.low → is_before (keysym_name i) l.w ≡ true)
    × ((i : ℕ) → l.high ≤ i → i < keysym_total → is_before (keysym_name i) l.w ≡ false)

abbrev pub decreases-loop-low : goal.decreases-loop-low
decreases-loop-low l = l.high - l.low
