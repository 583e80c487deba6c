use Prim.Native.Nat.{◌+◌, ◌-◌, ◌<◌, ◌≤◌, ℕ}
use Rattle.model.specs.Events.{modifiers_at, modifiers_from}
use Rattle.list_scanner.specs.ModifierLists.{summed, summed_from}
use lib.ListN.{length}
use mathlib.Core.Path.{◌≡◌}
use Rattle.list_scanner.proofs.lists.read_modifiers.Given as goal

-- what is left from i on gives the whole; f is fuel that suffices there
abbrev pub invariant-loop-end : goal.invariant-loop-end
invariant-loop-end l =
    (f : ℕ) × (length l.l < f + l.i) × (l.i ≤ length l.l) × (l.count ≤ l.i)
    × (summed (modifiers_at l.l l.at) ≡ summed_from l.count l.tilde l.none l.lone (modifiers_from f l.l l.i))

abbrev pub decreases-loop-end : goal.decreases-loop-end
decreases-loop-end l = length l.l - l.i
