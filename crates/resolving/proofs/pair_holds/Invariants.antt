-- `resolving::pair_holds` meets its contract.
use mathlib.Core.Path.{◌≡◌}
use mathlib.Core.Bool.{◌||◌}
use lib.Dec.{eqb}
use lib.ListN.{take}
use Rattle.std.specs.List.{list_any}
use Rattle.resolving.proofs.pair_holds.Given as goal

abbrev pub invariant-loop-k : goal.invariant-loop-k
invariant-loop-k g l = l.holds ≡ list_any (λ v. eqb l.pair.first v || eqb l.pair.second v) (take l.k-index l.keysyms)
