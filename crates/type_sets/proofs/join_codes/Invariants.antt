-- `type_sets::join_codes` meets its contract.
use mathlib.Core.Path.{◌≡◌}
use Rattle.type_sets.specs.Scan.{masks_joined, code_at, counted_at}
use Rattle.type_sets.proofs.join_codes.Given as goal

abbrev pub invariant-loop-i : goal.invariant-loop-i
invariant-loop-i l = (l.all ≡ masks_joined (code_at l.l) 0 l.i) × (l.counted ≡ masks_joined (counted_at l.l) 0 l.i)
