-- `resolving::bits_of` meets its contract.
use mathlib.Core.Path.{◌≡◌}
use Rattle.resolving.proofs.Rows.{row_bits}
use Rattle.resolving.proofs.bits_of.Given as goal

abbrev pub invariant-loop-k : goal.invariant-loop-k
invariant-loop-k g l = l.bits ≡ row_bits l.maps l.keysyms l.k
