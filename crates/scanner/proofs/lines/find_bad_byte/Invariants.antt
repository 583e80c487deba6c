use Prim.Native.Nat.{◌-◌, ◌≤◌}
use Rattle.model.specs.Bytes.{first_bad_byte}
use Rattle.model.specs.Lists.{earliest}
use Rattle.scanner.proofs.BadBytes.{is_bad}
use lib.ListN.{drop, length}
use mathlib.Core.Path.{◌≡◌}
use Rattle.scanner.proofs.lines.find_bad_byte.Given as goal

-- what is left from i on gives the whole
abbrev pub invariant-loop-i : goal.invariant-loop-i
invariant-loop-i l = (l.i ≤ length l.text) × (first_bad_byte l.text ≡ earliest is_bad l.i (drop l.i l.text))

abbrev pub decreases-loop-i : goal.decreases-loop-i
decreases-loop-i l = length l.text - l.i
