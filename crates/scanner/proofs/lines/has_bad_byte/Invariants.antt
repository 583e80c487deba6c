use Prim.Native.Nat.{◌-◌, ◌≤◌}
use Rattle.model.specs.Bytes.{first_bad_byte}
use Rattle.model.specs.Lists.{any, given}
use Rattle.scanner.proofs.BadBytes.{is_bad}
use lib.ListN.{drop, length}
use mathlib.Core.Bool.{◌||◌}
use mathlib.Core.Path.{◌≡◌}
use Rattle.scanner.proofs.lines.has_bad_byte.Given as goal

-- what is left from i on gives the whole
abbrev pub invariant-loop-i : goal.invariant-loop-i
invariant-loop-i l = (l.i ≤ length l.text) × (given (first_bad_byte l.text) ≡ l.bad || any is_bad (drop l.i l.text))

abbrev pub decreases-loop-i : goal.decreases-loop-i
decreases-loop-i l = length l.text - l.i
