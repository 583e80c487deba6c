use Prim.Native.Nat.{◌+◌, ◌-◌}
use mathlib.Core.Path.{◌≡◌}
use lib.ListN.{length}
use Rattle.compiler.proofs.Run.{Going}
use Rattle.compiler.proofs.text.compile_lines.Given as goal

abbrev pub invariant-loop-number : goal.invariant-loop-number
invariant-loop-number l = Going l.text l.out l.s l.at × (length l.out ≡ length l.initial.out)

abbrev pub decreases-loop-number : goal.decreases-loop-number
decreases-loop-number l = length l.text + 1 - l.at
