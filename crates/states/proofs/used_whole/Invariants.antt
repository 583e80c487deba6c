-- `states::used_whole` meets its contract.
use mathlib.Core.Path.{◌≡◌}
use Rattle.words.specs.Runs.{every}
use Rattle.states.specs.State.{used_whole}
use Rattle.states.proofs.used_whole.Given as goal

abbrev pub invariant-loop-i : goal.invariant-loop-i
invariant-loop-i l = l.whole ≡ every (used_whole l.events) 0 l.i
