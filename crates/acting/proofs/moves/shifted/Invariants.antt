-- `acting::moves::shifted` meets its contract.
use mathlib.Core.Path.{◌≡◌}
use lib.ListN.{take, drop}
use Rattle.states.specs.State.{slots_of, in_slots}
use Rattle.acting.proofs.moves.shifted.Given as goal

abbrev pub invariant-loop-i : goal.invariant-loop-i
invariant-loop-i l = l.slots ≡ in_slots (drop l.from (take l.i (slots_of l.events)))
