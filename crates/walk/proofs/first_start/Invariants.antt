-- `walk::first_start` meets its contract.
use mathlib.Core.Path.{◌≡◌}
use lib.ListN.{take, drop}
use Rattle.model.specs.Matching.{reading_of}
use Rattle.machine.specs.Kept.{longest_end}
use Rattle.tables.specs.Reading.{decode}
use Rattle.keyboard.specs.Maps.{lent_setting}
use Rattle.states.specs.State.{slots_of}
use Rattle.walk.proofs.first_start.Given as goal

abbrev pub invariant-loop-at : goal.invariant-loop-at
invariant-loop-at l =
    longest_end (reading_of (decode l.table) (lent_setting l.maps l.limit)) (drop l.from (take l.to (slots_of l.events)))
    ≡ longest_end (reading_of (decode l.table) (lent_setting l.maps l.limit)) (drop l.at (take l.to (slots_of l.events)))
