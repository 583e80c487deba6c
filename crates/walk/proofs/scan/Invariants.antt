-- `walk::scan` meets its contract.
use lib.ListN.{take, drop}
use Rattle.keyboard.specs.Maps.{lent_setting}
use Rattle.states.specs.State.{slots_of}
use Rattle.walk.proofs.PassLaws.{Passing}
use Rattle.walk.proofs.scan.Given as goal

abbrev pub invariant-loop-p : goal.invariant-loop-p
invariant-loop-p l =
    Passing (lent_setting l.maps l.limit) l.table (drop l.from (take l.to (slots_of l.events))) l.seen l.at l.p
