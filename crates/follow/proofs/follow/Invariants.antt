-- `follow::follow` meets its contract.
use Rattle.keyboard.specs.Maps.{lent_setting}
use Rattle.states.specs.State.{slots_of}
use Rattle.follow.proofs.FollowLaws.{Walks}
use Rattle.follow.proofs.follow.Given as goal

abbrev pub invariant-loop-j : goal.invariant-loop-j
invariant-loop-j l = Walks (lent_setting l.maps l.limit) l.table l.first l.n (slots_of l.events) l.from l.to l.i l.k l.j
