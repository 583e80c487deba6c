-- `follow::named_meets` meets its contract.
use Rattle.keyboard.specs.Maps.{lent_setting}
use Rattle.tables.specs.Reading.{event_entry}
use Rattle.resolving.proofs.Asking.{asked_below}
use Rattle.follow.proofs.EventLaws.{meets_resolved}
use Rattle.follow.proofs.named_meets.Goals as goal

pub returns-then-asked : goal.returns-then-asked
returns-then-asked c limit =
    let a = c.args in
    let q = rw c.event_at.ensures at (c.asked_of-asked.ensures limit) in
    rw (meets_resolved (lent_setting a.maps.now limit) (event_entry a.table.now a.i) a.x c.requires.1.1 c.asked_of-asked.result q, c.if-asked.true)

pub test_meets-requires : goal.test_meets-requires
test_meets-requires c =
    let p = c.requires in
    let a = c.args in
    let q = rw c.event_at.ensures at (c.asked_of-asked.ensures 0) in
    (p.0, (p.1.0.mapped, p.1.1), asked_below (lent_setting a.maps.now 0) (event_entry a.table.now a.i) c.asked_of-asked.result q)

pub returns : goal.returns
returns c limit =
    let a = c.args in
    let q = rw c.event_at.ensures at (c.asked_of-asked.ensures limit) in
    rw (meets_resolved (lent_setting a.maps.now limit) (event_entry a.table.now a.i) a.x c.requires.1.1 c.asked_of-asked.result q, c.if-asked.false)
    c.test_meets.ensures
