-- `copying::copy::CopyingStep::step` meets its contract.
use borrow.Author.Rules.{rules}
use native.Mathlib.Omega.{arith}
use Rattle.tables.specs.Reading.{production_entry}
use Rattle.tally.proofs.WholeFacts as facts
use Rattle.tally.proofs.Extents as ext
use Rattle.copying.proofs.ProductionPuts as puts
use Rattle.tally.proofs.Tallies.{one_room, room_below}
use Rattle.copying.proofs.copy.CopyingStep.step.Goals as goal

pub tally_one-next-requires : goal.tally_one-next-requires
tally_one-next-requires c = (c.requires.0, c.requires.1, room_below c.args.t (one_room c.args.t (production_entry c.args.l.now c.args.p) c.requires.2.1))

pub copy_events-requires : goal.copy_events-requires
copy_events-requires c =
    let W = ext.within c.args.l.now c.args.p c.requires.0 c.requires.1 c.extent_of-x.result c.extent_of-x.ensures in
    let R = puts.room_by c.args.l.now c.args.p c.args.t c.extent_of-x.result c.extent_of-x.ensures c.requires.2.1 in
    ((facts.long c.args.l.now c.requires.0, W.events), (search rules, R.events))

pub copy_calls-requires : goal.copy_calls-requires
copy_calls-requires c =
    let W = ext.within c.args.l.now c.args.p c.requires.0 c.requires.1 c.extent_of-x.result c.extent_of-x.ensures in
    let R = puts.room_by c.args.l.now c.args.p c.args.t c.extent_of-x.result c.extent_of-x.ensures c.requires.2.1 in
    ((c.requires.0, W.calls), (search rules, R.calls))

pub copy_parameters-requires : goal.copy_parameters-requires
copy_parameters-requires c =
    let W = ext.within c.args.l.now c.args.p c.requires.0 c.requires.1 c.extent_of-x.result c.extent_of-x.ensures in
    let R = puts.room_by c.args.l.now c.args.p c.args.t c.extent_of-x.result c.extent_of-x.ensures c.requires.2.1 in
    ((c.requires.0, W.parameters), (search rules, R.parameters))

pub put_production-requires : goal.put_production-requires
put_production-requires c =
    let W = ext.within c.args.l.now c.args.p c.requires.0 c.requires.1 c.extent_of-x.result c.extent_of-x.ensures in
    let R = puts.room_by c.args.l.now c.args.p c.args.t c.extent_of-x.result c.extent_of-x.ensures c.requires.2.1 in
    ((search rules, R.productions), (omega (arith, R.events), omega (arith, R.calls)))

pub returns : goal.returns
returns c =
    (c.tally_one-next.ensures, rw (c.put_production.ensures, c.copy_parameters.ensures, c.copy_calls.ensures, c.copy_events.ensures) (puts.put_by_lem c.args.l.now c.args.p c.args.second c.args.t c.args.out.now c.extent_of-x.result c.extent_of-x.ensures))
