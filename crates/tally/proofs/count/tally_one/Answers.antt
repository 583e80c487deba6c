-- `tally::count::tally_one` meets its contract.
use native.Mathlib.Omega.{arith}
use Rattle.tables.specs.Reading.{event_entry}
use Rattle.tally.proofs.WholeFacts as facts
use Rattle.tally.proofs.Extents as ext
use Rattle.tally.proofs.ElementSizes.{size_below}
use Rattle.tally.proofs.count.tally_one.Goals as goal

pub overflow_add-result-2 : goal.overflow_add-result-2
overflow_add-result-2 c =
    let W = ext.within c.args.l.now c.args.p c.requires.0 c.requires.1 c.extent_of-x.result c.extent_of-x.ensures in
    omega (arith, W.events, c.requires.2.events)

pub expanded_of-requires : goal.expanded_of-requires
expanded_of-requires c =
    let W = ext.within c.args.l.now c.args.p c.requires.0 c.requires.1 c.extent_of-x.result c.extent_of-x.ensures in
    (facts.long c.args.l.now c.requires.0, W.events, W.range)

pub overflow_add-result-3 : goal.overflow_add-result-3
overflow_add-result-3 c =
    let W = ext.within c.args.l.now c.args.p c.requires.0 c.requires.1 c.extent_of-x.result c.extent_of-x.ensures in
    let k = size_below (event_entry c.args.l.now) c.extent_of-x.result.event c.extent_of-x.result.events W.range in
    omega (arith, W.events, c.requires.2.expanded, c.expanded_of.ensures)

pub overflow_add-result-4 : goal.overflow_add-result-4
overflow_add-result-4 c =
    let W = ext.within c.args.l.now c.args.p c.requires.0 c.requires.1 c.extent_of-x.result c.extent_of-x.ensures in
    omega (arith, W.few_calls, c.requires.2.calls)

pub overflow_add-result-5 : goal.overflow_add-result-5
overflow_add-result-5 c =
    let W = ext.within c.args.l.now c.args.p c.requires.0 c.requires.1 c.extent_of-x.result c.extent_of-x.ensures in
    omega (arith, W.few_parameters, c.requires.2.parameters)

pub returns : goal.returns
returns c =
    ext.tally_by_lem c.args.l.now c.args.p c.args.t c.extent_of-x.result c.expanded_of.result c.extent_of-x.ensures c.expanded_of.ensures
