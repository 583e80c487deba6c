-- `tally::count::CountingStep::step` meets its contract.
use Rattle.tables.specs.Reading.{production_entry}
use Rattle.tally.proofs.Tallies.{one_below}
use Rattle.tally.proofs.count.CountingStep.step.Goals as goal

pub tally_one-requires : goal.tally_one-requires
tally_one-requires c = (c.requires.0, c.requires.1, one_below 10000 c.args.t (production_entry c.args.l.now c.args.p) c.requires.2)
