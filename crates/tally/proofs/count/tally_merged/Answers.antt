-- `tally::count::tally_merged` meets its contract.
use Rattle.tally.proofs.Directives.{merged_below}
use Rattle.tally.proofs.count.tally_merged.Goals as goal

pub take_merged-requires : goal.take_merged-requires
take_merged-requires c = (c.requires.0, c.requires.1, merged_below c.args.old.now c.args.new.now c.requires.0 c.requires.1)
