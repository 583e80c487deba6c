-- `tally::count::tally_passes` meets its contract.
use mathlib.Core.Path.{refl}
use Rattle.tally.specs.Counting.{tally_passes}
use Rattle.tally.proofs.count.tally_passes.Goals as goal

pub returns : goal.returns
unfolding tally_passes
returns c = refl
