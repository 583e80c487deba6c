-- The constant is the row that the rules' list computes to: one test over the whole row. Assumes nothing.
use mathlib.Core.Path.{refl}
use Rattle.words.specs.Runs.{run}
use Rattle.model.specs.Latin1.{latin1_entries}
use Rattle.keysyms.specs.Table.{first_place, first_places}
use Rattle.keysyms.proofs.first.first_at.Goals as goal

pub returns : goal.returns
unfolding first_places first_place run latin1_entries
returns c = refl
