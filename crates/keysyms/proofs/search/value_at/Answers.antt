-- The constant is the row of values that the rules' list computes to: one test over the whole row. Assumes nothing.
use mathlib.Core.Path.{refl}
use Rattle.model.specs.Latin1.{latin1_entries}
use Rattle.keysyms.specs.Table.{keysym_values}
use Rattle.keysyms.proofs.search.value_at.Goals as goal

pub returns : goal.returns
unfolding keysym_values latin1_entries
returns c = refl
