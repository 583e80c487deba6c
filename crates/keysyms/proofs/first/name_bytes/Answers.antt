-- The constant is the row that the rules' list computes to: one test over the whole row. Assumes nothing.
use mathlib.Core.Path.{refl}
use Rattle.model.specs.Latin1.{latin1_entries}
use Rattle.keysyms.specs.Table.{run_together, name_bytes}
use Rattle.keysyms.proofs.first.name_bytes.Goals as goal

pub returns : goal.returns
unfolding name_bytes run_together latin1_entries
returns c = refl
