-- The row is the one that the rules' entries compute to: one test over the whole row. Assumes nothing.
use mathlib.Core.Path.{refl}
use Rattle.names.specs.Groups.{modifier_groups, modifier_table}
use Rattle.names.specs.Table.{modifier_bits}
use Rattle.model.specs.Names.{modifier_entries}
use Rattle.names.proofs.meanings.modifier_bit.Goals as goal

pub returns : goal.returns
unfolding modifier_bits modifier_table modifier_groups modifier_entries
returns c = refl
