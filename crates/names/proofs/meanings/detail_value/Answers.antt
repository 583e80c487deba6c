-- The row is the one that the rules' entries compute to: one test over the whole row. Assumes nothing.
use mathlib.Core.Path.{refl}
use Rattle.names.specs.Table.{detail_values}
use Rattle.model.specs.Details.{keysym_entries, button_entries, motion_entries, mode_entries, request_entries}
use Rattle.names.proofs.meanings.detail_value.Goals as goal

pub returns : goal.returns
unfolding detail_values keysym_entries button_entries motion_entries mode_entries request_entries
returns c = refl
