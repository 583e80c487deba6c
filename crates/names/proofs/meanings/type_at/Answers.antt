-- `names::meanings::type_at` meets its contract. Assumes nothing.
use Rattle.names.specs.Table.{type_row}
use Rattle.names.proofs.meanings.type_at.Goals as goal

pub returns : goal.returns
unfolding type_row
returns c = rw (c.added_of-added.ensures, c.fixed_of-detail.ensures, ← c.type_numbers-row.ensures)
