use Rattle.model.specs.Events.{modifier_name_at}
use Rattle.list_scanner.proofs.modifiers.modifier_name_at.Goals as goal

pub returns : goal.returns
unfolding modifier_name_at
returns c = rw (c.name_from.ensures, c.run_end-end.ensures)
