-- `lookup::is_any` meets its contract. Assumes nothing.
use mathlib.Core.Path.{◌∙◌, ap}
use Rattle.model.specs.Lists.{same}
use Rattle.lookup.proofs.Groups.{table_holds}
use Rattle.lookup.proofs.is_any.Goals as goal

pub returns : goal.returns
returns c = c.is_name.ensures ∙ ap (same c.args.w.now) table_holds.any
