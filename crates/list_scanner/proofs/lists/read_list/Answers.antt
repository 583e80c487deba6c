use Rattle.list_scanner.specs.ModifierLists.{list_from}
use mathlib.Core.Path.{◌∙◌, ap, sym}
use Rattle.list_scanner.proofs.lists.read_list.Goals as goal

pub returns-in-Broken : goal.returns-in-Broken
returns-in-Broken c = ap (list_from c.args.bang c.args.colon) (sym c.in-Broken.is ∙ c.read_modifiers.ensures)

pub returns-in-Modifiers : goal.returns-in-Modifiers
returns-in-Modifiers c = c.list_end.ensures ∙ ap (list_from c.args.bang c.args.colon) (sym c.in-Modifiers.is ∙ c.read_modifiers.ensures)
