-- `resolving::asked_of` meets its contract.
use mathlib.Core.Path.{◌∙◌}
use Rattle.model.specs.Resolving.{names_of}
use Rattle.keyboard.specs.Maps.{lent_setting}
use Rattle.resolving.proofs.Asking.{gathered_below, tested_asked}
use Rattle.resolving.proofs.asked_of.Goals as goal

pub tested-requires : goal.tested-requires
tested-requires c =
    ((c.requires.1, c.requires.2), gathered_below (lent_setting c.args.maps.now 0) (names_of c.args.e) c.by_names-by.result c.by_names-by.ensures)

pub returns : goal.returns
returns c =
    let a = c.args in
    let p = c.requires in
    λ limit. c.tested.ensures ∙ tested_asked a.maps.now a.e c.by_names-by.result limit p.1 p.2 c.by_names-by.ensures
