-- `resolving::by_names` meets its contract.
use mathlib.Core.Path.{◌∙◌}
use mathlib.Core.List.{[], ◌∷◌}
use Rattle.model.specs.Names.{meta_name, alt_name, hyper_name, super_name}
use Rattle.model.specs.Resolving.{named_modifier, named_keysym, names_of}
use Rattle.keyboard.specs.Maps.{lent_setting}
use Rattle.resolving.proofs.Asking.{gathered_more}
use Rattle.resolving.proofs.by_names.Goals as goal

pub returns : goal.returns
unfolding names_of
returns c =
    let a = c.args in
    let setting = lent_setting a.maps.now 0 in
    let e = a.e in
    let keysyms = named_keysym e.keysyms.first ∷ named_keysym e.keysyms.second ∷ named_keysym e.keysyms.third ∷ named_keysym e.keysyms.fourth ∷ [] in
    let super = named_modifier e super_name 0xffeb 0xffec in
    let hyper = named_modifier e hyper_name 0xffed 0xffee in
    let alt = named_modifier e alt_name 0xffe9 0xffea in
    c.with_modifier.ensures
    ∙ gathered_more setting (named_modifier e meta_name 0xffe7 0xffe8) (alt ∷ hyper ∷ super ∷ keysyms) _
    (c.with_modifier-so-3.ensures
    ∙ gathered_more setting alt (hyper ∷ super ∷ keysyms) _
    (c.with_modifier-so-2.ensures
    ∙ gathered_more setting hyper (super ∷ keysyms) _
    (c.with_modifier-so.ensures
    ∙ gathered_more setting super keysyms _ c.by_keysyms-so.ensures)))
