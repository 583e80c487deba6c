-- `lookup::details::keysym_named` meets its contract. Assumes nothing.
use native.Mathlib.Omega.{arith}
use Prim.Native.Nat.{◌-◌}
use mathlib.Core.Path.{sym, ap, ◌∙◌}
use Rattle.model.specs.declared.names.DetailRead.{DetailRead}
use Rattle.names.specs.Places.{keysyms_at, buttons_at}
use Rattle.keysyms.specs.Rule.{latin1_named}
use Rattle.lookup.specs.Find.{meaning_of, detail_meaning}
use Rattle.lookup.proofs.Lookup.{found_within}
use Rattle.lookup.proofs.Groups.{keysym_found}
use Rattle.lookup.proofs.details.keysym_named.Goals as goal

pub detail_value-requires : goal.detail_value-requires
detail_value-requires c =
    omega (arith, found_within (buttons_at - keysyms_at) keysyms_at c.args.w.now c.in-At.i (sym c.find.ensures ∙ c.in-At.is))

pub returns-in-At : goal.returns-in-At
returns-in-At c =
    let w = c.args.w.now in
    ap DetailRead.Value c.detail_value.ensures
    ∙ ap (meaning_of detail_meaning (latin1_named w)) (sym c.in-At.is ∙ c.find.ensures)
    ∙ keysym_found w

pub returns-in-Nothing : goal.returns-in-Nothing
returns-in-Nothing c =
    let w = c.args.w.now in
    c.latin1_named.ensures
    ∙ ap (meaning_of detail_meaning (latin1_named w)) (sym c.in-Nothing.is ∙ c.find.ensures)
    ∙ keysym_found w
