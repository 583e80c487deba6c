-- `lookup::details::detail_in` meets its contract. Assumes nothing.
use native.Mathlib.Omega.{arith}
use Prim.Native.Nat.{◌-◌}
use mathlib.Core.Path.{sym, ap, ◌∙◌}
use Rattle.model.specs.declared.names.DetailRead.{DetailRead}
use Rattle.lookup.specs.Find.{meaning_of, detail_meaning, detail_found}
use Rattle.lookup.proofs.Lookup.{found_within}
use Rattle.lookup.proofs.details.detail_in.Goals as goal

pub detail_value-requires : goal.detail_value-requires
detail_value-requires c =
    omega (arith, found_within (c.args.to - c.args.from) c.args.from c.args.w.now c.in-At.i (sym c.find.ensures ∙ c.in-At.is))

pub returns-in-At : goal.returns-in-At
unfolding detail_found
returns-in-At c =
    ap DetailRead.Value c.detail_value.ensures
    ∙ ap (meaning_of detail_meaning DetailRead.Unknown) (sym c.in-At.is ∙ c.find.ensures)

pub returns-in-Nothing : goal.returns-in-Nothing
unfolding detail_found
returns-in-Nothing c = ap (meaning_of detail_meaning DetailRead.Unknown) (sym c.in-Nothing.is ∙ c.find.ensures)
