-- `lookup::type_named` meets its contract. Assumes nothing.
use native.Mathlib.Omega.{arith}
use mathlib.Core.Path.{sym, ap, ◌∙◌}
use Rattle.model.specs.declared.names.TypeName.{TypeName}
use Rattle.lookup.specs.Find.{meaning_of, type_meaning}
use Rattle.lookup.proofs.Groups.{types_within, type_found, type_place_lem}
use Rattle.lookup.proofs.type_named.Goals as goal

pub overflow_add-group : goal.overflow_add-group
overflow_add-group c =
    let w = c.args.w.now in
    omega (arith, types_within w _ _ c.byte_at.ensures c.type_group-group.ensures)

pub overflow_add-group-2 : goal.overflow_add-group-2
overflow_add-group-2 c =
    let w = c.args.w.now in
    omega (arith, types_within w _ _ c.byte_at.ensures c.type_group-group.ensures)

pub find-requires : goal.find-requires
find-requires c =
    let w = c.args.w.now in
    let h = types_within w _ _ c.byte_at.ensures c.type_group-group.ensures in
    (omega (arith, h), omega (arith, h))

pub overflow_sub-i : goal.overflow_sub-i
overflow_sub-i c =
    let w = c.args.w.now in
    omega (
      arith,
      type_place_lem w _ _ c.byte_at.ensures c.type_group-group.ensures
          c.in-At.i (sym c.find.ensures ∙ c.in-At.is),
    )

pub type_at-requires : goal.type_at-requires
type_at-requires c =
    let w = c.args.w.now in
    omega (
      arith,
      type_place_lem w _ _ c.byte_at.ensures c.type_group-group.ensures
          c.in-At.i (sym c.find.ensures ∙ c.in-At.is),
    )

pub returns-in-At : goal.returns-in-At
returns-in-At c =
    let w = c.args.w.now in
    ap TypeName.Known c.type_at.ensures
    ∙ ap (meaning_of type_meaning TypeName.Unknown) (sym c.in-At.is ∙ c.find.ensures)
    ∙ type_found w _ _ c.byte_at.ensures c.type_group-group.ensures

pub returns-in-Nothing : goal.returns-in-Nothing
returns-in-Nothing c =
    let w = c.args.w.now in
    ap (meaning_of type_meaning TypeName.Unknown) (sym c.in-Nothing.is ∙ c.find.ensures)
    ∙ type_found w _ _ c.byte_at.ensures c.type_group-group.ensures
