-- `lookup::modifier_named` meets its contract. Assumes nothing.
use native.Mathlib.Omega.{arith}
use mathlib.Core.Path.{sym, ap, ◌∙◌}
use Rattle.model.specs.declared.names.ModifierName.{ModifierName}
use Rattle.lookup.specs.Find.{meaning_of, modifier_meaning}
use Rattle.lookup.proofs.Groups.{modifiers_within, modifier_found, modifier_place}
use Rattle.lookup.proofs.modifier_named.Goals as goal

pub overflow_add-group : goal.overflow_add-group
overflow_add-group c =
    let w = c.args.w.now in
    omega (arith, modifiers_within w _ _ c.byte_at.ensures c.modifier_group-group.ensures)

pub overflow_add-group-2 : goal.overflow_add-group-2
overflow_add-group-2 c =
    let w = c.args.w.now in
    omega (arith, modifiers_within w _ _ c.byte_at.ensures c.modifier_group-group.ensures)

pub find-requires : goal.find-requires
find-requires c =
    let w = c.args.w.now in
    let h = modifiers_within w _ _ c.byte_at.ensures c.modifier_group-group.ensures in
    (omega (arith, h), omega (arith, h))

pub overflow_sub-i : goal.overflow_sub-i
overflow_sub-i c =
    let w = c.args.w.now in
    omega (
      arith,
      modifier_place w _ _ c.byte_at.ensures c.modifier_group-group.ensures
          c.in-At.i (sym c.find.ensures ∙ c.in-At.is),
    )

pub modifier_at-requires : goal.modifier_at-requires
modifier_at-requires c =
    let w = c.args.w.now in
    omega (
      arith,
      modifier_place w _ _ c.byte_at.ensures c.modifier_group-group.ensures
          c.in-At.i (sym c.find.ensures ∙ c.in-At.is),
    )

pub returns-in-At : goal.returns-in-At
returns-in-At c =
    let w = c.args.w.now in
    c.modifier_at.ensures
    ∙ ap (meaning_of modifier_meaning ModifierName.Unknown) (sym c.in-At.is ∙ c.find.ensures)
    ∙ modifier_found w _ _ c.byte_at.ensures c.modifier_group-group.ensures

pub returns-in-Nothing : goal.returns-in-Nothing
returns-in-Nothing c =
    let w = c.args.w.now in
    ap (meaning_of modifier_meaning ModifierName.Unknown) (sym c.in-Nothing.is ∙ c.find.ensures)
    ∙ modifier_found w _ _ c.byte_at.ensures c.modifier_group-group.ensures
