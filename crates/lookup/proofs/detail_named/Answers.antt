-- `lookup::detail_named` meets its contract. Assumes nothing.
use mathlib.Core.Path.{◌∙◌}
use borrow.Author.Tests.{eq-eqb, ne_eqb}
use Rattle.model.specs.Details.{detail_named}
use Rattle.lookup.proofs.Groups.{button_found, motion_found, mode_found, request_found}
use Rattle.lookup.proofs.detail_named.Goals as goal

pub returns-then-in_range : goal.returns-then-in_range
unfolding detail_named
returns-then-in_range c = rw (← c.in_range.ensures, c.if-in_range.true) c.key_detail.ensures

pub returns-then-in_range-2 : goal.returns-then-in_range-2
unfolding detail_named
returns-then-in_range-2 c =
    rw (← c.in_range.ensures, c.if-in_range.false, ← c.in_range-2.ensures, c.if-in_range-2.true)
    (c.detail_in.ensures ∙ button_found c.args.w.now)

pub returns-then-code-eq6 : goal.returns-then-code-eq6
unfolding detail_named
returns-then-code-eq6 c =
    rw (← c.in_range.ensures, c.if-in_range.false, ← c.in_range-2.ensures, c.if-in_range-2.false, eq-eqb _ _ c.if-code-eq6.true)
    (c.name_or_number.ensures ∙ motion_found c.args.w.now)

pub returns-then-in_range-3 : goal.returns-then-in_range-3
unfolding detail_named
returns-then-in_range-3 c =
    rw (← c.in_range.ensures, c.if-in_range.false, ← c.in_range-2.ensures, c.if-in_range-2.false, ne_eqb _ _ c.if-code-eq6.false, ← c.in_range-3.ensures, c.if-in_range-3.true)
    (c.name_or_number-then-in_range-3.ensures ∙ mode_found c.args.w.now)

pub returns-then-code-eq34 : goal.returns-then-code-eq34
unfolding detail_named
returns-then-code-eq34 c =
    rw (← c.in_range.ensures, c.if-in_range.false, ← c.in_range-2.ensures, c.if-in_range-2.false, ne_eqb _ _ c.if-code-eq6.false, ← c.in_range-3.ensures, c.if-in_range-3.false, eq-eqb _ _ c.if-code-eq34.true)
    (c.name_or_number-then-code-eq34.ensures ∙ request_found c.args.w.now)

pub returns-then-takes_atom : goal.returns-then-takes_atom
unfolding detail_named
returns-then-takes_atom c =
    rw (← c.in_range.ensures, c.if-in_range.false, ← c.in_range-2.ensures, c.if-in_range-2.false, ne_eqb _ _ c.if-code-eq6.false, ← c.in_range-3.ensures, c.if-in_range-3.false, ne_eqb _ _ c.if-code-eq34.false, ← c.takes_atom.ensures, c.if-takes_atom.true)

pub returns : goal.returns
unfolding detail_named
returns c =
    rw (← c.in_range.ensures, c.if-in_range.false, ← c.in_range-2.ensures, c.if-in_range-2.false, ne_eqb _ _ c.if-code-eq6.false, ← c.in_range-3.ensures, c.if-in_range-3.false, ne_eqb _ _ c.if-code-eq34.false, ← c.takes_atom.ensures, c.if-takes_atom.false)
