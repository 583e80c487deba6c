-- `acting::moves::left_for` meets its contract.
use mathlib.Core.Path.{refl, sym, ◌∙◌}
use mathlib.Core.Bool.{true}
use Rattle.acting.proofs.MoveLaws.{replaced_some, left_short, left_same, left_nothing}
use Rattle.acting.proofs.moves.left_for.Goals as goal

pub shortened-requires : goal.shortened-requires
shortened-requires c =
    let a = c.args in
    replaced_some a.events.now a.kept a.selected a.«open» a.x c.requires.1
    (sym c.replaces.ensures ∙ c.if-replaces.true)

pub returns-then-replaces : goal.returns-then-replaces
returns-then-replaces c t setting =
    let a = c.args in
    c.shortened.ensures
    ∙ left_short a.events.now a.kept a.selected a.«open» a.x c.requires.1 t setting
    (sym c.replaces.ensures ∙ c.if-replaces.true)

pub returns-then-open : goal.returns-then-open
returns-then-open c t setting =
    let a = c.args in
    rw c.if-open.true
    (left_same a.events.now a.kept a.selected true a.x c.requires.1 t setting (sym c.replaces.ensures ∙ c.if-replaces.false) refl)

pub returns : goal.returns
returns c t setting =
    let a = c.args in
    left_nothing a.events.now a.kept a.selected a.«open» a.x c.requires.1 t setting
    (sym c.replaces.ensures ∙ c.if-replaces.false) c.if-open.false
