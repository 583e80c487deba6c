-- `judge::events::judge_parts` meets its contract: each check by its own function, the first that applies by `event_order`.
use mathlib.Core.Path.{◌≡◌, ◌∙◌}
use Rattle.judge.specs.Judged.{parts_number}
use Rattle.list_masks.proofs.Asked.{set_below, clear_below_lem}
use Rattle.judge.proofs.Parts.{parts_number_lem, keeps, crowds, refuses}
use Rattle.judge.proofs.events.judge_parts.Goals as goal

pub clause_of-clause-requires : goal.clause_of-clause-requires
clause_of-clause-requires c = rw c.set_of-set.ensures (set_below _ _)

pub no_state_meets-impossible-requires : goal.no_state_meets-impossible-requires
no_state_meets-impossible-requires c =
    (rw c.set_of-set.ensures (set_below _ _), rw c.clear_of-clear.ensures (clear_below_lem _))

pub returns-then-n-ne0 : goal.returns-then-n-ne0
returns-then-n-ne0 c =
    let a = c.args in
    -- the number that was picked
    let number : c.event_order-n.result ≡ parts_number a.s a.ty a.c a.d =
    c.event_order-n.ensures
    ∙ parts_number_lem a.s a.ty a.c a.d
    c.set_of-set.result c.clear_of-clear.result c.clause_of-clause.result
    c.set_of-set.ensures c.clear_of-clear.ensures c.clause_of-clause.ensures
    c.takes_modifiers-takes.result c.colon_misplaced-colon.result c.no_state_meets-impossible.result
    c.takes_modifiers-takes.ensures c.colon_misplaced-colon.ensures c.no_state_meets-impossible.ensures in
    refuses _ _ _ _ _ number c.if-n-ne0.true

pub returns-then-s : goal.returns-then-s
returns-then-s c =
    let a = c.args in
    -- the number that was picked
    let number : c.event_order-n.result ≡ parts_number a.s a.ty a.c a.d =
    c.event_order-n.ensures
    ∙ parts_number_lem a.s a.ty a.c a.d
    c.set_of-set.result c.clear_of-clear.result c.clause_of-clause.result
    c.set_of-set.ensures c.clear_of-clear.ensures c.clause_of-clause.ensures
    c.takes_modifiers-takes.result c.colon_misplaced-colon.result c.no_state_meets-impossible.result
    c.takes_modifiers-takes.ensures c.colon_misplaced-colon.ensures c.no_state_meets-impossible.ensures in
    crowds _ _ _ _ _ number c.if-n-ne0.false c.if-s.true

pub returns : goal.returns
returns c =
    let a = c.args in
    -- the number that was picked
    let number : c.event_order-n.result ≡ parts_number a.s a.ty a.c a.d =
    c.event_order-n.ensures
    ∙ parts_number_lem a.s a.ty a.c a.d
    c.set_of-set.result c.clear_of-clear.result c.clause_of-clause.result
    c.set_of-set.ensures c.clear_of-clear.ensures c.clause_of-clause.ensures
    c.takes_modifiers-takes.result c.colon_misplaced-colon.result c.no_state_meets-impossible.result
    c.takes_modifiers-takes.ensures c.colon_misplaced-colon.ensures c.no_state_meets-impossible.ensures in
    keeps _ _ _ _ _ _ _ c.set_of-set.ensures c.clear_of-clear.ensures c.clause_of-clause.ensures
    _ _ number c.if-n-ne0.false c.if-s.false c.kept_event.ensures
