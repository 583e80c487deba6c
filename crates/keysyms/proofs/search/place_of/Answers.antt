-- `keysyms::search::place_of` meets its contract. Assumes nothing.
use Prim.Native.Nat.{ℕ}
use native.Mathlib.Omega.{arith}
use mathlib.Core.Path.{sym, ap, ◌∙◌}
use mathlib.Core.List.{List}
use Rattle.model.specs.Lists.{is_before}
use Rattle.keysyms.proofs.Ranked.{past_all, past_one, at_one}
use Rattle.keysyms.proofs.search.place_of.Goals as goal

pub returns-then-place-ge-TOTAL : goal.returns-then-place-ge-TOTAL
returns-then-place-ge-TOTAL c = past_all c.args.w.now c.rank-place.result c.rank-place.ensures c.if-place-ge-TOTAL.true

pub returns-then-is_before : goal.returns-then-is_before
returns-then-is_before c =
    let w = c.args.w.now in
    past_one w c.rank-place.result c.rank-place.ensures (omega (arith, c.if-place-ge-TOTAL.false))
    (ap (λ (n : List ℕ). is_before w n) (sym c.name_at.ensures) ∙ sym c.is_before.ensures ∙ c.if-is_before.true)

pub returns : goal.returns
returns c =
    let w = c.args.w.now in
    at_one w c.rank-place.result c.rank-place.ensures (omega (arith, c.if-place-ge-TOTAL.false))
    (ap (λ (n : List ℕ). is_before w n) (sym c.name_at.ensures) ∙ sym c.is_before.ensures ∙ c.if-is_before.false)
