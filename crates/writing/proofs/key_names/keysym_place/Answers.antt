-- `writing::key_names::keysym_place` meets its contract. The loop's invariant: what is left of the list gives the place. Assumes nothing.
use Prim.Native.Nat.{◌≤◌, ◌<◌}
use mathlib.Core.Path.{◌≡◌, refl, sym, ap, ◌∙◌}
use mathlib.Core.Bool.{true, false}
use lib.ListN.{length}
use borrow.Author.Tests.{eq-eqb, ne_eqb}
use Rattle.model.specs.Details.{keysym_entries}
use Rattle.model.specs.Canonical.{is_value}
use Rattle.names.specs.Places.{buttons_at}
use Rattle.names.specs.Table.{meanings_in}
use Rattle.writing.specs.KeyNames.{place_or_past, keysym_place}
use Rattle.writing.proofs.KeyNames.{value_here, value_later, value_nowhere, meaning_at, meanings_total, meaning_value}
use borrow.Author.Rules.{rules}
use Rattle.writing.proofs.key_names.keysym_place.Goals as goal

pub loop-i-init : goal.loop-i-init
unfolding keysym_place
loop-i-init c = (search rules, refl)

pub returns-then-detail_value-v : goal.returns-then-detail_value-v
returns-then-detail_value-v c =
    let v = c.args.v in
    let i = c.loop-i.i in
    let h : i < buttons_at = c.loop-i-test.true in
    let e : is_value v (meaning_at i) ≡ true = ap (is_value v) (meaning_value i h) ∙ eq-eqb _ v (sym c.detail_value.ensures ∙ c.if-detail_value-v.true) in
    sym (c.loop-i.invariant.1 ∙ ap place_or_past (value_here (is_value v) (meanings_in keysym_entries) i (rw meanings_total h) e))

pub loop-i-preserved : goal.loop-i-preserved
loop-i-preserved c =
    let v = c.args.v in
    let i = c.loop-i.i in
    let h : i < buttons_at = c.loop-i-test.true in
    let e : is_value v (meaning_at i) ≡ false =
    ap (is_value v) (meaning_value i h) ∙ ne_eqb _ v (λ q. c.if-detail_value-v.false (c.detail_value.ensures ∙ q))
    in
    (search rules, c.loop-i.invariant.1 ∙ ap place_or_past (value_later (is_value v) (meanings_in keysym_entries) i (rw meanings_total h) e))

pub returns : goal.returns
returns c =
    let v = c.args.v in
    let i = c.loop-i.i in
    let h : length (meanings_in keysym_entries) ≤ i = rw meanings_total c.loop-i-test.false in
    sym (c.loop-i.invariant.1 ∙ ap place_or_past (value_nowhere (is_value v) (meanings_in keysym_entries) i h))
