-- `resolving::by_keysyms` meets its contract.
use native.Mathlib.Omega.{arith}
use mathlib.Core.Bool.{false}
use mathlib.Core.List.{[], ◌∷◌}
use Rattle.std.proofs.lemmas.List.Sums.{fold_more}
use mathlib.Core.Path.{◌≡◌, ◌∙◌}
use Rattle.keyboard.specs.Maps.{lent_setting}
use Rattle.resolving.proofs.Asking.{with_marked, gathered_keysyms}
use Rattle.resolving.proofs.by_keysyms.Goals as goal

pub loop-s-preserved : goal.loop-s-preserved
loop-s-preserved c =
    let k = c.args.k in
    let keysyms = k.fourth ∷ k.third ∷ k.second ∷ k.first ∷ [] in
    cc (fold_more (with_marked (lent_setting c.args.maps.now 0)) (record { set = 0; clear = 0; dead = false }) keysyms c.loop-s.s-index 0 (omega arith))

pub returns : goal.returns
returns c =
    let k = c.args.k in
    let e : c.loop-s.s-index ≡ 4 = omega arith in
    c.loop-s.invariant ∙ rw e (gathered_keysyms (lent_setting c.args.maps.now 0) k.first k.second k.third k.fourth)
