-- `lookup::find::spelling_of` meets its contract. Assumes nothing.
use Prim.Native.Nat.{◌-◌}
use native.Mathlib.Omega.{arith}
use mathlib.Core.Path.{◌≡◌, sym, ap, ◌∙◌}
use lib.ListN.{length, take, drop, length-drop, drop_of_length-le}
use lib.Seq.{take_all}
use Rattle.names.specs.Table.{packed, spelling_of}
use Rattle.lookup.proofs.find.spelling_of.Goals as goal

pub returns-then-len-le8 : goal.returns-then-len-le8
unfolding spelling_of
returns-then-len-le8 c =
    let w = c.args.w.now in
    let low : c.number_of-low.result ≡ packed (take 8 w) =
    c.number_of-low.ensures ∙ ap packed (take_all (length w - 0) w (omega arith) ∙ sym (take_all 8 w c.if-len-le8.true))
    in
    rw (low, drop_of_length-le w c.if-len-le8.true)

pub returns : goal.returns
unfolding spelling_of
returns c =
    let w = c.args.w.now in
    let high : c.number_of-high.result ≡ packed (take 8 (drop 8 w)) =
    c.number_of-high.ensures
    ∙ ap packed
    (take_all (length w - 8) (drop 8 w) (simp length-drop (omega arith))
    ∙ sym (take_all 8 (drop 8 w) (simp length-drop (omega (arith, c.requires)))))
    in
    rw (c.number_of-low-2.ensures, high)
