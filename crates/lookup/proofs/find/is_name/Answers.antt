-- `lookup::find::is_name` meets its contract. Assumes nothing.
use native.Mathlib.Omega.{arith}
use mathlib.Core.Path.{sym, ◌∙◌}
use Rattle.lookup.proofs.Packing.{same_name, long_other}
use Rattle.lookup.proofs.find.is_name.Goals as goal

pub returns-then-w-gt-LONGEST : goal.returns-then-w-gt-LONGEST
returns-then-w-gt-LONGEST c = let a = c.args in sym (long_other a.w.now c.if-w-gt-LONGEST.true a.place)

pub returns : goal.returns
returns c =
    let own = c.spelling_of in
    let name = c.spelling_at in
    let known = c.shared_slice_known-1 in
    let a = c.args in
    c.is_same.ensures
    ∙ sym
    (same_name a.w.now c.if-w-gt-LONGEST.false (λ i. omega (arith, known.given i)) a.place
    own.result name.result own.ensures name.ensures)
