-- `lookup::find::find` meets its contract. The loop's invariant: what is left of the range gives the whole. Assumes nothing.
use Prim.Native.Nat.{◌-◌}
use native.Mathlib.Omega.{arith}
use mathlib.Core.Path.{refl, sym, ◌∙◌}
use borrow.Author.Rules.{rules}
use Rattle.lookup.proofs.Lookup.{find_hit, find_miss, find_end}
use Rattle.lookup.proofs.Packing.{same_name, long_nowhere}
use Rattle.lookup.proofs.find.find.Goals as goal

pub returns-then-w-gt-LONGEST : goal.returns-then-w-gt-LONGEST
returns-then-w-gt-LONGEST c =
    let a = c.args in
    sym (long_nowhere a.w.now c.if-w-gt-LONGEST.true (a.to - a.from) a.from)

pub loop-i-init : goal.loop-i-init
loop-i-init c = (search rules, search rules, search rules, λ k. omega (arith, c.shared_slice_known-1.given k), c.spelling_of-own.ensures, refl)

pub returns-then-is_same : goal.returns-then-is_same
returns-then-is_same c =
    let l = c.loop-i in
    let own = c.spelling_of-own in
    let name = c.spelling_at in
    let a = c.args in
    let is = same_name a.w.now l.invariant.2 l.invariant.3 l.i own.result name.result l.invariant.4 name.ensures in
    sym
    (l.invariant.5
    ∙ find_hit a.w.now l.i a.to c.loop-i-test.true (is ∙ sym c.is_same.ensures ∙ c.if-is_same.true))

pub loop-i-preserved : goal.loop-i-preserved
loop-i-preserved c =
    let l = c.loop-i in
    let own = c.spelling_of-own in
    let name = c.spelling_at in
    let a = c.args in
    let is = same_name a.w.now l.invariant.2 l.invariant.3 l.i own.result name.result l.invariant.4 name.ensures in (
      search rules,
      search rules,
      l.invariant.2,
      l.invariant.3,
      l.invariant.4,
      l.invariant.5
          ∙ find_miss a.w.now l.i a.to c.loop-i-test.true (is ∙ sym c.is_same.ensures ∙ c.if-is_same.false),
    )

pub returns : goal.returns
returns c =
    let l = c.loop-i in
    let a = c.args in
    sym (l.invariant.5 ∙ find_end a.w.now l.i a.to c.loop-i-test.false)
