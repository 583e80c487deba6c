-- `keysyms::search::is_before` meets its contract. The loop's invariant: the bytes from i on decide. Assumes nothing.
use native.Mathlib.Numerals.{add-one}
use mathlib.Core.Path.{refl, sym, ◌∙◌}
use borrow.Author.Rules.{rules}
use Rattle.keysyms.proofs.ByteOrder.{before_short, before_differ, before_same, before_long}
use Rattle.keysyms.proofs.search.is_before.Goals as goal

pub loop-i-init : goal.loop-i-init
loop-i-init c = (search rules, refl)

pub returns-then-a-i : goal.returns-then-a-i
returns-then-a-i c =
    let l = c.loop-i in
    let a = c.args in
    sym (l.invariant.1 ∙ before_short a.a.now a.b.now l.i c.if-a-i.true c.loop-i-test.true)

pub returns-then-x-y : goal.returns-then-x-y
returns-then-x-y c =
    let l = c.loop-i in
    let a = c.args in
    sym
    (l.invariant.1
    ∙ before_differ a.a.now a.b.now l.i c.if-a-i.false c.loop-i-test.true c.if-x-y.true)

pub loop-i-preserved : goal.loop-i-preserved
loop-i-preserved c =
    let l = c.loop-i in
    let a = c.args in (
      search rules,
      rw add-one
          (l.invariant.1
          ∙ before_same a.a.now a.b.now l.i c.if-a-i.false c.loop-i-test.true c.if-x-y.false),
    )

pub returns : goal.returns
returns c =
    let l = c.loop-i in
    let a = c.args in
    sym (l.invariant.1 ∙ before_long a.a.now a.b.now l.i c.loop-i-test.false)
