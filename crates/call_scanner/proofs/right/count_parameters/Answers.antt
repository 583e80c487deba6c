use Prim.Native.Nat.{◌+◌, pred}
use Rattle.model.specs.Calls.{parameter_at, parameters_from, span}
use Rattle.model.specs.declared.scan.ParameterRead.{ParameterRead}
use Rattle.scanner.proofs.Ranges.{ParameterIn, parameter_in}
use Rattle.call_scanner.proofs.RightSide.{counted_more, counted_start, counted_from, parameters_step}
use Rattle.scanner.proofs.Runs.{told}
use borrow.Author.Rules.{rules}
use lib.ListN.{length}
use mathlib.Core.Path.{◌∙◌, ◌≡◌, ap, sym}
use native.Mathlib.Omega.{arith}
use Rattle.call_scanner.proofs.right.count_parameters.Goals as goal

pub loop-next-init : goal.loop-next-init
loop-next-init c = (length c.args.l.now + 1, omega arith, search rules, omega arith, counted_start (parameters_from (length c.args.l.now + 1) c.args.l.now c.args.at))

pub returns-in-Broken : goal.returns-in-Broken
returns-in-Broken c =
    let inv = c.loop-next.invariant in
    let q : parameter_at c.args.l.now c.loop-next.i ≡ ParameterRead.Broken = sym c.parameter_at.ensures ∙ c.in-Broken.is in
    sym (inv.4 ∙ ap (counted_from c.loop-next.count) (parameters_step inv.0 c.args.l.now c.loop-next.i ParameterRead.Broken (omega arith) q))

pub overflow_add-count : goal.overflow_add-count
overflow_add-count c = omega arith

pub loop-next-smaller : goal.loop-next-smaller
loop-next-smaller c =
    let b = told (ParameterIn (length c.args.l.now) c.loop-next.i) c.parameter_at.ensures c.in-More.is (parameter_in c.args.l.now c.loop-next.i) in
    omega (arith, b.0, b.1, b.2, b.3)

pub loop-next-preserved : goal.loop-next-preserved
loop-next-preserved c =
    let l = c.args.l.now in
    let i = c.loop-next.i in
    let n = c.loop-next.count in
    let inv = c.loop-next.invariant in
    let f = inv.0 in
    let start = c.in-More.start in
    let end = c.in-More.end in
    let p = c.in-More.next in
    let q : parameter_at l i ≡ ParameterRead.More start end p = sym c.parameter_at.ensures ∙ c.in-More.is in
    let b = told (ParameterIn (length l) i) c.parameter_at.ensures c.in-More.is (parameter_in l i) in (
      pred f,
      omega (arith, b.0, b.1, b.2),
      b.3,
      omega (arith, b.0, b.1, b.2),
      inv.4 ∙ ap (counted_from n) (parameters_step f l i (ParameterRead.More start end p) (omega arith) q)
          ∙ counted_more n (span start end) (parameters_from (pred f) l p),
    )

pub overflow_add-result : goal.overflow_add-result
overflow_add-result c = omega arith

pub returns-in-Last : goal.returns-in-Last
returns-in-Last c =
    let l = c.args.l.now in
    let i = c.loop-next.i in
    let n = c.loop-next.count in
    let inv = c.loop-next.invariant in
    let start = c.in-Last.start in
    let end = c.in-Last.end in
    let p = c.in-Last.next in
    let q : parameter_at l i ≡ ParameterRead.Last start end p = sym c.parameter_at.ensures ∙ c.in-Last.is in
    sym (inv.4 ∙ ap (counted_from n) (parameters_step inv.0 l i (ParameterRead.Last start end p) (omega arith) q))
