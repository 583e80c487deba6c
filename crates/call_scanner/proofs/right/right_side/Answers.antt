use Prim.Native.Nat.{◌+◌, pred, ℕ}
use Rattle.model.specs.Calls.{call_at, calls_from, right_side}
use Rattle.call_scanner.proofs.RightSide.{CallSpansIn, call_spans_in, right_start, right_step_lem, right_from}
use Rattle.scanner.proofs.Runs.{told}
use Rattle.call_scanner.specs.RightSide.{call_spans}
use Rattle.call_scanner.specs.declared.right.CallSpans.{CallSpans}
use borrow.Author.Rules.{rules}
use lib.ListN.{length}
use mathlib.Core.Path.{◌∙◌, ◌≡◌, ap, sym}
use native.Mathlib.Omega.{arith}
use Rattle.call_scanner.proofs.right.right_side.Goals as goal

pub loop-count-init : goal.loop-count-init
unfolding right_side
loop-count-init c = (length c.args.l.now + 1, omega arith, search rules, omega arith, omega arith, right_start (calls_from (length c.args.l.now + 1) c.args.l.now c.args.at))

pub returns-in-Broken : goal.returns-in-Broken
returns-in-Broken c =
    let s = c.loop-count in
    let inv = s.invariant in
    let q : call_spans c.args.l.now (call_at c.args.l.now s.i) ≡ CallSpans.Broken = sym c.read_call.ensures ∙ c.in-Broken.is in
    sym (inv.5 ∙ right_step_lem s.calls s.parameters s.most inv.0 c.args.l.now s.i CallSpans.Broken (omega arith) q)

pub returns-in-End : goal.returns-in-End
returns-in-End c =
    let s = c.loop-count in
    let inv = s.invariant in
    let q : call_spans c.args.l.now (call_at c.args.l.now s.i) ≡ CallSpans.End = sym c.read_call.ensures ∙ c.in-End.is in
    sym (inv.5 ∙ right_step_lem s.calls s.parameters s.most inv.0 c.args.l.now s.i CallSpans.End (omega arith) q)

pub overflow_add-calls : goal.overflow_add-calls
overflow_add-calls c = omega arith

pub overflow_add-parameters : goal.overflow_add-parameters
overflow_add-parameters c =
    let b = told (CallSpansIn (length c.args.l.now) c.loop-count.i) c.read_call.ensures c.in-Call.is (call_spans_in c.args.l.now c.loop-count.i) in
    omega (arith, b.0, b.1, b.2, b.3)

pub loop-count-smaller : goal.loop-count-smaller
loop-count-smaller c =
    let b = told (CallSpansIn (length c.args.l.now) c.loop-count.i) c.read_call.ensures c.in-Call.is (call_spans_in c.args.l.now c.loop-count.i) in
    omega (arith, b.0, b.1, b.2, b.3)

pub loop-count-preserved : goal.loop-count-preserved
loop-count-preserved c =
    let l = c.args.l.now in
    let s = c.loop-count in
    let i = s.i in
    let inv = s.invariant in
    let f = inv.0 in
    let start = c.in-Call.start in
    let end = c.in-Call.end in
    let n = c.in-Call.count in
    let p = c.in-Call.next in
    let q : call_spans l (call_at l i) ≡ CallSpans.Call start end n p = sym c.read_call.ensures ∙ c.in-Call.is in
    let b = told (CallSpansIn (length l) i) c.read_call.ensures c.in-Call.is (call_spans_in l i) in (
      pred f,
      omega (arith, b.0, b.1, b.2),
      b.3,
      omega (arith, b.0, b.1, b.2),
      omega (arith, b.0, b.1, b.2),
      inv.5 ∙ right_step_lem s.calls s.parameters s.most f l i (CallSpans.Call start end n p) (omega arith) q
          ∙ ap (λ (m : ℕ). right_from (s.calls + 1) (s.parameters + n) m (calls_from (pred f) l p)) (sym c.larger-most.ensures),
    )
