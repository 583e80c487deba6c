use native.Mathlib.Omega.{arith}
use Prim.Native.Nat.{ℕ}
use mathlib.Core.List.{List}
use mathlib.Core.Path.{◌≡◌, refl, sym, ap, ◌∙◌}
use lib.ListN.{length}
use Rattle.model.specs.Compiling.{outcome_answer}
use Rattle.tables.specs.Layout.{table_length}
use Rattle.compiler.specs.declared.line.LineDone.{LineDone}
use Rattle.compiler.proofs.LineSteps.{line_from_lem}
use Rattle.compiler.proofs.Run.{going_start, underway, after_line_lem, next_totals, next_going, next_last, refused_bytes, accepted_bytes}
use Rattle.compiler.proofs.text.compile_lines.Goals as goal

pub loop-number-init : goal.loop-number-init
loop-number-init c =
    (going_start c.args.text.now c.args.out.now c.clear.new.out c.no_totals-totals.result c.requires.0 c.clear.ensures c.no_totals-totals.ensures, refl)

pub do_line-requires : goal.do_line-requires
do_line-requires c =
    let g = c.loop-number.invariant.0 in
    ((g.inside, c.requires.1, c.line_end-end.ensures), underway _ _ _ _ g)

-- a buffer that is as long as at the start
long : (a b d e : List ℕ) → length a ≡ length b → length b ≡ length d → length d ≡ length e → length e ≡ table_length → length a ≡ table_length
long a b d e p q r t = p ∙ q ∙ r ∙ t

pub refuse-requires : goal.refuse-requires
refuse-requires c = omega (arith, long _ _ _ _ c.do_line.auto.out c.loop-number.invariant.1 c.clear.auto.out c.requires.0)

pub shape_of-out-in-Refused : goal.shape_of-out-in-Refused
shape_of-out-in-Refused c =
    c.refuse.auto.table ∙ c.do_line.auto.out ∙ c.loop-number.invariant.1 ∙ c.clear.auto.out

pub returns-in-Refused : goal.returns-in-Refused
returns-in-Refused c =
    let text = c.args.text.now in
    let n = c.in-Refused.number in
    -- what the line came to
    let y = c.loop-number in
    let e = c.do_line.ensures (underway c.args.text.now y.out y.s y.at y.invariant.0) in
    let k = after_line_lem c.args.text.now y.out y.s y.at y.invariant.0 c.do_line.new.out c.do_line.result (LineDone.Refused n) e.0 e.1 c.in-Refused.is in (
      c.refuse.ensures.0 ∙ ap outcome_answer (sym k),
      refused_bytes text c.do_line.new.out c.refuse.new.table n c.loop-number.at (long _ _ _ _ c.do_line.auto.out c.loop-number.invariant.1 c.clear.auto.out c.requires.0) k c.refuse.ensures.1,
    )

pub write_header-requires : goal.write_header-requires
write_header-requires c =
    -- what the line came to
    let y = c.loop-number in
    let e = c.do_line.ensures (underway c.args.text.now y.out y.s y.at y.invariant.0) in
    let x = after_line_lem c.args.text.now y.out y.s y.at y.invariant.0 c.do_line.new.out c.do_line.result (LineDone.Done c.in-Done.next) e.0 e.1 c.in-Done.is in
    ((omega (arith, long _ _ _ _ c.do_line.auto.out c.loop-number.invariant.1 c.clear.auto.out c.requires.0), c.requires.1), next_totals _ _ _ _ x)

pub shape_of-out-then-text-end : goal.shape_of-out-then-text-end
shape_of-out-then-text-end c =
    c.write_header.auto.out ∙ c.do_line.auto.out ∙ c.loop-number.invariant.1 ∙ c.clear.auto.out

pub returns-then-text-end : goal.returns-then-text-end
returns-then-text-end c =
    let text = c.args.text.now in
    let s = c.in-Done.next in
    -- what the line came to
    let y = c.loop-number in
    let e = c.do_line.ensures (underway c.args.text.now y.out y.s y.at y.invariant.0) in
    let x = after_line_lem c.args.text.now y.out y.s y.at y.invariant.0 c.do_line.new.out c.do_line.result (LineDone.Done s) e.0 e.1 c.in-Done.is in
    let last = next_last _ _ _ _ x c.line_end-end.result c.line_end-end.ensures c.if-text-end.true in
    (ap outcome_answer (sym last), accepted_bytes text c.do_line.new.out c.write_header.new.out s c.loop-number.at x last c.write_header.ensures)

pub loop-number-smaller : goal.loop-number-smaller
loop-number-smaller c =
    let at = c.loop-number.at in
    let text = c.args.text.now in
    omega (arith, c.line_end-end.ensures, line_from_lem text at, c.if-text-end.false)

pub loop-number-preserved : goal.loop-number-preserved
loop-number-preserved c =
    -- what the line came to
    let y = c.loop-number in
    let e = c.do_line.ensures (underway c.args.text.now y.out y.s y.at y.invariant.0) in
    let x = after_line_lem c.args.text.now y.out y.s y.at y.invariant.0 c.do_line.new.out c.do_line.result (LineDone.Done c.in-Done.next) e.0 e.1 c.in-Done.is in (
      next_going _ _ _ _ x c.line_end-end.result c.line_end-end.ensures c.if-text-end.false,
      c.do_line.auto.out ∙ c.loop-number.invariant.1,
    )
