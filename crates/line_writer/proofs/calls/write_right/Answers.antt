use native.Mathlib.Omega.{arith}
use Prim.Native.Nat.{◌+◌}
use mathlib.Core.Path.{refl, sym, ◌∙◌, subst}
use Rattle.line_writer.specs.Reads.{CallPut}
use Rattle.line_writer.proofs.CallWalk.{right_start, right_broken, right_end, call_bounds, right_more}
use Rattle.line_writer.proofs.calls.write_right.Goals as goal

pub loop-count-init : goal.loop-count-init
loop-count-init c =
    (right_start c.args.l.now c.args.at c.args.base c.args.n c.args.p c.args.out.now c.requires.0.0, refl)

pub overflow_add-n : goal.overflow_add-n
overflow_add-n c =
    let g = c.loop-count.invariant.0 in
    omega (arith, g.few_calls, g.few_parameters, g.inside, c.requires.0.1, c.requires.1.1)

pub overflow_add-p : goal.overflow_add-p
overflow_add-p c =
    let g = c.loop-count.invariant.0 in
    omega (arith, g.few_calls, g.few_parameters, g.inside, c.requires.0.1, c.requires.1.2)

pub write_call-requires : goal.write_call-requires
write_call-requires c =
    let x = c.loop-count in
    let g = x.invariant.0 in
    ((g.inside, c.requires.0.1), (omega (arith, c.requires.1.0, x.invariant.1), omega (arith, g.few_calls, g.few_parameters, g.inside, c.requires.0.1, c.requires.1.2)))

pub shape_of-out-in-Broken : goal.shape_of-out-in-Broken
shape_of-out-in-Broken c = c.write_call.auto.out ∙ c.loop-count.invariant.1

pub returns-in-Broken : goal.returns-in-Broken
returns-in-Broken c = right_broken c.loop-count.invariant.0 (sym c.write_call.ensures.0 ∙ c.in-Broken.is)

pub shape_of-out-in-End : goal.shape_of-out-in-End
shape_of-out-in-End c = c.write_call.auto.out ∙ c.loop-count.invariant.1

pub returns-in-End : goal.returns-in-End
returns-in-End c =
    let a = c.args in
    let x = c.loop-count in
    let w = c.write_call in
    right_end x.invariant.0 (sym w.ensures.0 ∙ c.in-End.is)
    (subst (CallPut a.l.now a.base (a.n + x.calls) (a.p + x.parameters) x.out w.new.out) c.in-End.is w.ensures.1)

-- ---- A whole call was read

pub overflow_add-calls : goal.overflow_add-calls
overflow_add-calls c =
    let g = c.loop-count.invariant.0 in
    omega (arith, g.few_calls, g.inside, c.requires.0.1)

pub overflow_add-parameters : goal.overflow_add-parameters
overflow_add-parameters c =
    let g = c.loop-count.invariant.0 in
    let b = call_bounds g (sym c.write_call.ensures.0 ∙ c.in-Call.is) in
    omega (arith, g.few_parameters, b.0, b.1, b.2, b.3, c.requires.0.1)

pub loop-count-smaller : goal.loop-count-smaller
loop-count-smaller c =
    let b = call_bounds c.loop-count.invariant.0 (sym c.write_call.ensures.0 ∙ c.in-Call.is) in
    omega (arith, b.0, b.1, b.2, b.3)

pub loop-count-preserved : goal.loop-count-preserved
loop-count-preserved c =
    let a = c.args in
    let x = c.loop-count in
    let w = c.write_call in (
      right_more x.invariant.0 (sym c.write_call.ensures.0 ∙ c.in-Call.is)
          (subst (CallPut a.l.now a.base (a.n + x.calls) (a.p + x.parameters) x.out w.new.out) c.in-Call.is w.ensures.1)
          c.larger-most.ensures,
      w.auto.out ∙ x.invariant.1,
    )
