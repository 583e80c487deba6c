use native.Mathlib.Omega.{arith}
use mathlib.Core.Path.{refl, sym, ◌∙◌}
use lib.ListN.{length}
use Rattle.scanner.proofs.Ranges.{ParameterIn, parameter_in}
use Rattle.scanner.proofs.Runs.{told}
use Rattle.line_writer.proofs.CallWalk.{walk_start, walk_broken, walk_more, walk_last}
use Rattle.line_writer.proofs.calls.write_parameters.Goals as goal

pub loop-start-init : goal.loop-start-init
loop-start-init c =
    (walk_start c.args.l.now c.args.at c.args.base c.args.first c.args.out.now c.requires.0.0, refl)

pub parameter_at-requires : goal.parameter_at-requires
parameter_at-requires c = c.loop-start.invariant.0.inside

pub shape_of-out-in-Broken : goal.shape_of-out-in-Broken
shape_of-out-in-Broken c = c.loop-start.invariant.1

pub returns-in-Broken : goal.returns-in-Broken
returns-in-Broken c = walk_broken c.loop-start.invariant.0 (sym c.parameter_at.ensures ∙ c.in-Broken.is)

pub overflow_add-first : goal.overflow_add-first
overflow_add-first c =
    let g = c.loop-start.invariant.0 in
    omega (arith, g.few, g.inside, c.requires.0.1, c.requires.1.1)

pub write_parameter-requires : goal.write_parameter-requires
write_parameter-requires c =
    let l = c.args.l.now in
    let i = c.loop-start.i in
    let b = told (ParameterIn (length l) i) c.parameter_at.ensures c.in-More.is (parameter_in l i) in
    ((b.1, omega (arith, b.2, b.3, c.requires.0.1)), omega (arith, c.requires.1.0, c.loop-start.invariant.1))

pub overflow_add-count : goal.overflow_add-count
overflow_add-count c =
    let g = c.loop-start.invariant.0 in
    omega (arith, g.few, g.inside, c.requires.0.1)

pub loop-start-smaller : goal.loop-start-smaller
loop-start-smaller c =
    let l = c.args.l.now in
    let i = c.loop-start.i in
    let b = told (ParameterIn (length l) i) c.parameter_at.ensures c.in-More.is (parameter_in l i) in
    omega (arith, b.0, b.1, b.2, b.3)

pub loop-start-preserved : goal.loop-start-preserved
loop-start-preserved c =
    let x = c.loop-start in
    (walk_more x.invariant.0 c.write_parameter.ensures (sym c.parameter_at.ensures ∙ c.in-More.is), c.write_parameter.auto.out ∙ x.invariant.1)

pub overflow_add-first-in-Last : goal.overflow_add-first-in-Last
overflow_add-first-in-Last c =
    let g = c.loop-start.invariant.0 in
    omega (arith, g.few, g.inside, c.requires.0.1, c.requires.1.1)

pub write_parameter-requires-in-Last : goal.write_parameter-requires-in-Last
write_parameter-requires-in-Last c =
    let l = c.args.l.now in
    let i = c.loop-start.i in
    let b = told (ParameterIn (length l) i) c.parameter_at.ensures c.in-Last.is (parameter_in l i) in
    ((b.1, omega (arith, b.2, b.3, c.requires.0.1)), omega (arith, c.requires.1.0, c.loop-start.invariant.1))

pub overflow_add-result : goal.overflow_add-result
overflow_add-result c =
    let g = c.loop-start.invariant.0 in
    omega (arith, g.few, g.inside, c.requires.0.1)

pub shape_of-out-in-Last : goal.shape_of-out-in-Last
shape_of-out-in-Last c = c.write_parameter-in-Last.auto.out ∙ c.loop-start.invariant.1

pub returns-in-Last : goal.returns-in-Last
returns-in-Last c = walk_last c.loop-start.invariant.0 c.write_parameter-in-Last.ensures (sym c.parameter_at.ensures ∙ c.in-Last.is)
