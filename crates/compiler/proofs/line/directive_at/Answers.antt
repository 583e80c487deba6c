use native.Mathlib.Omega.{arith}
use mathlib.Core.Path.{sym, ap, ◌∙◌}
use Rattle.model.specs.Lines.{directive_of}
use Rattle.compiler.proofs.LineSteps.{line_part, line_from_lem, line_in, directive_first, directive_later}
use Rattle.compiler.proofs.line.directive_at.Goals as goal

pub slice_bounds-directive_of-count : goal.slice_bounds-directive_of-count
slice_bounds-directive_of-count c =
    omega (arith, c.requires.1, line_from_lem c.args.text.now c.args.at)

pub slice_bounds-directive_of-start : goal.slice_bounds-directive_of-start
slice_bounds-directive_of-start c =
    omega (arith, c.requires.1, line_from_lem c.args.text.now c.args.at)

pub slice_bounds-directive_of-end : goal.slice_bounds-directive_of-end
slice_bounds-directive_of-end c =
    omega (arith, c.requires.1, line_in c.args.text.now c.args.at c.requires.0)

pub returns-then-at-eq0 : goal.returns-then-at-eq0
returns-then-at-eq0 c =
    let text = c.args.text.now in
    let at = c.args.at in
    c.directive_of.ensures ∙ ap directive_of (line_part text at c.args.end c.requires.1) ∙ sym (directive_first text at c.if-at-eq0.true)

pub returns : goal.returns
returns c = sym (directive_later c.args.text.now c.args.at c.if-at-eq0.false)
