use native.Mathlib.Omega.{arith}
use Prim.Native.Nat.{◌-◌}
use mathlib.Core.Path.{◌≡◌, sym, ap, ◌∙◌}
use Rattle.std.specs.Prelude.{Option, None, Some}
use lib.ListN.{length, take, drop, length-drop}
use lib.Seq.{length-take-le}
use Rattle.model.specs.Lines.{line_at, directive_at}
use Rattle.model.specs.declared.events.Directive.{Directive}
use Rattle.lookup.specs.Find.{directive_given}
use Rattle.lines.specs.declared.totals.Totals.{Totals}
use Rattle.compiler.specs.Progress.{plain_step, line_step}
use Rattle.compiler.specs.declared.line.LineDone.{LineDone}
use Rattle.compiler.proofs.LineSteps.{line_part, line_from_lem, line_in, stepped}
use Rattle.compiler.proofs.line.do_line.Goals as goal

pub slice_bounds-add_line-count : goal.slice_bounds-add_line-count
slice_bounds-add_line-count c =
    omega (arith, c.requires.0.2, line_from_lem c.args.text.now c.args.at)

pub slice_bounds-add_line-start : goal.slice_bounds-add_line-start
slice_bounds-add_line-start c =
    omega (arith, c.requires.0.2, line_from_lem c.args.text.now c.args.at)

pub slice_bounds-add_line-end : goal.slice_bounds-add_line-end
slice_bounds-add_line-end c =
    omega (arith, c.requires.0.2, line_in c.args.text.now c.args.at c.requires.0.0)

pub add_line-requires : goal.add_line-requires
add_line-requires c =
    let text = c.args.text.now in
    let at = c.args.at in
    let end = c.args.end in
    let i = line_in text at c.requires.0.0 in
    let f = line_from_lem text at in
    let q : length (take (end - at) (drop at text)) ≡ end - at = length-take-le (end - at) (drop at text) (simp length-drop (omega (arith, c.requires.0.2))) in
    (omega (arith, c.requires.0.0, c.requires.0.1, c.requires.0.2), c.requires.1)

pub returns-in-Found : goal.returns-in-Found
returns-in-Found c u =
    let a = c.args in
    let d = c.in-Found.directive in
    let e : directive_at a.text.now a.at ≡ Some d = sym c.directive_at.ensures ∙ ap directive_given c.in-Found.is in
    stepped u.rest _ _ (ap (λ (o : Option Directive). line_step o a.s.directive u.ps a.at (line_at a.text.now a.at)) e)
    (ap (λ (t : Totals). LineDone.Done (record { directive = d; totals = t })) u.totals, u.bytes)

pub returns-in-Absent : goal.returns-in-Absent
returns-in-Absent c u =
    let a = c.args in
    let e : directive_at a.text.now a.at ≡ None = sym c.directive_at.ensures ∙ ap directive_given c.in-Absent.is in
    let w = line_part a.text.now a.at a.end c.requires.0.2 in
    stepped u.rest _ _
    (ap (λ (o : Option Directive). line_step o a.s.directive u.ps a.at (line_at a.text.now a.at)) e ∙ ap (plain_step a.s.directive u.ps a.at) (sym w))
    (c.add_line.ensures u)
