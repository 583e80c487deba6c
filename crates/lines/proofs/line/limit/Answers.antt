use mathlib.Core.Path.{sym, ◌∙◌}
use Rattle.lines.specs.Line.{limited}
use Rattle.lines.proofs.line.limit.Goals as goal

pub returns-then-line_passes : goal.returns-then-line_passes
unfolding limited
returns-then-line_passes c = rw (sym c.line_passes.ensures ∙ c.if-line_passes.true)

pub returns-then-all_pass : goal.returns-then-all_pass
unfolding limited
returns-then-all_pass c = rw (sym c.line_passes.ensures ∙ c.if-line_passes.false, sym c.all_pass.ensures ∙ c.if-all_pass.true)

pub returns : goal.returns
unfolding limited
returns c = rw (sym c.line_passes.ensures ∙ c.if-line_passes.false, sym c.all_pass.ensures ∙ c.if-all_pass.false)
