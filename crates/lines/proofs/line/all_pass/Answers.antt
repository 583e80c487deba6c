use mathlib.Core.Bool.{◌||◌}
use Rattle.lines.specs.Line.{all_pass}
use Rattle.lines.specs.Totals.{with_line}
use Rattle.lines.proofs.line.all_pass.Goals as goal

pub returns : goal.returns
unfolding all_pass with_line
returns c = λ i. c.exceeds-productions.ensures i || c.exceeds-elements.ensures i || c.exceeds-calls.ensures i || c.exceeds-parameters.ensures i
