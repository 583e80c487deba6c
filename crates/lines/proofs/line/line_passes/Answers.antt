use mathlib.Core.Path.{refl}
use Rattle.lines.specs.Line.{line_passes}
use Rattle.lines.proofs.line.line_passes.Goals as goal

pub returns : goal.returns
unfolding line_passes
returns c = refl
