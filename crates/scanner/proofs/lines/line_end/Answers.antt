use Rattle.model.specs.Lines.{line_end}
use Rattle.scanner.proofs.lines.line_end.Goals as goal

pub returns : goal.returns
unfolding line_end
returns c = c.run_end.ensures
