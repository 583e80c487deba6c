use Rattle.model.specs.Lines.{is_blank_line}
use Rattle.scanner.proofs.lines.is_blank_line.Goals as goal

pub returns : goal.returns
unfolding is_blank_line
returns c = rw c.skip.ensures
