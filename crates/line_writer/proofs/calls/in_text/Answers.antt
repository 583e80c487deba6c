-- `line_writer::calls::in_text` meets its contract.
use mathlib.Core.Path.{refl}
use Rattle.line_writer.proofs.calls.in_text.Goals as goal

pub returns : goal.returns
returns c = refl
