-- `compiler::text::refuse` meets its contract.
use mathlib.Core.Path.{refl}
use Rattle.compiler.proofs.text.refuse.Goals as goal

pub returns : goal.returns
returns c = (refl, c.clear.ensures)
