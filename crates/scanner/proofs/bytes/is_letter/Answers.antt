use mathlib.Core.Path.{refl}
use Rattle.model.specs.Bytes.{is_letter}
use Rattle.scanner.proofs.bytes.is_letter.Goals as goal

pub returns : goal.returns
unfolding is_letter
returns c = refl
