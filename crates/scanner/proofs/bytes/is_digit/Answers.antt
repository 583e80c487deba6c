use mathlib.Core.Path.{refl}
use Rattle.model.specs.Bytes.{is_digit}
use Rattle.scanner.proofs.bytes.is_digit.Goals as goal

pub returns : goal.returns
unfolding is_digit
returns c = refl
