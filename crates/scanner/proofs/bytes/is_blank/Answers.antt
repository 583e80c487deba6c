use mathlib.Core.Path.{refl}
use Rattle.model.specs.Bytes.{is_blank}
use Rattle.scanner.proofs.bytes.is_blank.Goals as goal

pub returns : goal.returns
unfolding is_blank
returns c = refl
