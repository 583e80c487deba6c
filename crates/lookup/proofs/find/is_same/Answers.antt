-- `lookup::find::is_same` meets its contract. Assumes nothing.
use mathlib.Core.Path.{refl}
use Rattle.lookup.proofs.find.is_same.Goals as goal

pub returns : goal.returns
returns c = refl
