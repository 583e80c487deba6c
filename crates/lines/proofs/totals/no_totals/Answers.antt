use mathlib.Core.Path.{refl}
use Rattle.lines.specs.Totals.{totals_of}
use Rattle.lines.proofs.totals.no_totals.Goals as goal

pub returns : goal.returns
unfolding totals_of
returns c = refl
