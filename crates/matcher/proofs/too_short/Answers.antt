-- `matcher::too_short` meets its contract.
use mathlib.Core.Path.{ap}
use mathlib.Core.Bool.{Bool, ◌||◌}
use lib.Dec.{ltb}
use lib.ListN.{length}
use Rattle.tables.specs.Layout.{table_length}
use Rattle.matcher.specs.Match.{too_short}
use Rattle.matcher.proofs.MatchLaws.{map_long_lem}
use Rattle.matcher.proofs.too_short.Goals as goal

pub returns : goal.returns
unfolding too_short
returns c =
    let a = c.args in
    ap (λ (b : Bool). ltb (length a.table.now) table_length || b) (map_long_lem a.maps.now)
