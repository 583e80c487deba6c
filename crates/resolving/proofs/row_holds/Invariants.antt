-- `resolving::row_holds` meets its contract.
use mathlib.Core.Path.{◌≡◌}
use lib.ListN.{take}
use Rattle.std.specs.List.{list_any}
use Rattle.model.specs.Resolving.{keycode_holds}
use Rattle.keyboard.specs.Maps.{map_numbers}
use Rattle.resolving.proofs.row_holds.Given as goal

abbrev pub invariant-loop-keycode : goal.invariant-loop-keycode
invariant-loop-keycode g l = l.holds ≡ list_any (keycode_holds (map_numbers l.maps) l.keysyms) (take l.keycode-index l.row)
