-- `resolving::by_keysyms` meets its contract.
use mathlib.Core.Path.{◌≡◌}
use mathlib.Core.Bool.{false}
use lib.ListN.{take}
use Rattle.std.specs.List.{fold}
use Rattle.keyboard.specs.Maps.{lent_setting}
use Rattle.resolving.proofs.Asking.{with_marked}
use Rattle.resolving.proofs.by_keysyms.Given as goal

abbrev pub invariant-loop-s : goal.invariant-loop-s
invariant-loop-s l = l.so ≡ fold (with_marked (lent_setting l.maps 0)) (record { set = 0; clear = 0; dead = false }) (take l.s-index l.s-items)
