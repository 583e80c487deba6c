-- `writing::bytes::put_part` meets its contract.
use Prim.Native.Nat.{◌+◌}
use lib.ListN.{take}
use mathlib.Core.Path.{◌≡◌}
use Rattle.writing.specs.Overlay.{Put}
use Rattle.writing.proofs.bytes.put_part.Given as goal

abbrev pub invariant-loop-b : goal.invariant-loop-b
invariant-loop-b l =
    (l.next ≡ l.at + l.b-index) × Put l.initial.out l.out l.at l.next (take l.b-index l.b-items)
