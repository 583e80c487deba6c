-- `states::slots::put_event` meets its contract.
use native.Mathlib.Omega.{arith}
use Prim.Native.Nat.{◌/◌, ◌%◌}
use mathlib.Core.Path.{◌≡◌}
use Rattle.states.proofs.SlotLaws.{stores}
use Rattle.states.proofs.slots.put_event.Goals as goal

pub returns : goal.returns
returns c =
    let x = c.args.x in
    let s : x.state / 256 % 256 ≡ x.state / 256 = omega arith in
    let t : x.time / 16777216 % 256 ≡ x.time / 16777216 = omega arith in
    rw (c.to_le_bytes.ensures, c.to_le_bytes-2.ensures, s, t) (stores c.args.out.now c.args.j x)
