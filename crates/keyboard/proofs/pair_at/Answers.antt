-- `keyboard::pair_at` meets its contract.
use Prim.Native.Nat.{ℕ, ◌-◌, ◌*◌, ◌+◌, ◌≤◌}
use native.Mathlib.Omega.{arith}
use mathlib.Core.Path.{ap₂, ◌∙◌}
use lib.ListN.{length}
use Rattle.keyboard.proofs.Maps.{map_bytes_lem, number_at}
use Rattle.keyboard.proofs.pair_at.Goals as goal

pub number_from-requires : goal.number_from-requires
number_from-requires c = omega (arith, map_bytes_lem _ c.requires.0, c.ranges.keycode.fits)

pub number_from-requires-2 : goal.number_from-requires-2
number_from-requires-2 c = omega (arith, map_bytes_lem _ c.requires.0, c.ranges.keycode.fits)

pub returns : goal.returns
returns c =
    let a = c.args in
    let l : 1984 ≤ length a.maps.now = map_bytes_lem a.maps.now c.requires.0 in
    let b = c.ranges.keycode.fits in
    ap₂ (λ (p q : ℕ). record { first = p; second = q })
    (c.number_from.ensures ∙ number_at a.maps.now l (2 * (a.keycode - 8)) (8 * (c.from.result - 8)) (omega arith) (omega arith))
    (c.number_from-2.ensures ∙ number_at a.maps.now l (2 * (a.keycode - 8) + 1) (8 * (c.from.result - 8) + 4) (omega arith) (omega arith))
