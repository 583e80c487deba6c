-- `resolving::bits_of` meets its contract.
use native.Mathlib.Omega.{arith}
use mathlib.Core.Path.{◌≡◌, ap, ◌∙◌}
use Rattle.resolving.proofs.Rows.{row_bits, all_rows}
use Rattle.resolving.proofs.bits_of.Goals as goal

pub returns : goal.returns
returns g c =
    let e : c.loop-k.k ≡ 8 = omega arith in
    c.loop-k.invariant ∙ ap (row_bits c.args.maps.now c.args.keysyms.now) e ∙ all_rows _ _ c.requires
