-- `states::slots_whole` meets its contract.
use native.Mathlib.Omega.{arith}
use Prim.Native.Nat.{◌*◌, ◌-◌}
use native.Mathlib.Nat.{zero-add}
use mathlib.Core.Path.{◌≡◌, ap₂, ◌∙◌}
use mathlib.Core.Bool.{true, ◌&&◌}
use Rattle.words.specs.Runs.{every}
use Rattle.words.proofs.RunLaws.{every_all}
use Rattle.states.specs.State.{low_bytes, slots_whole}
use Rattle.states.proofs.SlotLaws.{low_bytes_lem, zero_part}
use Rattle.states.proofs.slots_whole.Goals as goal

pub returns : goal.returns
unfolding slots_whole
returns c =
    let kept = c.args.kept in
    let l = c.args.events.now in
    let e : every (low_bytes l) 0 kept ≡ true
    = every_all (low_bytes l) 0 kept (λ i h. rw zero-add (low_bytes_lem l i (λ k b. omega (arith, c.fits-events k)) (omega arith))) in
    rw e (ap₂ ◌&&◌ c.used_whole.ensures (c.bytes_zero.ensures ∙ zero_part l (8 * kept) (200 - 8 * kept) (omega arith)))
