-- `acting::moves::shifted` meets its contract.
use Prim.Native.Nat.{ℕ, ◌<◌}
use native.Mathlib.Omega.{arith}
use mathlib.Core.Path.{◌≡◌, sym, ap, ◌∙◌}
use lib.ListN.{length, take, drop}
use lib.Seq.{length-slice}
use Rattle.states.specs.State.{slots_of, in_slots}
use Rattle.states.proofs.SlotLaws.{length_slots, in_slot, length_in}
use Rattle.acting.proofs.Shifts.{no_slots, shift_none, shift_more}
use Rattle.acting.proofs.moves.shifted.Goals as goal

pub loop-i-init : goal.loop-i-init
loop-i-init c =
    let a = c.args in
    no_slots ∙ shift_none (slots_of a.events.now) a.from

pub slice_bounds-put_event-end : goal.slice_bounds-put_event-end
slice_bounds-put_event-end c =
    let long : length c.loop-i.slots ≡ 200 =
    let a = c.args in
    let v = c.loop-i in
    let l = slots_of a.events.now in
    let n = length_slots a.events.now in
    ap length v.invariant ∙ length_in (drop a.from (take v.i l)) (omega (arith, n, length-slice a.from v.i l (omega (arith, n)))) in
    sym long

pub overflow_sub-i : goal.overflow_sub-i
overflow_sub-i c = omega arith

pub event_at-requires : goal.event_at-requires
event_at-requires c = omega arith

pub put_event-requires : goal.put_event-requires
put_event-requires c =
    let long : length c.loop-i.slots ≡ 200 =
    let a = c.args in
    let v = c.loop-i in
    let l = slots_of a.events.now in
    let n = length_slots a.events.now in
    ap length v.invariant ∙ length_in (drop a.from (take v.i l)) (omega (arith, n, length-slice a.from v.i l (omega (arith, n)))) in
    omega (arith, long)

pub loop-i-preserved : goal.loop-i-preserved
loop-i-preserved c =
    let a = c.args in
    let v = c.loop-i in
    let l = a.events.now in
    let n = length_slots l in
    let m : v.i < 25 = omega arith in
    c.put_event.ensures
    ∙ shift_more (slots_of l) a.from v.slots v.i c.event_at.result (omega arith) (omega arith) n v.invariant (c.event_at.ensures ∙ in_slot l v.i m)

pub returns : goal.returns
returns c =
    let a = c.args in
    let v = c.loop-i in
    let e : v.i ≡ a.to = omega arith in
    v.invariant ∙ ap (λ (q : ℕ). in_slots (drop a.from (take q (slots_of a.events.now)))) e
