-- `follow::follow` meets its contract.
use native.Mathlib.Omega.{arith}
use Prim.Native.Nat.{◌<◌}
use mathlib.Core.Path.{sym, ◌∙◌}
use Rattle.tables.specs.Reading.{event_entry, event_total}
use Rattle.keyboard.specs.Maps.{lent_setting}
use Rattle.states.specs.State.{slots_of}
use Rattle.follow.specs.Follow.{element_of}
use Rattle.states.proofs.SlotLaws.{length_slots, in_slot}
use Rattle.follow.proofs.FollowLaws.{read_fit, walks_start, walks_over, walks_no, walks_on, walks_turn, walks_prefix, walks_whole}
use Rattle.follow.proofs.follow.Goals.{then-k-size_at, else-k-size_at}
use Rattle.follow.proofs.follow.Goals as goal

pub loop-j-init : goal.loop-j-init
loop-j-init c =
    let a = c.args in
    walks_start (lent_setting a.maps.now a.limit) a.table.now a.first a.n (slots_of a.events.now) a.from a.to (length_slots a.events.now) c.requires.1

pub returns-then-last-i : goal.returns-then-last-i
returns-then-last-i c =
    let a = c.args in
    let v = c.loop-j in
    sym (walks_over (lent_setting a.maps.now a.limit) a.table.now a.first a.n (slots_of a.events.now) a.from a.to c.requires.0.room v.i v.k v.j v.invariant c.if-last-i.true c.loop-j-test.true)

pub element_fits-requires : goal.element_fits-requires
element_fits-requires c =
    let p = c.requires in
    let v = c.loop-j in
    let h : v.i < event_total c.args.table.now = omega (arith, p.2) in
    let m : v.j < 25 = omega (arith, p.0.room, c.loop-j-test.true) in
    ((p.0.is_whole, h), (p.0.mapped, rw (c.event_at-x.ensures ∙ in_slot c.args.events.now v.j m) (p.0.ranges v.j c.loop-j-test.true)))

pub returns-then-not-element_fits : goal.returns-then-not-element_fits
returns-then-not-element_fits c =
    let a = c.args in
    let v = c.loop-j in
    let setting = lent_setting a.maps.now a.limit in
    let room = c.requires.0.room in
    let at = c.two_before-at in
    let fit =
    read_fit setting a.events.now (element_of (event_entry a.table.now v.i) v.k) v.j at.result c.event_at-x.result c.event_at-b.result c.element_fits.result
    (omega (arith, room)) (omega (arith, room)) c.event_at-x.ensures c.event_at-b.ensures c.element_fits.ensures in
    sym (walks_no setting a.table.now a.first a.n (slots_of a.events.now) a.from a.to room v.i v.k v.j v.invariant c.if-last-i.false c.loop-j-test.true at.result at.ensures.1 c.element_fits.result fit c.if-not-element_fits.true)

pub loop-j-preserved : goal.loop-j-preserved
loop-j-preserved c =
    let a = c.args in
    let v = c.loop-j in
    let setting = lent_setting a.maps.now a.limit in
    let room = c.requires.0.room in
    let at = c.two_before-at in
    let fit =
    read_fit setting a.events.now (element_of (event_entry a.table.now v.i) v.k) v.j at.result c.event_at-x.result c.event_at-b.result c.element_fits.result
    (omega (arith, room)) (omega (arith, room)) c.event_at-x.ensures c.event_at-b.ensures c.element_fits.ensures in
    elim c.if-k-size_at.branch [
      | then-k-size_at w ↦ rw (w.i-is, w.k-is)
          (walks_turn setting a.table.now a.first a.n (slots_of a.events.now) a.from a.to room v.i v.k v.j v.invariant c.if-last-i.false c.loop-j-test.true at.result at.ensures.1 c.element_fits.result fit c.if-not-element_fits.false (w.if-k-size_at.true ∙ c.size_at.ensures))
      | else-k-size_at w ↦ rw (w.i-is, w.k-is)
          (walks_on setting a.table.now a.first a.n (slots_of a.events.now) a.from a.to room v.i v.k v.j v.invariant c.if-last-i.false c.loop-j-test.true at.result at.ensures.1 c.element_fits.result fit c.if-not-element_fits.false (λ z. w.if-k-size_at.false (z ∙ sym c.size_at.ensures)))
    ]

pub returns-then-i-last : goal.returns-then-i-last
returns-then-i-last c =
    let a = c.args in
    let v = c.loop-j in
    sym (walks_prefix (lent_setting a.maps.now a.limit) a.table.now a.first a.n (slots_of a.events.now) a.from a.to c.requires.0.room v.i v.k v.j v.invariant c.loop-j-test.false c.if-i-last.true)

pub returns-else-i-last : goal.returns-else-i-last
returns-else-i-last c =
    let a = c.args in
    let v = c.loop-j in
    sym (walks_whole (lent_setting a.maps.now a.limit) a.table.now a.first a.n (slots_of a.events.now) a.from a.to c.requires.0.room v.i v.k v.j v.invariant c.loop-j-test.false c.if-i-last.false)
