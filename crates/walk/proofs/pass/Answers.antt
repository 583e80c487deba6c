-- `walk::pass` meets its contract.
use Prim.Native.Nat.{◌<◌}
use native.Mathlib.Omega.{arith}
use mathlib.Core.Path.{◌≡◌, ap, ◌∙◌}
use lib.ListN.{get_or}
use Rattle.keyboard.specs.Maps.{map_numbers}
use Rattle.states.specs.State.{zero_event, slots_of}
use Rattle.filter.specs.Filter.{sought_of}
use Rattle.states.proofs.SlotLaws.{in_slot}
use Rattle.walk.proofs.pass.Goals as goal

pub event_at-requires : goal.event_at-requires
event_at-requires c = omega (arith, c.requires.0.room, c.requires.0.long, c.requires.1)

pub sought_of-one-requires : goal.sought_of-one-requires
sought_of-one-requires c =
    let read : c.event_at.result ≡ get_or (slots_of c.args.events.now) c.args.from zero_event =
    let m : c.args.from < 25 = omega (arith, c.requires.0.room, c.requires.1) in
    c.event_at.ensures ∙ in_slot c.args.events.now c.args.from m in
    (c.requires.0.mapped.mapped, rw read (c.requires.0.ranges c.args.from c.requires.1))

pub reach_of-reach-requires : goal.reach_of-reach-requires
reach_of-reach-requires c =
    let read : c.event_at.result ≡ get_or (slots_of c.args.events.now) c.args.from zero_event =
    let m : c.args.from < 25 = omega (arith, c.requires.0.room, c.requires.1) in
    c.event_at.ensures ∙ in_slot c.args.events.now c.args.from m in
    let sought : c.sought_of-one.result ≡ sought_of (map_numbers c.args.maps.now) (get_or (slots_of c.args.events.now) c.args.from zero_event) =
    c.sought_of-one.ensures ∙ ap (sought_of (map_numbers c.args.maps.now)) read in
    (c.requires.0, c.requires.1, sought)

pub scan-requires : goal.scan-requires
scan-requires c =
    let read : c.event_at.result ≡ get_or (slots_of c.args.events.now) c.args.from zero_event =
    let m : c.args.from < 25 = omega (arith, c.requires.0.room, c.requires.1) in
    c.event_at.ensures ∙ in_slot c.args.events.now c.args.from m in
    let sought : c.sought_of-one.result ≡ sought_of (map_numbers c.args.maps.now) (get_or (slots_of c.args.events.now) c.args.from zero_event) =
    c.sought_of-one.ensures ∙ ap (sought_of (map_numbers c.args.maps.now)) read in
    (c.requires.0, c.requires.1, sought, c.reach_of-reach.ensures)

pub returns : goal.returns
returns c = c.scan.ensures
