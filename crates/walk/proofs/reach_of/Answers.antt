-- `walk::reach_of` meets its contract.
use Prim.Native.Nat.{◌+◌, ◌<◌}
use native.Mathlib.Omega.{arith}
use mathlib.Core.Path.{◌≡◌, ap, ◌∙◌}
use lib.ListN.{get_or}
use Rattle.keyboard.specs.Maps.{map_numbers}
use Rattle.states.specs.State.{zero_event, slots_of}
use Rattle.filter.specs.Filter.{sought_of}
use Rattle.fields.proofs.TableFacts.{table_facts}
use Rattle.states.proofs.SlotLaws.{length_slots, in_slot}
use Rattle.filter.proofs.FilterLaws.{outside_code, outside_begins, outside_pairs}
use Rattle.walk.proofs.reach_of.Goals as goal

pub returns-then-one-gt3 : goal.returns-then-one-gt3
returns-then-one-gt3 c =
    let a = c.args in
    let p = c.requires in
    let l = a.table.now in
    outside_code (map_numbers a.maps.now) l (table_facts l p.0.is_whole) (λ k. omega (arith, c.type_inv.table k)) (slots_of a.events.now) a.from a.to
    (length_slots a.events.now) p.0.room p.1 p.0.ranges a.one p.2 c.reach_of_code.result.low c.reach_of_code.result.high c.reach_of_code.ensures

pub returns-then-from-to : goal.returns-then-from-to
returns-then-from-to c =
    let a = c.args in
    let p = c.requires in
    let l = a.table.now in
    outside_begins (map_numbers a.maps.now) l (table_facts l p.0.is_whole) (λ k. omega (arith, c.type_inv.table k)) (slots_of a.events.now) a.from a.to
    (length_slots a.events.now) p.0.room p.1 p.0.ranges a.one p.2 c.reach_alone.result.low c.reach_alone.result.high c.reach_alone.ensures

pub sought_of-two-requires : goal.sought_of-two-requires
sought_of-two-requires c =
    let next : c.args.from + 1 < c.args.to = let d : c.args.from + 1 ≡ c.args.to → ⊥ = c.if-from-to.false in omega (arith, c.requires.1) in
    let next_is : c.event_at.result ≡ get_or (slots_of c.args.events.now) (c.args.from + 1) zero_event =
    let m : c.args.from + 1 < 25 = omega (arith, c.requires.0.room, next) in
    c.event_at.ensures ∙ in_slot c.args.events.now (c.args.from + 1) m in
    (c.requires.0.mapped.mapped, rw next_is (c.requires.0.ranges (c.args.from + 1) next))

pub returns : goal.returns
returns c =
    let next : c.args.from + 1 < c.args.to = let d : c.args.from + 1 ≡ c.args.to → ⊥ = c.if-from-to.false in omega (arith, c.requires.1) in
    let next_is : c.event_at.result ≡ get_or (slots_of c.args.events.now) (c.args.from + 1) zero_event =
    let m : c.args.from + 1 < 25 = omega (arith, c.requires.0.room, next) in
    c.event_at.ensures ∙ in_slot c.args.events.now (c.args.from + 1) m in
    let second : c.sought_of-two.result ≡ sought_of (map_numbers c.args.maps.now) (get_or (slots_of c.args.events.now) (c.args.from + 1) zero_event) =
    c.sought_of-two.ensures ∙ ap (sought_of (map_numbers c.args.maps.now)) next_is in
    let a = c.args in
    let p = c.requires in
    let l = a.table.now in
    outside_pairs (map_numbers a.maps.now) l (table_facts l p.0.is_whole) (λ k. omega (arith, c.type_inv.table k)) (slots_of a.events.now) a.from a.to
    (length_slots a.events.now) p.0.room p.1 p.0.ranges a.one p.2 c.reach_paired.result.low c.reach_paired.result.high
    c.sought_of-two.result next second c.reach_paired.ensures
