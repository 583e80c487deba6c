-- `walk::scan` meets its contract.
use Prim.Native.Nat.{◌≤◌, ◌<◌}
use native.Mathlib.Omega.{arith}
use mathlib.Core.Path.{◌≡◌, refl, sym, ap, ◌∙◌}
use Rattle.std.specs.Prelude.{None}
use lib.ListN.{take, drop}
use Rattle.words.specs.Runs.{run}
use Rattle.keyboard.specs.Maps.{lent_setting}
use Rattle.model.specs.Counts.{expanded}
use Rattle.tables.specs.Reading.{production_total, event_entry}
use Rattle.follow.specs.declared.Followed.{Followed}
use Rattle.states.specs.State.{slots_of}
use Rattle.follow.specs.Follow.{walked}
use Rattle.filter.specs.Filter.{seems}
use Rattle.fields.proofs.TableFacts.{table_facts}
use Rattle.states.proofs.SlotLaws.{length_slots}
use Rattle.filter.proofs.FilterLaws.{seems_not}
use Rattle.walk.proofs.PassLaws.{passing_over, passing_past, passing_no, passing_prefix, passing_whole, passing_end, Place, place_of}
use Rattle.walk.proofs.scan.Goals as goal
use Rattle.walk.proofs.scan.Goals.{then-seems_one+in-Prefix, then-seems_one+in-No, else-seems_one}

pub production_count-n-requires : goal.production_count-n-requires
production_count-n-requires c = (table_facts _ c.requires.0.is_whole).long

pub skip-spot-requires : goal.skip-spot-requires
skip-spot-requires c = c.requires.0.is_whole

pub loop-p-init : goal.loop-p-init
loop-p-init c =
    let a = c.args in
    let p = c.requires in
    passing_over (lent_setting a.maps.now a.limit) a.table.now (drop a.from (take a.to (slots_of a.events.now))) a.reach.low a.reach.high (table_facts _ p.0.is_whole) p.3
    c.skip-spot.result.at c.skip-spot.result.p (rw (← c.from.ensures) c.skip-spot.ensures)

pub returns-then-high-at : goal.returns-then-high-at
returns-then-high-at c =
    let a = c.args in
    let p = c.requires in
    let v = c.loop-p in
    c.ended.ensures
    ∙ sym (passing_past (lent_setting a.maps.now a.limit) a.table.now (drop a.from (take a.to (slots_of a.events.now))) a.reach.low a.reach.high (table_facts _ p.0.is_whole) p.3
    v.seen v.at v.p v.invariant (omega arith))

pub production_events-size-requires : goal.production_events-size-requires
production_events-size-requires c =
    let f = table_facts _ c.requires.0.is_whole in
    let h : c.loop-p.p < 64 = omega (arith, f.productions, c.production_count-n.ensures, c.loop-p-test.true) in
    (f.long, h)

pub seems_one-requires : goal.seems_one-requires
seems_one-requires c =
    let l = c.args.table.now in
    let g : Place l c.loop-p.at c.loop-p.p c.production_events-size.result =
    place_of l (table_facts l c.requires.0.is_whole) c.loop-p.at c.loop-p.p c.production_events-size.result c.production_count-n.result
    c.production_count-n.ensures c.loop-p-test.true c.loop-p.invariant.place c.production_events-size.ensures in
    let p = c.requires in
    ((table_facts _ p.0.is_whole).long, omega (arith, g.small))

pub follow-requires : goal.follow-requires
follow-requires c =
    let l = c.args.table.now in
    let g : Place l c.loop-p.at c.loop-p.p c.production_events-size.result =
    place_of l (table_facts l c.requires.0.is_whole) c.loop-p.at c.loop-p.p c.production_events-size.result c.production_count-n.result
    c.production_count-n.ensures c.loop-p-test.true c.loop-p.invariant.place c.production_events-size.ensures in
    let p = c.requires in
    let m = p.1 in
    let b : c.args.from ≤ c.args.to = omega arith in
    (p.0, b, g.within)

pub returns-in-Whole : goal.returns-in-Whole
returns-in-Whole c =
    let l = c.args.table.now in
    let g : Place l c.loop-p.at c.loop-p.p c.production_events-size.result =
    place_of l (table_facts l c.requires.0.is_whole) c.loop-p.at c.loop-p.p c.production_events-size.result c.production_count-n.result
    c.production_count-n.ensures c.loop-p-test.true c.loop-p.invariant.place c.production_events-size.ensures in
    let stretch = drop c.args.from (take c.args.to (slots_of c.args.events.now)) in
    let a = c.args in
    let v = c.loop-p in
    sym (passing_whole (lent_setting a.maps.now a.limit) a.table.now stretch v.seen v.at v.p c.production_events-size.result v.invariant g.there g.is_size
    c.follow.result c.follow.ensures c.in-Whole.is)

pub overflow_add-at : goal.overflow_add-at
overflow_add-at c =
    let l = c.args.table.now in
    let g : Place l c.loop-p.at c.loop-p.p c.production_events-size.result =
    place_of l (table_facts l c.requires.0.is_whole) c.loop-p.at c.loop-p.p c.production_events-size.result c.production_count-n.result
    c.production_count-n.ensures c.loop-p-test.true c.loop-p.invariant.place c.production_events-size.ensures in
    omega (arith, g.small)

pub loop-p-preserved : goal.loop-p-preserved
loop-p-preserved c =
    let l = c.args.table.now in
    let g : Place l c.loop-p.at c.loop-p.p c.production_events-size.result =
    place_of l (table_facts l c.requires.0.is_whole) c.loop-p.at c.loop-p.p c.production_events-size.result c.production_count-n.result
    c.production_count-n.ensures c.loop-p-test.true c.loop-p.invariant.place c.production_events-size.ensures in
    let stretch = drop c.args.from (take c.args.to (slots_of c.args.events.now)) in
    let setting = lent_setting c.args.maps.now c.args.limit in
    let v = c.loop-p in
    elim c.if-seems_one.branch [
      | then-seems_one+in-Prefix w ↦
          rw w.seen-is (passing_prefix setting l stretch v.seen v.at v.p c.production_events-size.result v.invariant g.there g.is_size w.follow.result w.follow.ensures w.in-Prefix.is)
      | then-seems_one+in-No w ↦
          rw w.seen-is (passing_no setting l stretch v.seen v.at v.p c.production_events-size.result v.invariant g.there g.is_size w.follow.result w.follow.ensures w.in-No.is)
      | else-seems_one w ↦
          let walk = walked setting None None (expanded (run (event_entry l) v.at c.production_events-size.result)) stretch in
          let p = c.requires in
          -- its first event does not pass the quick test
          let another : walk ≡ Followed.No =
          seems_not setting l (table_facts l p.0.is_whole) (λ k. omega (arith, c.type_inv.table k)) v.at c.production_events-size.result
          (slots_of c.args.events.now) c.args.from c.args.to (length_slots c.args.events.now) p.0.room p.1 g.some g.within p.0.ranges
          (ap (seems l v.at) (sym p.2) ∙ sym c.seems_one.ensures ∙ w.if-seems_one.false) in
          rw w.seen-is (passing_no setting l stretch v.seen v.at v.p c.production_events-size.result v.invariant g.there g.is_size walk refl another)
    ]

pub returns : goal.returns
returns c =
    let a = c.args in
    let v = c.loop-p in
    let h : production_total a.table.now ≤ v.p = omega (arith, c.production_count-n.ensures, c.loop-p-test.false) in
    c.ended-2.ensures ∙ sym (passing_end (lent_setting a.maps.now a.limit) a.table.now (drop a.from (take a.to (slots_of a.events.now))) v.seen v.at v.p v.invariant h)
