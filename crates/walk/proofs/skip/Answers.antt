-- `walk::skip` meets its contract.
use Prim.Native.Nat.{◌<◌}
use native.Mathlib.Omega.{arith}
use Rattle.fields.proofs.TableFacts.{table_facts}
use Rattle.walk.proofs.PassLaws.{skipped_step, Place, place_of}
use Rattle.walk.proofs.skip.Goals as goal

pub production_count-n-requires : goal.production_count-n-requires
production_count-n-requires c = (table_facts _ c.requires).long

pub production_events-at-requires : goal.production_events-at-requires
production_events-at-requires c =
    let f = table_facts _ c.requires in
    let h : c.loop-p.p < 64 = omega (arith, f.productions, c.production_count-n.ensures, c.loop-p-test.true) in
    (f.long, h)

pub overflow_add-at : goal.overflow_add-at
overflow_add-at c =
    let l = c.args.table.now in
    let place : Place l c.loop-p.at c.loop-p.p c.production_events-at.result =
    place_of l (table_facts l c.requires) c.loop-p.at c.loop-p.p c.production_events-at.result c.production_count-n.result
    c.production_count-n.ensures c.loop-p-test.true c.loop-p.invariant.place c.production_events-at.ensures in
    omega (arith, place.small)

pub loop-p-preserved : goal.loop-p-preserved
loop-p-preserved c =
    let l = c.args.table.now in
    let place : Place l c.loop-p.at c.loop-p.p c.production_events-at.result =
    place_of l (table_facts l c.requires) c.loop-p.at c.loop-p.p c.production_events-at.result c.production_count-n.result
    c.production_count-n.ensures c.loop-p-test.true c.loop-p.invariant.place c.production_events-at.ensures in
    let v = c.loop-p in
    let h : v.at < c.args.low = omega (arith, c.if-low-at.false) in
    skipped_step c.args.table.now c.args.low v.at v.p c.production_events-at.result v.invariant h place.there place.is_size
