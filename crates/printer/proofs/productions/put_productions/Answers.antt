-- `printer::productions::put_productions` meets its contract.
use Rattle.std.proofs.Common.{rules, arith}
use Rattle.tables.specs.Reading.{production_entry}
use Rattle.writing.proofs.Laws.{put_none, put_then, put_as}
use Rattle.printer.proofs.ProductionSteps.{productions_none, productions_step}
use Rattle.printer.proofs.productions.put_productions.Goals as goal

pub loop-p-init : goal.loop-p-init
loop-p-init c =
    let t = c.args.lent.now in
    (search rules, put_as (productions_none t.first.now t.second.now (production_entry t.table.now)) (put_none _ _))

pub loop-p-preserved : goal.loop-p-preserved
loop-p-preserved c =
    let t = c.args.lent.now in
    let w = c.loop-p in
    let q = c.put_production-next.ensures in
    (omega (arith, w.invariant.0, q.1), put_as (productions_step t.first.now t.second.now (production_entry t.table.now) w.p) (put_then w.invariant.1 q.0))
