-- `filter::reach_by` meets its contract.
use Rattle.filter.proofs.FilterLaws.{noted_step}
use Rattle.filter.proofs.reach_by.Goals as goal

pub loop-i-preserved : goal.loop-i-preserved
loop-i-preserved g c = λ passes h.
    let v = c.loop-i in
    let t = c.test-holds in
    noted_step passes v.i v.high v.turned (v.invariant passes h) t.result (h v.i t.result c.loop-i-test.true t.ensures)
    c.only-high.result c.only-turned.result c.only-high.ensures c.only-turned.ensures
