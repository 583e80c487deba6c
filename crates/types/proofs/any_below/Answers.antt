-- `types::any_below` meets its contract.
use Rattle.types.proofs.TypeLaws.{below_none, below_more}
use Rattle.types.proofs.any_below.Goals as goal

pub loop-i-init : goal.loop-i-init
loop-i-init g c = λ passes h. below_none passes

pub loop-i-preserved : goal.loop-i-preserved
loop-i-preserved g c = λ passes h.
    let v = c.loop-i in
    rw (v.invariant passes h, h v.i c.test-hit.result c.loop-i-test.true c.test-hit.ensures, below_more)
