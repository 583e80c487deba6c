-- `words::zero_in` meets its contract.
use Rattle.std.proofs.Common.{arith, ◌≡◌, ◌∙◌}
use Rattle.words.proofs.Zeros.{zero_halves}
use Rattle.words.proofs.zero_in.Goals as goal

pub returns : goal.returns
returns g c =
    let e : c.loop-i.i ≡ c.half-h.result = omega arith in
    c.loop-i.invariant ∙ rw e (zero_halves c.args.l.now c.args.from c.args.to c.half-h.result (omega arith) (omega arith) (omega arith) c.args.places)
