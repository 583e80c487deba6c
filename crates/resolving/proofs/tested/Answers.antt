-- `resolving::tested` meets its contract.
use lib.Bits.{bit_or, or_lt}
use Rattle.resolving.specs.Gathering.{tested}
use Rattle.resolving.proofs.tested.Goals as goal

pub other_bits-others-requires : goal.other_bits-others-requires
other_bits-others-requires c =
    let a = c.args in
    let p = c.requires in
    or_lt 13 (bit_or a.set a.clear) (bit_or a.by.set a.by.clear)
    (or_lt 13 a.set a.clear p.0.0 p.0.1) (or_lt 13 a.by.set a.by.clear p.1.0 p.1.1)

pub returns : goal.returns
unfolding tested
returns c = rw (c.testable-t.ensures, c.other_bits-others.ensures)
