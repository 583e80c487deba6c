-- `numerals::number::small_number` meets its contract. Assumes nothing.
use Rattle.model.specs.Details.{small_number}
use Rattle.numerals.proofs.number.small_number.Goals as goal

pub returns-then-leading_zero : goal.returns-then-leading_zero
unfolding small_number
returns-then-leading_zero c = rw (← c.leading_zero.ensures, c.if-leading_zero.true)

pub returns : goal.returns
unfolding small_number
returns c = rw (← c.leading_zero.ensures, c.if-leading_zero.false) c.number_in.ensures
