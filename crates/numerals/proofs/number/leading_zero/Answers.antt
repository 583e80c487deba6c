-- `numerals::number::leading_zero` meets its contract. Assumes nothing.
use borrow.Author.Tests.{eq-eqb, ne_eqb}
use Rattle.numerals.proofs.number.leading_zero.Goals as goal

pub returns-then-byte_at-eq48 : goal.returns-then-byte_at-eq48
returns-then-byte_at-eq48 c = rw (← c.byte_at.ensures, eq-eqb _ _ c.if-byte_at-eq48.true)

pub returns-else-byte_at-eq48 : goal.returns-else-byte_at-eq48
returns-else-byte_at-eq48 c = rw (← c.byte_at.ensures, ne_eqb _ _ c.if-byte_at-eq48.false)
