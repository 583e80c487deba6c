-- `numerals::number::starts_hexadecimal` meets its contract. Assumes nothing.
use borrow.Author.Tests.{eq-eqb, ne_eqb}
use Rattle.numerals.proofs.number.starts_hexadecimal.Goals as goal

pub returns-then-second-eq120 : goal.returns-then-second-eq120
returns-then-second-eq120 c =
    rw (← c.byte_at.ensures, ← c.byte_at-second.ensures, eq-eqb _ _ c.if-byte_at-eq48.true, eq-eqb _ _ c.if-second-eq120.true)

pub returns-else-second-eq120 : goal.returns-else-second-eq120
returns-else-second-eq120 c =
    rw (← c.byte_at.ensures, ← c.byte_at-second.ensures, eq-eqb _ _ c.if-byte_at-eq48.true, ne_eqb _ _ c.if-second-eq120.false)

pub returns-else-byte_at-eq48 : goal.returns-else-byte_at-eq48
returns-else-byte_at-eq48 c =
    rw (← c.byte_at.ensures, ne_eqb _ _ c.if-byte_at-eq48.false)
