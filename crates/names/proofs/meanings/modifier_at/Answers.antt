-- `names::meanings::modifier_at` meets its contract. Assumes nothing.
use borrow.Author.Tests.{lt-ltb, le-ltb}
use Rattle.names.specs.Table.{modifier_row}
use Rattle.names.proofs.meanings.modifier_at.Goals as goal

pub returns-then-bit-lt13 : goal.returns-then-bit-lt13
unfolding modifier_row
returns-then-bit-lt13 c = rw (← c.modifier_bit-bit.ensures, lt-ltb _ _ c.if-bit-lt13.true)

pub returns : goal.returns
unfolding modifier_row
returns c = rw (← c.modifier_bit-bit.ensures, le-ltb _ _ c.if-bit-lt13.false)
