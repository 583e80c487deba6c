-- `names::meanings::added_of` meets its contract. Assumes nothing.
use borrow.Author.Tests.{lt-ltb, le-ltb, eq-eqb, ne_eqb}
use Rattle.names.proofs.meanings.added_of.Goals as goal

pub returns-then-n-lt13 : goal.returns-then-n-lt13
returns-then-n-lt13 c = rw (lt-ltb _ _ c.if-n-lt13.true)

pub returns-then-n-eq13 : goal.returns-then-n-eq13
returns-then-n-eq13 c = rw (le-ltb _ _ c.if-n-lt13.false, eq-eqb _ _ c.if-n-eq13.true)

pub returns-then-n-eq14 : goal.returns-then-n-eq14
returns-then-n-eq14 c = rw (le-ltb _ _ c.if-n-lt13.false, ne_eqb _ _ c.if-n-eq13.false, eq-eqb _ _ c.if-n-eq14.true)

pub returns : goal.returns
returns c = rw (le-ltb _ _ c.if-n-lt13.false, ne_eqb _ _ c.if-n-eq13.false, ne_eqb _ _ c.if-n-eq14.false)
