-- `keysym_list::mark_listed` meets its contract: the mark is a bit of the number.
use borrow.Author.Tests.{eq-eqb, ne_eqb}
use Rattle.keysym_list.proofs.mark_listed.Goals as goal

pub returns-then-slot-eq1 : goal.returns-then-slot-eq1
returns-then-slot-eq1 c = rw (c.if-tilde.true, eq-eqb _ _ c.if-slot-eq1.true)

pub returns-then-tilde : goal.returns-then-tilde
returns-then-tilde c = rw (c.if-tilde.true, ne_eqb _ _ c.if-slot-eq1.false)

pub returns-then-slot-eq1-2 : goal.returns-then-slot-eq1-2
returns-then-slot-eq1-2 c = rw (c.if-tilde.false, eq-eqb _ _ c.if-slot-eq1-2.true)

pub returns : goal.returns
returns c = rw (c.if-tilde.false, ne_eqb _ _ c.if-slot-eq1-2.false)
