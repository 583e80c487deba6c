use Rattle.list_scanner.specs.ModifierLists.{list_end}
use borrow.Author.Tests.{eq-eqb, ne_eqb}
use Rattle.list_scanner.proofs.lists.list_end.Goals as goal

pub returns-then-not-lone : goal.returns-then-not-lone
unfolding list_end
returns-then-not-lone c = rw (c.if-not-lone.true)

pub returns-then-bang-colon : goal.returns-then-bang-colon
unfolding list_end
returns-then-bang-colon c = rw (c.if-not-lone.false, c.if-bang-colon.true)

pub returns-then-count-ne1 : goal.returns-then-count-ne1
unfolding list_end
returns-then-count-ne1 c = rw (c.if-not-lone.false, c.if-bang-colon.false, ne_eqb _ _ c.if-count-ne1.true)

pub returns-then-none : goal.returns-then-none
unfolding list_end
returns-then-none c = rw (c.if-not-lone.false, c.if-bang-colon.false, eq-eqb _ _ c.if-count-ne1.false, c.if-none.true)

pub returns : goal.returns
unfolding list_end
returns c = rw (c.if-not-lone.false, c.if-bang-colon.false, eq-eqb _ _ c.if-count-ne1.false, c.if-none.false)
