use Rattle.model.specs.Events.{marked_key}
use borrow.Author.Tests.{eq-eqb, le-leb, lt-leb, ne_eqb}
use Rattle.event_scanner.proofs.keys.marked_key.Goals as goal

pub returns-then-l-at : goal.returns-then-l-at
unfolding marked_key
returns-then-l-at c = rw (le-leb _ _ c.if-l-at.true)

pub returns-then-byte-eq9 : goal.returns-then-byte-eq9
unfolding marked_key
returns-then-byte-eq9 c = rw (lt-leb _ _ c.if-l-at.false, eq-eqb _ _ c.if-byte-eq9.true)

pub returns : goal.returns
unfolding marked_key
returns c = rw (lt-leb _ _ c.if-l-at.false, ne_eqb _ _ c.if-byte-eq9.false)
