use Rattle.model.specs.Events.{key_at}
use borrow.Author.Tests.{eq-eqb, le-leb, lt-leb, ne_eqb}
use Rattle.event_scanner.proofs.keys.key_at.Goals as goal

pub returns-then-l-at : goal.returns-then-l-at
unfolding key_at
returns-then-l-at c = rw (le-leb _ _ c.if-l-at.true)

pub returns-then-b-eq34 : goal.returns-then-b-eq34
unfolding key_at
returns-then-b-eq34 c = rw (lt-leb _ _ c.if-l-at.false, eq-eqb _ _ c.if-b-eq34.true)

pub returns-then-b-eq94 : goal.returns-then-b-eq94
unfolding key_at
returns-then-b-eq94 c = rw (c.marked_key.ensures, lt-leb _ _ c.if-l-at.false, ne_eqb _ _ c.if-b-eq34.false, eq-eqb _ _ c.if-b-eq94.true)

pub returns-then-b-eq92 : goal.returns-then-b-eq92
unfolding key_at
returns-then-b-eq92 c = rw (c.marked_key-then-b-eq92.ensures, lt-leb _ _ c.if-l-at.false, ne_eqb _ _ c.if-b-eq34.false, ne_eqb _ _ c.if-b-eq94.false, eq-eqb _ _ c.if-b-eq92.true)

pub returns-then-b-eq36 : goal.returns-then-b-eq36
unfolding key_at
returns-then-b-eq36 c = rw (c.marked_key-then-b-eq36.ensures, lt-leb _ _ c.if-l-at.false, ne_eqb _ _ c.if-b-eq34.false, ne_eqb _ _ c.if-b-eq94.false, ne_eqb _ _ c.if-b-eq92.false, eq-eqb _ _ c.if-b-eq36.true)

pub returns : goal.returns
unfolding key_at
returns c = rw (c.marked_key-2.ensures, lt-leb _ _ c.if-l-at.false, ne_eqb _ _ c.if-b-eq34.false, ne_eqb _ _ c.if-b-eq94.false, ne_eqb _ _ c.if-b-eq92.false, ne_eqb _ _ c.if-b-eq36.false)
