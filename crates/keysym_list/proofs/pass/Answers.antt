-- `keysym_list::pass` meets its contract, test by test.
use borrow.Author.Tests.{eq-eqb, ne_eqb, lt-ltb, le-ltb}
use Rattle.keysym_list.specs.Slots.{slot_passed}
use Rattle.keysym_list.proofs.pass.Goals as goal

pub returns-then-carried-eq0 : goal.returns-then-carried-eq0
unfolding slot_passed
returns-then-carried-eq0 c = rw (eq-eqb _ _ c.if-carried-eq0.true)

pub returns-then-slot-eq0 : goal.returns-then-slot-eq0
unfolding slot_passed
returns-then-slot-eq0 c = rw (ne_eqb _ _ c.if-carried-eq0.false, eq-eqb _ _ c.if-slot-eq0.true)

pub returns-then-new-old : goal.returns-then-new-old
unfolding slot_passed
returns-then-new-old c = rw (ne_eqb _ _ c.if-carried-eq0.false, ne_eqb _ _ c.if-slot-eq0.false, lt-ltb _ _ c.if-new-old.true)

pub returns-then-new-old-2 : goal.returns-then-new-old-2
unfolding slot_passed
returns-then-new-old-2 c =
    rw (ne_eqb _ _ c.if-carried-eq0.false, ne_eqb _ _ c.if-slot-eq0.false, le-ltb _ _ c.if-new-old.false, eq-eqb _ _ c.if-new-old-2.true, c.mark_listed.ensures)

pub returns : goal.returns
unfolding slot_passed
returns c =
    rw (ne_eqb _ _ c.if-carried-eq0.false, ne_eqb _ _ c.if-slot-eq0.false, le-ltb _ _ c.if-new-old.false, ne_eqb _ _ c.if-new-old-2.false)
