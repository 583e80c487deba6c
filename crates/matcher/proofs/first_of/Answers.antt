-- `matcher::first_of` meets its contract.
use Rattle.matcher.proofs.first_of.Goals as goal

pub returns-then-short : goal.returns-then-short
returns-then-short c = rw c.if-short.true

pub returns-then-modifiers_bad : goal.returns-then-modifiers_bad
returns-then-modifiers_bad c = rw (c.if-short.false, c.if-modifiers_bad.true)

pub returns-then-table_broken : goal.returns-then-table_broken
returns-then-table_broken c = rw (c.if-short.false, c.if-modifiers_bad.false, c.if-table_broken.true)

pub returns-then-state_broken : goal.returns-then-state_broken
returns-then-state_broken c = rw (c.if-short.false, c.if-modifiers_bad.false, c.if-table_broken.false, c.if-state_broken.true)

pub returns : goal.returns
returns c = rw (c.if-short.false, c.if-modifiers_bad.false, c.if-table_broken.false, c.if-state_broken.false)
