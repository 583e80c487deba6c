-- `names::groups::modifier_group` meets its contract. Assumes nothing.
use mathlib.Core.Bool.{and-false}
use borrow.Author.Tests.{le-leb, lt-leb}
use Rattle.names.specs.Groups.{modifier_group}
use Rattle.names.proofs.groups.modifier_group.Goals as goal

pub returns-then-len-lt-SHORTEST_MODIFIER : goal.returns-then-len-lt-SHORTEST_MODIFIER
unfolding modifier_group
returns-then-len-lt-SHORTEST_MODIFIER c = rw (lt-leb _ _ c.if-len-lt-SHORTEST_MODIFIER.true)

pub returns-then-len-gt-LONGEST_MODIFIER : goal.returns-then-len-gt-LONGEST_MODIFIER
unfolding modifier_group
returns-then-len-gt-LONGEST_MODIFIER c = rw (lt-leb _ _ c.if-len-gt-LONGEST_MODIFIER.true, and-false)

pub returns : goal.returns
unfolding modifier_group
returns c = rw (le-leb _ _ c.if-len-lt-SHORTEST_MODIFIER.false, le-leb _ _ c.if-len-gt-LONGEST_MODIFIER.false, ← c.modifier_line-line.ensures)
