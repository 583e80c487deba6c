-- `names::groups::type_group` meets its contract. Assumes nothing.
use mathlib.Core.Bool.{and-false}
use borrow.Author.Tests.{le-leb, lt-leb}
use Rattle.names.specs.Groups.{type_group}
use Rattle.names.proofs.groups.type_group.Goals as goal

pub returns-then-len-lt-SHORTEST_TYPE : goal.returns-then-len-lt-SHORTEST_TYPE
unfolding type_group
returns-then-len-lt-SHORTEST_TYPE c = rw (lt-leb _ _ c.if-len-lt-SHORTEST_TYPE.true)

pub returns-then-len-gt-LONGEST_TYPE : goal.returns-then-len-gt-LONGEST_TYPE
unfolding type_group
returns-then-len-gt-LONGEST_TYPE c = rw (lt-leb _ _ c.if-len-gt-LONGEST_TYPE.true, and-false)

pub returns : goal.returns
unfolding type_group
returns c = rw (le-leb _ _ c.if-len-lt-SHORTEST_TYPE.false, le-leb _ _ c.if-len-gt-LONGEST_TYPE.false, ← c.type_line-line.ensures)
