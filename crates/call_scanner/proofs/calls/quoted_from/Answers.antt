use Rattle.model.specs.Calls.{quoted_from}
use borrow.Author.Tests.{le-leb, lt-leb}
use Rattle.call_scanner.proofs.calls.quoted_from.Goals as goal

pub returns-then-l-end : goal.returns-then-l-end
unfolding quoted_from
returns-then-l-end c = rw (le-leb _ _ c.if-l-end.true)

pub returns : goal.returns
unfolding quoted_from
returns c = rw (c.parameter_end.ensures, c.skip-after.ensures, lt-leb _ _ c.if-l-end.false)
