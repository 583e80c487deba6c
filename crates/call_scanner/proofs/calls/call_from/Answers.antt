use Rattle.model.specs.Calls.{call_from}
use borrow.Author.Tests.{le-leb, lt-leb}
use Rattle.call_scanner.proofs.calls.call_from.Goals as goal

pub returns-then-l-at : goal.returns-then-l-at
unfolding call_from
returns-then-l-at c = rw (le-leb _ _ c.if-l-at.true)

pub returns : goal.returns
unfolding call_from
returns c = rw (c.call_name_from.ensures, c.run_end-end.ensures, lt-leb _ _ c.if-l-at.false)
