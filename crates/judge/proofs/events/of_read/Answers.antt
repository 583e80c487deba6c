-- `judge::events::of_read` meets its contract.
use Rattle.judge.specs.Judged.{read_summary}
use Rattle.judge.proofs.events.of_read.Goals as goal

pub returns-in-Value : goal.returns-in-Value
unfolding read_summary
returns-in-Value c = rw c.in-Value.is

pub returns-in-Unknown : goal.returns-in-Unknown
unfolding read_summary
returns-in-Unknown c = rw c.in-Unknown.is

pub returns-in-TooLarge : goal.returns-in-TooLarge
unfolding read_summary
returns-in-TooLarge c = rw c.in-TooLarge.is

pub returns-in-NotBuilt : goal.returns-in-NotBuilt
unfolding read_summary
returns-in-NotBuilt c = rw c.in-NotBuilt.is
