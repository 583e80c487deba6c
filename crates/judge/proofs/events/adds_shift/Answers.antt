-- `judge::events::adds_shift` meets its contract.
use Rattle.judge.proofs.events.adds_shift.Goals as goal

pub returns-in-Modifier : goal.returns-in-Modifier
returns-in-Modifier c = rw c.in-Modifier.is
