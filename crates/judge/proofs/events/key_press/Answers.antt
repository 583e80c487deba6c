-- `judge::events::key_press` meets its contract.
use Rattle.judge.proofs.events.key_press.Goals as goal

pub returns : goal.returns
returns c = rw c.no_keysyms-keysyms.ensures
