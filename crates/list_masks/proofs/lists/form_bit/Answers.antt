-- `list_masks::lists::form_bit` meets its contract.
use Rattle.list_masks.proofs.lists.form_bit.Goals as goal

pub returns-then-tilde : goal.returns-then-tilde
returns-then-tilde c = rw c.if-tilde.true

pub returns-else-tilde : goal.returns-else-tilde
returns-else-tilde c = rw c.if-tilde.false
