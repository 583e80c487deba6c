-- `list_masks::lists::with_keysym` meets its contract.
use mathlib.Core.Path.{subst}
use Rattle.list_masks.specs.Summary.{with_keysym_read, KeysymReadIn}
use Rattle.list_masks.proofs.lists.with_keysym.Goals as goal

pub with_one_more-slots-requires : goal.with_one_more-slots-requires
with_one_more-slots-requires c = (
  c.requires.0.keysyms,
  subst KeysymReadIn c.in-Value.is c.requires.1,
)

pub returns-in-Unknown : goal.returns-in-Unknown
unfolding with_keysym_read
returns-in-Unknown c = rw c.in-Unknown.is

pub returns-in-TooLarge : goal.returns-in-TooLarge
unfolding with_keysym_read
returns-in-TooLarge c = rw c.in-TooLarge.is

pub returns-in-NotBuilt : goal.returns-in-NotBuilt
unfolding with_keysym_read
returns-in-NotBuilt c = rw c.in-NotBuilt.is

pub returns-in-Value : goal.returns-in-Value
unfolding with_keysym_read
returns-in-Value c = rw (c.in-Value.is, c.with_one_more-slots.ensures)
