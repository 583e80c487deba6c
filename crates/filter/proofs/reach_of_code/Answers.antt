-- `filter::reach_of_code` meets its contract.
use borrow.Author.Rules.{rules}
use Rattle.filter.specs.Filter.{code_begins}
use Rattle.filter.proofs.reach_of_code.Goals as goal

pub returns : goal.returns
unfolding code_begins
returns c = rw (← c.event_count.ensures) (c.reach_by.ensures (code_begins c.args.table.now c.args.one) (λ i r h p. search rules))
