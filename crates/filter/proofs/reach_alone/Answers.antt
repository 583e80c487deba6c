-- `filter::reach_alone` meets its contract.
use borrow.Author.Rules.{rules}
use Rattle.filter.specs.Filter.{may_begin}
use Rattle.filter.proofs.reach_alone.Goals as goal

pub returns : goal.returns
returns c = rw (← c.event_count.ensures) (c.reach_by.ensures (may_begin c.args.table.now c.args.one) (λ i r h p. search rules))
