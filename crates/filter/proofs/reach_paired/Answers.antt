-- `filter::reach_paired` meets its contract.
use borrow.Author.Rules.{rules}
use Prim.Native.Nat.{zero-le}
use Rattle.filter.specs.Filter.{pairs}
use Rattle.filter.proofs.reach_paired.Goals as goal

pub returns : goal.returns
returns c =
    rw (← c.event_count.ensures)
    (λ i h q. (zero-le, (c.reach_by.ensures (pairs c.args.table.now c.args.one c.args.two) (λ k r m p. search rules) i h q).1))
