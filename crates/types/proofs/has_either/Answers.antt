-- `types::has_either` meets its contract.
use borrow.Author.Rules.{rules}
use Rattle.types.specs.Types.{has_either}
use Rattle.types.proofs.has_either.Goals as goal

pub returns : goal.returns
unfolding has_either
returns c = c.any_below.ensures (has_either c.args.table.now c.args.code c.args.other) (λ i r h p. search rules)
