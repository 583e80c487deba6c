-- `types::has_code` meets its contract.
use borrow.Author.Rules.{rules}
use Rattle.types.specs.Types.{has_code}
use Rattle.types.proofs.has_code.Goals as goal

pub returns : goal.returns
unfolding has_code
returns c = c.any_below.ensures (has_code c.args.table.now c.args.code) (λ i r h p. search rules)
