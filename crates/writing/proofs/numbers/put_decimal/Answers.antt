-- `writing::numbers::put_decimal` meets its contract.
use Rattle.model.specs.Canonical.{decimal}
use Rattle.writing.proofs.numbers.put_decimal.Goals as goal

pub returns : goal.returns
unfolding decimal
returns c = c.put_digits.ensures
