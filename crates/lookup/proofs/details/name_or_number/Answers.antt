-- `lookup::details::name_or_number` meets its contract. Assumes nothing.
use Rattle.model.specs.Bytes.{is_digit}
use Rattle.lookup.specs.Find.{found_or_number}
use Rattle.lookup.proofs.details.name_or_number.Goals as goal

pub returns-then-in_range : goal.returns-then-in_range
unfolding found_or_number is_digit
returns-then-in_range c = rw (← c.byte_at.ensures, ← c.in_range.ensures, c.if-in_range.true) c.small_number.ensures

pub returns : goal.returns
unfolding found_or_number is_digit
returns c = rw (← c.byte_at.ensures, ← c.in_range.ensures, c.if-in_range.false) c.detail_in.ensures
