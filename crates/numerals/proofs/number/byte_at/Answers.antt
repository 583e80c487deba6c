-- `numerals::number::byte_at` meets its contract. Assumes nothing.
use mathlib.Core.Path.{sym}
use lib.ListN.{get_or-eq_default}
use Rattle.numerals.proofs.number.byte_at.Goals as goal

pub returns : goal.returns
returns c = sym (get_or-eq_default c.args.w.now 0 c.if-i-w.false)
