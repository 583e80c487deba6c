-- `numerals::number::digit_value` meets its contract. Assumes nothing.
use native.Mathlib.Omega.{arith}
use mathlib.Core.Path.{sym, ◌∙◌}
use Rattle.model.specs.Details.{digit_value}
use Rattle.numerals.proofs.Digits.{in_range_holds}
use Rattle.numerals.proofs.number.digit_value.Goals as goal

pub overflow_sub-result : goal.overflow_sub-result
overflow_sub-result c =
    omega (arith, in_range_holds 48 c.args.b 57 (sym c.in_range.ensures ∙ c.if-in_range.true))

pub returns-then-in_range : goal.returns-then-in_range
unfolding digit_value
returns-then-in_range c = rw (← c.in_range.ensures, c.if-in_range.true)

pub overflow_sub-result-then-in_range-2 : goal.overflow_sub-result-then-in_range-2
overflow_sub-result-then-in_range-2 c =
    omega (arith, in_range_holds 97 c.args.b 102 (sym c.in_range-2.ensures ∙ c.if-in_range-2.true))

pub returns-then-in_range-2 : goal.returns-then-in_range-2
unfolding digit_value
returns-then-in_range-2 c = rw (← c.in_range.ensures, c.if-in_range.false, ← c.in_range-2.ensures, c.if-in_range-2.true)

pub overflow_sub-result-then-in_range-3 : goal.overflow_sub-result-then-in_range-3
overflow_sub-result-then-in_range-3 c =
    omega (arith, in_range_holds 65 c.args.b 70 (sym c.in_range-3.ensures ∙ c.if-in_range-3.true))

pub returns-then-in_range-3 : goal.returns-then-in_range-3
unfolding digit_value
returns-then-in_range-3 c =
    rw (← c.in_range.ensures, c.if-in_range.false, ← c.in_range-2.ensures, c.if-in_range-2.false, ← c.in_range-3.ensures, c.if-in_range-3.true)

pub returns : goal.returns
unfolding digit_value
returns c =
    rw (← c.in_range.ensures, c.if-in_range.false, ← c.in_range-2.ensures, c.if-in_range-2.false, ← c.in_range-3.ensures, c.if-in_range-3.false)
