-- `judge::events::count_of` meets its contract.
use mathlib.Core.Path.{ap, ap₂, ◌∙◌}
use Prim.Native.Nat.{ℕ, ◌-◌}
use mathlib.Core.Bool.{not, ◌||◌}
use Rattle.judge.specs.Judged.{count_of, count_summary}
use Rattle.judge.proofs.events.count_of.Goals as goal

pub returns-then-not-counted : goal.returns-then-not-counted
unfolding count_summary count_of
returns-then-not-counted c = rw c.if-not-counted.true

pub returns : goal.returns
unfolding count_summary count_of
returns c =
    rw c.if-not-counted.false
    (ap₂ (λ b v. record { bad = b; unbuilt = c.args.plus; value = v })
    (ap₂ (λ a b. not a || not b) c.takes_count-taken.ensures
    c.is_one_digit-one.ensures)
    (c.digit_value-value.ensures ∙ ap (λ (b : ℕ). b - 48) c.first_byte-first.ensures))
