-- `numerals::number::number_in` meets its contract. The loop's invariant: the value so far and the bytes left give the number.
-- Assumes nothing.
use Prim.Native.Nat.{ℕ, ◌+◌, ◌*◌, ◌≤◌, ◌<◌}
use native.Mathlib.Nat.{mul-le-mul_left, le-mul_of_pos_right}
use native.Mathlib.Omega.{arith}
use mathlib.Core.Path.{◌≡◌, sym, ap, ◌∙◌}
use lib.ListN.{drop, get_or}
use borrow.Author.Rules.{rules}
use borrow.Author.Tests.{lt-ltb, le-ltb}
use Rattle.model.specs.Details.{digit_value, digits_from, within_limit, number_in}
use Rattle.numerals.proofs.Digits.{number_none, number_some, digits_more, digits_stop, digits_end, past_limit_lem}
use Rattle.numerals.proofs.number.number_in.Goals as goal
use Rattle.numerals.proofs.number.number_in.Goals.{then-value-limit, else-value-limit}

pub returns-then-w-eq0 : goal.returns-then-w-eq0
returns-then-w-eq0 c =
    let a = c.args in
    sym (number_none a.base a.limit a.w.now c.if-w-eq0.true)

pub loop-i-init : goal.loop-i-init
loop-i-init c =
    let a = c.args in
    (search rules, c.requires, number_some a.base a.limit a.w.now c.if-w-eq0.false)

pub returns-then-base-digit : goal.returns-then-base-digit
returns-then-base-digit c =
    let a = c.args in
    let l = c.loop-i in
    let d : a.base ≤ digit_value (get_or a.w.now l.i 0) = omega (arith, c.digit_value-digit.ensures) in
    sym
    (l.invariant.2
    ∙ ap (within_limit a.limit)
    (digits_stop a.base a.limit a.w.now l.i l.value c.loop-i-test.true d))

pub overflow_mul-value : goal.overflow_mul-value
overflow_mul-value c =
    let a = c.args in
    let v = c.loop-i.value in
    let m : v * a.base ≤ v * 16 = mul-le-mul_left v c.loop-i.invariant.1.1 in
    omega arith

pub overflow_add-value : goal.overflow_add-value
overflow_add-value c =
    let a = c.args in
    let v = c.loop-i.value in
    let m : v * a.base ≤ v * 16 = mul-le-mul_left v c.loop-i.invariant.1.1 in
    omega arith

pub loop-i-preserved : goal.loop-i-preserved
loop-i-preserved c =
    let a = c.args in
    let l = c.loop-i in
    let r = c.digit_value-digit.result in
    let e : r ≡ digit_value (get_or a.w.now l.i 0) = c.digit_value-digit.ensures in
    let d : digit_value (get_or a.w.now l.i 0) < a.base = omega (arith, e) in
    let step : number_in a.base a.limit a.w.now
    ≡ within_limit a.limit (digits_from a.base (l.value * a.base + r) (drop (l.i + 1) a.w.now)) =
    l.invariant.2
    ∙ ap (within_limit a.limit)
    (digits_more a.base a.limit a.w.now l.i l.value c.loop-i-test.true d
    ∙ ap (λ (x : ℕ). digits_from a.base (l.value * a.base + x) (drop (l.i + 1) a.w.now)) (sym e))
    in (
      search rules,
      l.invariant.1,
      step
          ∙ elim c.if-value-limit.branch [
            | then-value-limit w ↦
                ap (λ (x : ℕ). within_limit a.limit (digits_from a.base x (drop (l.i + 1) a.w.now))) (sym w.value-is)
            | else-value-limit w ↦
                let p : a.limit < l.value * a.base + r =
                omega (arith, w.if-value-limit.false, le-mul_of_pos_right l.value l.invariant.1.0) in
                past_limit_lem a.base a.limit l.invariant.1.0 (drop (l.i + 1) a.w.now) (l.value * a.base + r) c.if-value-limit.value p
                (omega (arith, w.if-value-limit.false, w.value-is))
          ],
    )

pub returns-then-limit-value : goal.returns-then-limit-value
returns-then-limit-value c =
    let a = c.args in
    let l = c.loop-i in
    sym
    (l.invariant.2
    ∙ ap (within_limit a.limit) (digits_end a.base a.limit a.w.now l.i l.value c.loop-i-test.false)
    ∙ rw (lt-ltb _ _ c.if-limit-value.true))

pub overflow_cast-result : goal.overflow_cast-result
overflow_cast-result c = omega arith

pub returns : goal.returns
returns c =
    let a = c.args in
    let l = c.loop-i in
    sym
    (l.invariant.2
    ∙ ap (within_limit a.limit) (digits_end a.base a.limit a.w.now l.i l.value c.loop-i-test.false)
    ∙ rw (le-ltb _ _ c.if-limit-value.false))
