-- `writing::numbers::put_digits` meets its contract.
use borrow.Author.Rules.{rules}
use native.Mathlib.Omega.{arith}
use native.Mathlib.Nat.{mod-lt}
use mathlib.Core.Path.{◌≡◌, sym, ap, ◌∙◌}
use mathlib.Core.List.{[], ◌∷◌, ◌++◌}
use Prim.Native.Nat.{ℕ, ◌+◌, ◌-◌, ◌/◌, ◌≤◌, ◌<◌}
use Rattle.model.specs.Canonical.{digits_in}
use Rattle.writing.proofs.Laws.{put_none, put_then, put_as}
use Rattle.writing.proofs.Digits.{digits_none, digits_one, digits_more}
use Rattle.writing.proofs.numbers.+put_digits.Goals as goal

above : {base : ℕ} → 2 ≤ base → 0 < base
above h = omega arith

some_fuel : (at f r : ℕ) → (f ≡ 0 → ⊥) → r ≡ at + 1 → r ≤ at + f
some_fuel at f r n e = omega arith

more_fuel : (at f q r : ℕ) → (f ≡ 0 → ⊥) → q ≤ at + (f - 1) → r ≡ q + 1 → r ≤ at + f
more_fuel at f q r n h e = omega arith

pub returns-then-fuel-eq0 : goal.returns-then-fuel-eq0
returns-then-fuel-eq0 t c =
    let a = c.args in (
      put_as (sym (ap (λ (f : ℕ). digits_in a.base f a.v) c.if-fuel-eq0.true ∙ digits_none a.base a.v)) (put_none _ _),
      search rules,
    )

pub returns-then-v-base : goal.returns-then-v-base
returns-then-v-base t c =
    let a = c.args in (
      put_as
          (ap (λ (d : ℕ). d ∷ []) c.digit_byte.ensures ∙ sym (digits_one a.base a.fuel a.v c.if-fuel-eq0.false c.if-v-base.true))
          c.put_byte.ensures,
      some_fuel a.at a.fuel c.put_byte.result c.if-fuel-eq0.false c.put_byte.ensures.next,
    )

pub digit_byte-requires-2 : goal.digit_byte-requires-2
digit_byte-requires-2 t c = omega (arith, mod-lt c.args.v (above c.requires.1), c.requires.2)

pub returns : goal.returns
returns t c =
    let a = c.args in (
      put_as
          (ap (λ (d : ℕ). digits_in a.base (a.fuel - 1) (a.v / a.base) ++ (d ∷ [])) c.digit_byte-2.ensures
          ∙ sym (digits_more a.base a.fuel a.v c.if-fuel-eq0.false c.if-v-base.false))
          (put_then c.put_digits-next.ensures.0 c.put_byte-2.ensures),
      more_fuel a.at a.fuel c.put_digits-next.result c.put_byte-2.result c.if-fuel-eq0.false c.put_digits-next.ensures.1 c.put_byte-2.ensures.next,
    )
