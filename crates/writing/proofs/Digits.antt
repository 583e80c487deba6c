-- The digits of a number, one more at the end.
use Prim.Native.Nat.{ℕ, zero, suc, ◌-◌, ◌/◌, ◌%◌, ◌≤◌, ◌<◌}
use native.Mathlib.Omega.{arith}
use mathlib.Core.Path.{◌≡◌, refl}
use mathlib.Core.List.{[], ◌∷◌, ◌++◌}
use borrow.Author.Tests.{lt-ltb, le-ltb}
use Rattle.model.specs.Canonical.{digit, digits_in}

pub digits_none : (base v : ℕ) → digits_in base 0 v ≡ []
unfolding digits_in
digits_none base v = refl

pub digits_one : (base fuel v : ℕ) → (fuel ≡ 0 → ⊥) → v < base → digits_in base fuel v ≡ digit v ∷ []
unfolding digits_in
digits_one base zero v n h = absurd (n refl)
digits_one base (suc fuel) v n h = rw (lt-ltb v base h)

pub digits_more : (base fuel v : ℕ) → (fuel ≡ 0 → ⊥) → base ≤ v
    → digits_in base fuel v ≡ digits_in base (fuel - 1) (v / base) ++ (digit (v % base) ∷ [])
unfolding digits_in
digits_more base zero v n h = absurd (n refl)
digits_more base (suc fuel) v n h = let e : suc fuel - 1 ≡ fuel = omega arith in rw (e, le-ltb v base h)
