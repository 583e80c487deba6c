-- Laws of numbers, one digit at a time, in the code's terms. Assumes nothing.
use Prim.Native.Nat.{ℕ, ◌+◌, ◌*◌, ◌≤◌, ◌<◌}
use native.Mathlib.Nat.{le-mul_of_pos_right}
use native.Mathlib.Omega.{arith}
use mathlib.Core.Path.{◌≡◌, refl}
use mathlib.Core.Bool.{Bool, true, false, ◌&&◌, and-false}
use mathlib.Core.List.{List, [], ◌∷◌}
use Rattle.std.specs.Prelude.{None, Some}
use lib.Dec.{leb, ltb, eqb}
use lib.ListN.{length, drop, get_or, drop_of_length-le}
use borrow.Author.Tests.{leb-true, lt-ltb, le-ltb}
use Rattle.model.specs.Bytes.{in_range}
use Rattle.model.specs.Details.{digit_value, digits_from, within_limit, number_in, starts_hexadecimal}
use Rattle.model.specs.declared.names.DetailRead.{DetailRead}
use Rattle.numerals.proofs.Words.{drop_at}

pub both_true : (a b : Bool) → a && b ≡ true → (a ≡ true) × (b ≡ true)
both_true true true e = (refl, refl)
both_true true false e = let z : ◌≡◌ {A = ℕ} 0 1 = cc in absurd (let y : ⊥ = omega arith in y)
both_true false b e = let z : ◌≡◌ {A = ℕ} 0 1 = cc in absurd (let y : ⊥ = omega arith in y)

pub in_range_holds : (low b high : ℕ) → in_range low b high ≡ true → (low ≤ b) × (b ≤ high)
in_range_holds low b high e =
    let p = both_true (leb low b) (leb b high) e in
    (leb-true low b p.0, leb-true b high p.1)

-- what begins with `0x` has two bytes
pub hexadecimal_length : (w : List ℕ) → starts_hexadecimal w ≡ true → 2 ≤ length w
hexadecimal_length [] e = let z : ◌≡◌ {A = ℕ} 0 1 = cc in absurd (let y : ⊥ = omega arith in y)
hexadecimal_length (x ∷ []) e =
    let z : ◌≡◌ {A = ℕ} 0 1 = cc (and-false (eqb x 48)) in absurd (let y : ⊥ = omega arith in y)
hexadecimal_length (x ∷ y ∷ ys) e = omega arith

module _ (base limit : ℕ) where
  -- a number has at least one digit
  pub number_none : (w : List ℕ) → length w ≡ 0 → number_in base limit w ≡ DetailRead.Unknown
  unfolding number_in
  number_none [] e = refl
  number_none (x ∷ xs) e = absurd (let y : ⊥ = omega arith in y)

  pub number_some : (w : List ℕ) → (length w ≡ 0 → ⊥) → number_in base limit w ≡ within_limit limit (digits_from base 0 w)
  unfolding number_in
  number_some [] h = absurd (h refl)
  number_some (x ∷ xs) h = refl

  module _ (w : List ℕ) (i v : ℕ) where
    pub digits_more : i < length w → digit_value (get_or w i 0) < base
        → digits_from base v (drop i w) ≡ digits_from base (v * base + digit_value (get_or w i 0)) (drop (i + 1) w)
    unfolding digits_from
    digits_more h d = rw (drop_at w i h, digits_from, lt-ltb _ _ d)

    pub digits_stop : i < length w → base ≤ digit_value (get_or w i 0) → digits_from base v (drop i w) ≡ None
    unfolding digits_from
    digits_stop h d = rw (drop_at w i h, digits_from, le-ltb _ _ d)

    pub digits_end : length w ≤ i → digits_from base v (drop i w) ≡ Some v
    unfolding digits_from
    digits_end h = rw (drop_of_length-le w h, digits_from)

  -- past the limit the value does not matter any more, and a later byte that is no digit still does
  pub past_limit_lem : 0 < base → (l : List ℕ) (u v : ℕ) → limit < u → limit < v
      → within_limit limit (digits_from base u l) ≡ within_limit limit (digits_from base v l)
  unfolding digits_from
  past_limit_lem p [] u v hu hv = rw (lt-ltb limit u hu, lt-ltb limit v hv)
  past_limit_lem p (b ∷ bs) u v hu hv =
      go (ltb (digit_value b) base) refl
      (past_limit_lem p bs (u * base + digit_value b) (v * base + digit_value b)
      (omega (arith, le-mul_of_pos_right u p))
      (omega (arith, le-mul_of_pos_right v p)))
    where
      go : (t : Bool) → ltb (digit_value b) base ≡ t
          → within_limit limit (digits_from base (u * base + digit_value b) bs)
          ≡ within_limit limit (digits_from base (v * base + digit_value b) bs)
          → within_limit limit (digits_from base u (b ∷ bs)) ≡ within_limit limit (digits_from base v (b ∷ bs))
      go true q ih = rw (digits_from, q) ih
      go false q ih = rw (digits_from, q)
