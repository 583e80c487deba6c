-- The mask of the bits below a number that pass a test: it has those bits, and is below that power of two. By halving.
use Prim.Native.Nat.{ℕ, zero, suc, ◌+◌, ◌*◌, ◌/◌, ◌%◌, ◌^◌, ◌<◌}
use native.Mathlib.Omega.{arith}
use native.Mathlib.Nat.{pow-suc}
use mathlib.Core.Path.{◌≡◌, ap, ◌∙◌}
use mathlib.Core.Bool.{Bool}
use lib.Dec.{eqb}
use Rattle.model.specs.Modifiers.{bit, bit_if}
use Rattle.modifiers.proofs.Digits.{digit, bit_zero, bit_suc}
use Rattle.modifiers.proofs.Masks.{digit_below, digit_tested}
use Rattle.type_sets.specs.TypeSet.{mask_below}

lowest : (b : Bool) → bit_if b 0 ≡ digit b
lowest b = grind arith

double_bit : (b : Bool) (k : ℕ) → 2 * bit_if b k ≡ bit_if b (suc k)
double_bit b k = grind (arith, pow-suc 2 k)

-- the lowest bit, and the others as a mask of their own
below_halves : (n : ℕ) (f : ℕ → Bool) → mask_below (suc n) f ≡ digit (f 0) + 2 * mask_below n (λ k. f (suc k))
unfolding mask_below
below_halves zero f = omega (arith, lowest (f 0))
below_halves (suc n) f = omega (arith, below_halves n f, double_bit (f (suc n)) n)

pub mask_below_lt : (n : ℕ) (f : ℕ → Bool) → mask_below n f < 2 ^ n
unfolding mask_below
mask_below_lt zero f = omega arith
mask_below_lt (suc n) f =
    omega (arith, pow-suc 2 n, below_halves n f, digit_below (f 0), mask_below_lt n (λ k. f (suc k)))

pub bit_mask_below : (n : ℕ) (f : ℕ → Bool) (k : ℕ) → k < n → bit k (mask_below n f) ≡ f k
bit_mask_below zero f k h = absurd (omega arith)
bit_mask_below (suc n) f zero h =
    let e : mask_below (suc n) f % 2 ≡ digit (f 0) = omega (arith, below_halves n f, digit_below (f 0)) in
    bit_zero (mask_below (suc n) f) ∙ ap (λ (x : ℕ). eqb x 1) e ∙ digit_tested (f 0)
bit_mask_below (suc n) f (suc k) h =
    let e : mask_below (suc n) f / 2 ≡ mask_below n (λ j. f (suc j)) = omega (arith, below_halves n f, digit_below (f 0)) in
    bit_suc k (mask_below (suc n) f) ∙ ap (bit k) e ∙ bit_mask_below n (λ j. f (suc j)) k (omega arith)
