-- Masks of 13 bits: the bits of the mask of a test are the test's, it is below 8192, and bits determine a mask.
-- Each law is proved over the number of bits, by halving.
use Prim.Native.Nat.{ℕ, zero, suc, ◌+◌, ◌-◌, ◌*◌, ◌/◌, ◌%◌, ◌^◌, ◌<◌, zero-le, suc-le-suc}
use native.Mathlib.Omega.{arith}
use native.Mathlib.Nat.{pow-suc}
use Rattle.std.proofs.lemmas.Bool.Decides.{nat_tests}
use mathlib.Core.Path.{◌≡◌, refl, sym, ap, ap₂, ◌∙◌}
use mathlib.Core.Bool.{Bool, false, not, ◌&&◌, ◌||◌}
use lib.Dec.{eqb}
use lib.Bits.{bit_and, bit_or, and_lt, or_lt}
use Rattle.model.specs.Modifiers.{bit, bit_if, mask}
use Rattle.modifiers.proofs.Digits.{digit, bit_zero, bit_suc, bit_and_lem, bit_or_lem}

-- the number whose n lowest bits are the test's, lowest first
unfoldable pub number : ℕ → (ℕ → Bool) → ℕ
number zero f = 0
number (suc n) f = digit (f 0) + 2 * number n (λ k. f (suc k))

digit_scaled : (b : Bool) (k : ℕ) → bit_if b k ≡ digit b * 2 ^ k
digit_scaled b k = grind arith

pub digit_below : (b : Bool) → digit b < 2
digit_below b = grind arith

digit_not : (b : Bool) → digit (not b) + digit b ≡ 1
digit_not b = grind arith

pub digit_tested : (b : Bool) → eqb (digit b) 1 ≡ b
digit_tested b = grind arith

-- the digit that stands for a number's lowest bit
pub digit_odd : (m : ℕ) → digit (eqb (m % 2) 1) ≡ m % 2
digit_odd m = grind (arith, nat_tests)

pub mask_number : (f : ℕ → Bool) → mask f ≡ number 13 f
unfolding mask number
mask_number f =
    simp digit_scaled (omega arith)

number_below : (n : ℕ) (f : ℕ → Bool) → number n f < 2 ^ n
unfolding number
number_below zero f = omega arith
number_below (suc n) f =
    omega (arith, pow-suc 2 n, digit_below (f 0), number_below n (λ k. f (suc k)))

number_half : (n : ℕ) (f : ℕ → Bool) → number (suc n) f / 2 ≡ number n (λ k. f (suc k))
unfolding number
number_half n f = omega (arith, digit_below (f 0))

number_odd : (n : ℕ) (f : ℕ → Bool) → number (suc n) f % 2 ≡ digit (f 0)
unfolding number
number_odd n f = omega (arith, digit_below (f 0))

bit_of_number : (n : ℕ) (f : ℕ → Bool) (k : ℕ) → k < n → bit k (number n f) ≡ f k
bit_of_number zero f k h = absurd (omega arith)
bit_of_number (suc n) f zero h =
    bit_zero (number (suc n) f) ∙ ap (λ (x : ℕ). eqb x 1) (number_odd n f) ∙ digit_tested (f 0)
bit_of_number (suc n) f (suc k) h =
    bit_suc k (number (suc n) f) ∙ ap (bit k) (number_half n f) ∙ bit_of_number n (λ j. f (suc j)) k (omega arith)

same_number : (n : ℕ) (f g : ℕ → Bool) → ((k : ℕ) → k < n → f k ≡ g k) → number n f ≡ number n g
unfolding number
same_number zero f g e = refl
same_number (suc n) f g e =
    ap₂ (λ (b : Bool) (m : ℕ). digit b + 2 * m) (e 0 (suc-le-suc zero-le))
    (same_number n (λ k. f (suc k)) (λ k. g (suc k)) (λ k h. e (suc k) (suc-le-suc h)))

number_of_bits : (n m : ℕ) → m < 2 ^ n → number n (λ k. bit k m) ≡ m
unfolding number
number_of_bits zero m h = omega arith
number_of_bits (suc n) m h =
    let half : m / 2 < 2 ^ n = omega (arith, pow-suc 2 n) in
    let e : number n (λ k. bit (suc k) m) ≡ m / 2 =
    same_number n (λ k. bit (suc k) m) (λ k. bit k (m / 2)) (λ k _. bit_suc k m) ∙ number_of_bits n (m / 2) half in
    let d : digit (bit 0 m) ≡ m % 2 = ap digit (bit_zero m) ∙ digit_odd m in
    omega arith

-- two numbers of n bits that agree on them are equal
pub same_bits : (n a b : ℕ) → a < 2 ^ n → b < 2 ^ n → ((k : ℕ) → k < n → bit k a ≡ bit k b) → a ≡ b
same_bits n a b ha hb e =
    sym (number_of_bits n a ha) ∙ same_number n (λ k. bit k a) (λ k. bit k b) e ∙ number_of_bits n b hb

number_not : (n : ℕ) (f : ℕ → Bool) → number n (λ k. not (f k)) + number n f + 1 ≡ 2 ^ n
unfolding number
number_not zero f = refl
number_not (suc n) f = omega (arith, pow-suc 2 n, digit_not (f 0), number_not n (λ k. f (suc k)))

-- ---- The laws of `mask`

pub mask_below : (f : ℕ → Bool) → mask f < 8192
mask_below f = rw mask_number (number_below 13 f)

pub bit_mask : (f : ℕ → Bool) (k : ℕ) → k < 13 → bit k (mask f) ≡ f k
bit_mask f k h = ap (bit k) (mask_number f) ∙ bit_of_number 13 f k h

pub same_mask : (f g : ℕ → Bool) → ((k : ℕ) → k < 13 → f k ≡ g k) → mask f ≡ mask g
same_mask f g e = mask_number f ∙ same_number 13 f g e ∙ sym (mask_number g)

pub mask_bits : (m : ℕ) → m < 8192 → mask (λ k. bit k m) ≡ m
mask_bits m h = mask_number (λ k. bit k m) ∙ number_of_bits 13 m h

pub mask_or : (f g : ℕ → Bool) → mask (λ k. f k || g k) ≡ bit_or (mask f) (mask g)
mask_or f g =
    same_mask (λ k. f k || g k) (λ k. bit k (bit_or (mask f) (mask g)))
    (λ k h. sym (bit_or_lem k (mask f) (mask g) ∙ ap₂ ◌||◌ (bit_mask f k h) (bit_mask g k h)))
    ∙ mask_bits (bit_or (mask f) (mask g)) (or_lt 13 (mask f) (mask g) (mask_below f) (mask_below g))

pub mask_and : (f g : ℕ → Bool) → mask (λ k. f k && g k) ≡ bit_and (mask f) (mask g)
mask_and f g =
    same_mask (λ k. f k && g k) (λ k. bit k (bit_and (mask f) (mask g)))
    (λ k h. sym (bit_and_lem k (mask f) (mask g) ∙ ap₂ ◌&&◌ (bit_mask f k h) (bit_mask g k h)))
    ∙ mask_bits (bit_and (mask f) (mask g)) (and_lt 13 (mask f) (mask g) (mask_below f) (mask_below g))

pub mask_not : (f : ℕ → Bool) → mask (λ k. not (f k)) ≡ 8191 - mask f
mask_not f = rw (mask_number f, mask_number (λ k. not (f k))) (omega (arith, number_not 13 f))

pub mask_none : mask (λ k. false) ≡ 0
unfolding mask
mask_none = refl
