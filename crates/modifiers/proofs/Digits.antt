-- A bit of a number, by halving: of a half, of `&` and `|`, of a power of two.
use Prim.Native.Nat.{ℕ, zero, suc, ◌+◌, ◌/◌, ◌%◌, ◌^◌, ◌<◌, min, max}
use native.Mathlib.Omega.{arith}
use native.Mathlib.Nat.{pow-suc}
use native.Mathlib.Numerals.{one-add}
use Rattle.std.proofs.lemmas.Bool.Decides.{nat_tests}
use mathlib.Core.Path.{◌≡◌, refl, sym, ap, ◌∙◌}
use mathlib.Core.Bool.{Bool, false, cond, ◌&&◌, ◌||◌}
use lib.Dec.{eqb, eqb-zero-suc, eqb-suc-zero, eqb-suc-suc}
use lib.Bits.{bit_and, bit_or, and_step, or_step, and_shr, or_shr}
use lib.Pow.{shr-shr}
use Rattle.model.specs.Modifiers.{bit}

-- a bit as a number
abbrev pub digit : Bool → ℕ
digit b = cond b 1 0

pub bit_zero : (m : ℕ) → bit 0 m ≡ eqb (m % 2) 1
bit_zero m = let e : m / 1 ≡ m = omega arith in rw e

-- bit k + 1 is bit k of the half
pub bit_suc : (k m : ℕ) → bit (suc k) m ≡ bit k (m / 2)
bit_suc k m = ap (λ (x : ℕ). eqb (x % 2) 1) (sym (shr-shr m 1 k ∙ ap (λ (j : ℕ). m / 2 ^ j) (one-add k)))

-- a bit past a number's first k is a bit of what is left without them
pub bit_past : (k j m : ℕ) → bit (k + j) m ≡ bit j (m / 2 ^ k)
bit_past k j m = ap (λ (x : ℕ). eqb (x % 2) 1) (sym (shr-shr m k j))

and_digits : (x y : ℕ) → x < 2 → y < 2 → eqb (min x y) 1 ≡ eqb x 1 && eqb y 1
and_digits x y hx hy = grind (arith, nat_tests)

or_digits : (x y : ℕ) → x < 2 → y < 2 → eqb (max x y) 1 ≡ eqb x 1 || eqb y 1
or_digits x y hx hy = grind (arith, nat_tests)

and_odd : (a b : ℕ) → eqb (bit_and a b % 2) 1 ≡ eqb (a % 2) 1 && eqb (b % 2) 1
and_odd a b =
    let d : min (a % 2) (b % 2) < 2 = omega arith in
    let e : bit_and a b % 2 ≡ min (a % 2) (b % 2) = omega (arith, and_step a b) in
    ap (λ (x : ℕ). eqb x 1) e ∙ and_digits (a % 2) (b % 2) (omega arith) (omega arith)

or_odd : (a b : ℕ) → eqb (bit_or a b % 2) 1 ≡ eqb (a % 2) 1 || eqb (b % 2) 1
or_odd a b =
    let d : max (a % 2) (b % 2) < 2 = omega arith in
    let e : bit_or a b % 2 ≡ max (a % 2) (b % 2) = omega (arith, or_step a b) in
    ap (λ (x : ℕ). eqb x 1) e ∙ or_digits (a % 2) (b % 2) (omega arith) (omega arith)

pub bit_and_lem : (k a b : ℕ) → bit k (bit_and a b) ≡ bit k a && bit k b
bit_and_lem k a b = ap (λ (x : ℕ). eqb (x % 2) 1) (and_shr a b k) ∙ and_odd (a / 2 ^ k) (b / 2 ^ k)

pub bit_or_lem : (k a b : ℕ) → bit k (bit_or a b) ≡ bit k a || bit k b
bit_or_lem k a b = ap (λ (x : ℕ). eqb (x % 2) 1) (or_shr a b k) ∙ or_odd (a / 2 ^ k) (b / 2 ^ k)

pub bit_none : (k : ℕ) → bit k 0 ≡ false
bit_none zero = refl
bit_none (suc k) = bit_suc k 0 ∙ bit_none k

-- a power of two has one bit
pub bit_power : (j k : ℕ) → bit j (2 ^ k) ≡ eqb k j
bit_power zero zero = refl
bit_power (suc j) zero = bit_suc j 1 ∙ bit_none j ∙ sym (eqb-zero-suc j)
bit_power zero (suc k) =
    let e : 2 ^ suc k % 2 ≡ 0 = omega (arith, pow-suc 2 k) in
    bit_zero (2 ^ suc k) ∙ ap (λ (x : ℕ). eqb x 1) e ∙ sym (eqb-suc-zero k)
bit_power (suc j) (suc k) =
    let e : 2 ^ suc k / 2 ≡ 2 ^ k = omega (arith, pow-suc 2 k) in
    bit_suc j (2 ^ suc k) ∙ ap (bit j) e ∙ bit_power j k ∙ sym (eqb-suc-suc k j)
