-- A mask with one more bit: by `|`, and of the mask of a test.
use Prim.Native.Nat.{ℕ, ◌*◌, ◌%◌, ◌^◌, ◌<◌}
use native.Mathlib.Omega.{arith}
use mathlib.Core.Path.{◌≡◌, sym, ap, ◌∙◌}
use mathlib.Core.Bool.{Bool, ◌||◌}
use lib.Dec.{eqb}
use lib.Bits.{bit_or, or_lt}
use lib.Pow.{pow-lt}
use Rattle.model.specs.Modifiers.{bit, mask}
use Rattle.modifiers.specs.Setting.{with_bit}
use Rattle.modifiers.proofs.Digits.{bit_or_lem, bit_power}
use Rattle.modifiers.proofs.Masks.{same_mask, mask_bits, mask_below, bit_mask}

pub with_bit_below : (m k : ℕ) → with_bit m k < 8192
unfolding with_bit
with_bit_below m k = mask_below (λ j. bit j m || eqb k j)

pub bit_with_bit : (m k j : ℕ) → j < 13 → bit j (with_bit m k) ≡ (bit j m || eqb k j)
unfolding with_bit
bit_with_bit m k j h = bit_mask (λ i. bit i m || eqb k i) j h

-- the mask of the bits that pass a test, with bit k, is that of the bits that pass it or are k
pub with_bit_mask : (f : ℕ → Bool) (k : ℕ) → with_bit (mask f) k ≡ mask (λ j. f j || eqb k j)
unfolding with_bit
with_bit_mask f k =
    same_mask (λ j. bit j (mask f) || eqb k j) (λ j. f j || eqb k j) (λ j h. ap (λ (b : Bool). b || eqb k j) (bit_mask f j h))

-- what the code computes
pub or_power : (m k : ℕ) → m < 8192 → k < 13 → bit_or m (1 * 2 ^ k % 65536) ≡ with_bit m k
unfolding with_bit
or_power m k hm hk =
    let p : 2 ^ k < 8192 = pow-lt {j = 13} hk in
    let e : 1 * 2 ^ k % 65536 ≡ 2 ^ k = omega arith in
    ap (bit_or m) e
    ∙ sym (mask_bits (bit_or m (2 ^ k)) (or_lt 13 m (2 ^ k) hm p))
    ∙ same_mask (λ j. bit j (bit_or m (2 ^ k))) (λ j. bit j m || eqb k j)
    (λ j h. bit_or_lem j m (2 ^ k) ∙ ap (λ (b : Bool). bit j m || b) (bit_power j k))
