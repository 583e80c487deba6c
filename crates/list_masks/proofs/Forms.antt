-- Eight bits of names are a mask of 13 bits, of which the last five are clear.
use Prim.Native.Nat.{ℕ, ◌+◌, ◌-◌, ◌/◌, ◌^◌, ◌≤◌, ◌<◌}
use native.Mathlib.Omega.{arith}
use mathlib.Core.Path.{◌≡◌, refl, sym, ap, ◌∙◌}
use mathlib.Core.Bool.{Bool, true, false, ◌&&◌, ◌||◌, or-false}
use lib.Dec.{eqb, ltb}
use borrow.Author.Tests.{lt-ltb, ltb-true, ltb-false, ne_eqb}
use Rattle.model.specs.Modifiers.{bit, bit_if, sum_bits, mask}
use Rattle.model.specs.Named.{form_bits, adds_meta, adds_form}
use Rattle.model.specs.declared.names.Added.{Added}
use Rattle.modifiers.specs.Setting.{with_bit}
use Rattle.modifiers.proofs.Digits.{bit_past, bit_none}
use Rattle.modifiers.proofs.Masks.{same_mask, bit_mask, mask_bits}
use Rattle.list_masks.specs.Summary.{with_form, forms_of}

-- the bits below 8 that pass a test
abbrev low : (ℕ → Bool) → ℕ → Bool
low f k = ltb k 8 && f k

forms_mask : (f : ℕ → Bool) → sum_bits f form_bits ≡ mask (low f)
unfolding mask
forms_mask f = refl

low_same : (f g : ℕ → Bool) → ((k : ℕ) → k < 8 → f k ≡ g k) → (k : ℕ) → low f k ≡ low g k
low_same f g e k = go (ltb k 8) refl
  where
    go : (b : Bool) → ltb k 8 ≡ b → (b && f k) ≡ (b && g k)
    go true q = e k (ltb-true k 8 q)
    go false q = refl

pub same_forms : (f g : ℕ → Bool) → ((k : ℕ) → k < 8 → f k ≡ g k) → sum_bits f form_bits ≡ sum_bits g form_bits
same_forms f g e = forms_mask f ∙ same_mask (low f) (low g) (λ k _. low_same f g e k) ∙ sym (forms_mask g)

pub bit_forms : (f : ℕ → Bool) (k : ℕ) → k < 8 → bit k (sum_bits f form_bits) ≡ f k
bit_forms f k h =
    ap (bit k) (forms_mask f) ∙ bit_mask (low f) k (omega arith) ∙ ap (λ (b : Bool). b && f k) (lt-ltb k 8 h)

pub with_form_forms : (f : ℕ → Bool) (k : ℕ) → with_form (sum_bits f form_bits) k ≡ sum_bits (λ j. f j || eqb k j) form_bits
unfolding with_form
with_form_forms f k =
    same_forms (λ j. bit j (sum_bits f form_bits) || eqb k j) (λ j. f j || eqb k j)
    (λ j h. ap (λ (b : Bool). b || eqb k j) (bit_forms f j h))

if_most : (b : Bool) (k : ℕ) → bit_if b k < 2 ^ k + 1
if_most true k = omega arith
if_most false k = omega arith

pub forms_below : (f : ℕ → Bool) → sum_bits f form_bits < 256
forms_below f =
    omega (arith, if_most (f 0) 0, if_most (f 1) 1, if_most (f 2) 2, if_most (f 3) 3, if_most (f 4) 4, if_most (f 5) 5, if_most (f 6) 6, if_most (f 7) 7)

pub with_form_below : (m k : ℕ) → with_form m k < 256
unfolding with_form
with_form_below m k = forms_below (λ j. bit j m || eqb k j)

-- ---- What the code computes

high_clear : (m k : ℕ) → m < 256 → 8 ≤ k → bit k m ≡ false
high_clear m k h l =
    let e : k ≡ 8 + (k - 8) = omega arith in
    let z : m / 2 ^ 8 ≡ 0 = omega arith in
    ap (λ (n : ℕ). bit n m) e ∙ bit_past 8 (k - 8) m ∙ ap (bit (k - 8)) z ∙ bit_none (k - 8)

-- a test that no bit from 8 on passes
all_low : (f : ℕ → Bool) → ((k : ℕ) → 8 ≤ k → f k ≡ false) → mask f ≡ sum_bits f form_bits
all_low f e = same_mask f (low f) (λ k _. go k (ltb k 8) refl) ∙ sym (forms_mask f)
  where
    go : (k : ℕ) (b : Bool) → ltb k 8 ≡ b → f k ≡ (b && f k)
    go k true q = refl
    go k false q = e k (ltb-false k 8 q)

pub with_bit_form : (m k : ℕ) → m < 256 → k < 8 → with_bit m k ≡ with_form m k
unfolding with_bit with_form
with_bit_form m k h l =
    all_low (λ j. bit j m || eqb k j)
    (λ j g. ap (λ (b : Bool). b || eqb k j) (high_clear m j h g) ∙ ne_eqb k j (λ e. omega arith))

pub forms_bits : (m : ℕ) → m < 256 → sum_bits (λ k. bit k m) form_bits ≡ m
forms_bits m h = sym (all_low (λ k. bit k m) (λ k g. high_clear m k h g)) ∙ mask_bits m (omega arith)

-- a type's name that adds no Meta
pub forms_unchanged : (m : ℕ) (added : Added) → m < 256 → adds_meta added ≡ false → forms_of m added ≡ m
unfolding forms_of
forms_unchanged m added h e =
    same_forms (λ k. bit k m || adds_form added k) (λ k. bit k m)
    (λ k _. ap (λ (b : Bool). bit k m || (b && eqb k 0)) e ∙ or-false (bit k m))
    ∙ forms_bits m h

pub forms_meta : (m : ℕ) → forms_of m Added.Meta ≡ with_form m 0
unfolding forms_of with_form
forms_meta m = refl
