-- Runs of bytes: where one ends, one byte at a time, and its bounds.
use Prim.Native.Nat.{ℕ, zero, suc, ◌+◌, ◌≤◌, ◌<◌}
use native.Mathlib.Omega.{arith}
use native.Mathlib.Numerals.{add-one}
use mathlib.Core.Path.{◌≡◌, refl, sym, ap, ◌∙◌, subst}
use mathlib.Core.List.{List, [], ◌∷◌}
use mathlib.Core.Bool.{Bool, true, false}
use lib.ListN.{length, drop, get_or, length-drop, drop_of_length-le}
use lib.Seq.{drop-cons}
use lib.Dec.{eqb}
use borrow.Author.Tests.{eqb-true, eq-eqb, ne_eqb}
use Rattle.model.specs.Bytes.{belongs, leading, run_end, skip}
use Rattle.model.specs.declared.scan.Class.{Class}

-- the tail at i, one element taken off, in the code's i + 1
pub drop_at : (l : List ℕ) (i : ℕ) → i < length l → drop i l ≡ get_or l i 0 ∷ drop (i + 1) l
drop_at l i h = rw (add-one, drop-cons l i 0)

leading_more : (test : ℕ → Bool) (b : ℕ) (bs : List ℕ) → test b ≡ true → leading test (b ∷ bs) ≡ suc (leading test bs)
leading_more test b bs e = rw e

leading_stop : (test : ℕ → Bool) (b : ℕ) (bs : List ℕ) → test b ≡ false → leading test (b ∷ bs) ≡ 0
leading_stop test b bs e = rw e

leading_le : (test : ℕ → Bool) (bs : List ℕ) → leading test bs ≤ length bs
leading_le test [] = omega arith
leading_le test (b ∷ bs) = go (test b) refl (leading_le test bs)
  where
    go : (t : Bool) → test b ≡ t → leading test bs ≤ length bs → leading test (b ∷ bs) ≤ length (b ∷ bs)
    go true e h = omega (arith, leading_more test b bs e)
    go false e h = omega (arith, leading_stop test b bs e)

module _ (c : Class) (l : List ℕ) where
  pub run_more : (i : ℕ) → i < length l → belongs c (get_or l i 0) ≡ true → run_end c l i ≡ run_end c l (i + 1)
  unfolding run_end
  run_more i h e =
      let k : leading (belongs c) (drop i l) ≡ suc (leading (belongs c) (drop (i + 1) l)) =
      ap (leading (belongs c)) (drop_at l i h) ∙ leading_more (belongs c) (get_or l i 0) (drop (i + 1) l) e in
      omega arith

  pub run_stop : (i : ℕ) → i < length l → belongs c (get_or l i 0) ≡ false → run_end c l i ≡ i
  unfolding run_end
  run_stop i h e =
      let k : leading (belongs c) (drop i l) ≡ 0 =
      ap (leading (belongs c)) (drop_at l i h) ∙ leading_stop (belongs c) (get_or l i 0) (drop (i + 1) l) e in
      omega arith

  pub run_last : (i : ℕ) → length l ≤ i → run_end c l i ≡ i
  unfolding run_end
  run_last i h =
      let k : leading (belongs c) (drop i l) ≡ 0 = ap (leading (belongs c)) (drop_of_length-le l h) in
      omega arith

  -- a run ends at or after its start
  pub run_from : (at : ℕ) → at ≤ run_end c l at
  unfolding run_end
  run_from at = omega arith

  -- and within the line
  pub run_in : (at : ℕ) → at ≤ length l → run_end c l at ≤ length l
  unfolding run_end
  run_in at h = omega (arith, leading_le (belongs c) (drop at l), length-drop at l)

pub skip_from : (l : List ℕ) (at : ℕ) → at ≤ skip l at
unfolding skip
skip_from l at = run_from Class.Blank l at

pub skip_in : (l : List ℕ) (at : ℕ) → at ≤ length l → skip l at ≤ length l
unfolding skip
skip_in l at h = run_in Class.Blank l at h

-- a byte other than 0 stands within the line
pub byte_in : (l : List ℕ) (at b : ℕ) → 0 < b → get_or l at 0 ≡ b → at < length l
byte_in [] at b h e = absurd (omega arith)
byte_in (x ∷ xs) zero b h e = omega arith
byte_in (x ∷ xs) (suc at) b h e = omega (arith, byte_in xs at b h e)

-- the same of a test
pub sign_in : (l : List ℕ) (at b : ℕ) → 0 < b → eqb (get_or l at 0) b ≡ true → at < length l
sign_in l at b h e = byte_in l at b h (eqb-true _ _ e)

-- a test of the code on a value, as the definition has it
pub test_is : {b x k : ℕ} → b ≡ x → b ≡ k → eqb x k ≡ true
test_is p q = eq-eqb _ _ (sym p ∙ q)

pub test_not : {b x k : ℕ} → b ≡ x → (b ≡ k → ⊥) → eqb x k ≡ false
test_not p q = ne_eqb _ _ (λ e. q (p ∙ e))

-- a byte that the code found to be a sign stands within the line
pub test_in : {b : ℕ} (l : List ℕ) (at k : ℕ) → 0 < k → b ≡ get_or l at 0 → b ≡ k → at < length l
test_in l at k h p q = byte_in l at k h (sym p ∙ q)

-- what holds of the value that a call gives by its contract holds of the value that a match found
pub told : {A : Type 0} (P : A → Type 0) {r x y : A} → r ≡ x → r ≡ y → P x → P y
told P p q h = subst P (sym p ∙ q) h
