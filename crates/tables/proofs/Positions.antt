-- Positions of a line: runs and signs stay within it; and bytes stay bytes.
use Prim.Native.Nat.{ℕ, zero, suc, ◌+◌, ◌≤◌, ◌<◌}
use native.Mathlib.Omega.{arith}
use mathlib.Core.Path.{◌≡◌, refl}
use mathlib.Core.List.{List, [], ◌∷◌}
use mathlib.Core.Bool.{Bool, true, false, cond}
use lib.Dec.{eqb}
use lib.ListN.{length, get_or, take, drop, length-drop}
use lib.Seq.{get_or-drop}
use borrow.Author.Tests.{eqb-true}
use Rattle.model.specs.Bytes.{leading, belongs, run_end, skip}
use Rattle.model.specs.declared.scan.Class.{Class}

pub cond_both : {A : Type 0} (P : A → Type 0) (b : Bool) (x y : A) → (b ≡ true → P x) → (b ≡ false → P y) → P (cond b x y)
cond_both P true x y f g = f refl
cond_both P false x y f g = g refl

leading_le : (test : ℕ → Bool) (l : List ℕ) → leading test l ≤ length l
leading_le test [] = omega arith
leading_le test (b ∷ bs) =
    cond_both (λ (n : ℕ). n ≤ suc (length bs)) (test b) (suc (leading test bs)) 0
    (λ e. let h = leading_le test bs in omega arith) (λ e. omega arith)

pub run_from : (c : Class) (l : List ℕ) (at : ℕ) → at ≤ run_end c l at
unfolding run_end
run_from c l at = omega arith

pub run_within : (c : Class) (l : List ℕ) (at : ℕ) → at ≤ length l → run_end c l at ≤ length l
unfolding run_end
run_within c l at h = omega (arith, leading_le (belongs c) (drop at l), length-drop at l)

pub skip_within : (l : List ℕ) (at : ℕ) → at ≤ length l → skip l at ≤ length l
unfolding skip
skip_within l at h = run_within Class.Blank l at h

-- a byte that is not 0 stands within the line
pub sign_within : (l : List ℕ) (at k : ℕ) → eqb (get_or l at 0) (suc k) ≡ true → at < length l
sign_within [] at k e = let z : 0 ≡ suc k = eqb-true 0 (suc k) e in absurd (omega arith)
sign_within (x ∷ xs) zero k e = omega arith
sign_within (x ∷ xs) (suc at) k e = let h = sign_within xs at k e in omega arith

-- ---- Bytes

abbrev pub Small : List ℕ → Type 0
Small l = (i : ℕ) → get_or l i 0 < 256

pub small_drop : (n : ℕ) (l : List ℕ) → Small l → Small (drop n l)
small_drop n l s i = rw (get_or-drop n l i 0) (s (n + i))

pub small_take : (n : ℕ) (l : List ℕ) → Small l → Small (take n l)
small_take zero l s i = omega arith
small_take (suc n) [] s i = omega arith
small_take (suc n) (x ∷ xs) s zero = s 0
small_take (suc n) (x ∷ xs) s (suc i) = small_take n xs (λ k. s (suc k)) i
