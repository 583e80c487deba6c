-- Lists with one element more at the end, and with one less.
use Prim.Native.Nat.{ℕ, zero, suc, pred, ◌≤◌, ◌<◌}
use native.Mathlib.Omega.{arith}
use native.Mathlib.Nat.{not-suc-le-zero, le_of_suc-le-suc}
use mathlib.Core.Path.{◌≡◌, refl, sym, ap, ◌∙◌}
use mathlib.Core.Bool.{Bool, true}
use mathlib.Core.List.{List, [], ◌∷◌, ◌++◌}
use lib.ListN.{length, take, drop}
use lib.Seq.{length-take-le, take-append_seam, drop-append-le}
use Rattle.model.specs.Selection.{ends_in, without_last}

module _ {A : Type 0} where
  pub drop_one : (h : List A) (n : ℕ) → n < length h → (x : A) × (drop n h ≡ x ∷ drop (suc n) h)
  drop_one [] n l = absurd (not-suc-le-zero l)
  drop_one (x ∷ xs) zero l = (x, refl)
  drop_one (x ∷ xs) (suc n) l = drop_one xs n (le_of_suc-le-suc l)

  pub length_snoc : (h : List A) (x : A) → length (h ++ (x ∷ [])) ≡ suc (length h)
  length_snoc [] x = refl
  length_snoc (y ∷ ys) x = ap suc (length_snoc ys x)

  -- a list that is not empty is one with an element more
  pub as_snoc : (h : List A) → 0 < length h → (ys : List A) × (y : A) × (h ≡ ys ++ (y ∷ []))
  as_snoc [] l = absurd (not-suc-le-zero l)
  as_snoc (x ∷ []) l = ([], x, refl)
  as_snoc (x ∷ y ∷ ys) l =
      let r = as_snoc (y ∷ ys) (omega arith) in (x ∷ r.0, r.1, ap {B = List A} (λ zs. x ∷ zs) r.2)

  pub without_snoc : (h : List A) (x : A) → without_last (h ++ (x ∷ [])) ≡ h
  without_snoc h x = ap (λ n. take (pred n) (h ++ (x ∷ []))) (length_snoc h x) ∙ take-append_seam h (x ∷ [])

  pub length_without : (h : List A) → length (without_last h) ≡ pred (length h)
  length_without h = length-take-le (pred (length h)) h (omega arith)

  pub drop_without : (h : List A) (n : ℕ) → n < length h → drop n (without_last h) ≡ without_last (drop n h)
  drop_without h n l =
      let r = as_snoc h (omega arith) in
      let k : n ≤ length r.0 = omega (arith, ap length r.2, length_snoc r.0 r.1) in
      ap (drop n) (ap without_last r.2 ∙ without_snoc r.0 r.1)
      ∙ sym
      (ap (λ zs. without_last (drop n zs)) r.2
      ∙ ap without_last (drop-append-le n r.0 (r.1 ∷ []) k)
      ∙ without_snoc (drop n r.0) r.1)

  module _ (f : A → Bool) where
    pub ends_snoc : (h : List A) (x : A) → ends_in f (h ++ (x ∷ [])) ≡ f x
    unfolding ends_in
    ends_snoc [] x = refl
    ends_snoc (y ∷ []) x = refl
    ends_snoc (y ∷ z ∷ zs) x = ends_snoc (z ∷ zs) x

    pub ends_some : (h : List A) → ends_in f h ≡ true → 0 < length h
    unfolding ends_in
    ends_some [] e = let z : ◌≡◌ {A = ℕ} 0 1 = cc in omega arith
    ends_some (x ∷ xs) e = omega arith

    -- an end of a list that is not empty ends as the list does
    pub ends_drop : (h : List A) (n : ℕ) → n < length h → ends_in f (drop n h) ≡ ends_in f h
    unfolding ends_in
    ends_drop [] n l = absurd (not-suc-le-zero l)
    ends_drop (x ∷ xs) zero l = refl
    ends_drop (x ∷ []) (suc n) l = absurd (omega arith)
    ends_drop (x ∷ y ∷ ys) (suc n) l = ends_drop (y ∷ ys) n (le_of_suc-le-suc l)
