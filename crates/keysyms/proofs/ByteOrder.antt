-- Laws of byte order. Assumes nothing.
use Prim.Native.Nat.{ℕ, suc, ◌≤◌, ◌<◌}
use native.Mathlib.Omega.{arith}
use mathlib.Core.Path.{◌≡◌, refl, sym, ◌∙◌}
use mathlib.Core.Bool.{Bool, true, false, false≢true, cond}
use mathlib.Core.List.{List, [], ◌∷◌}
use lib.Dec.{eqb, ltb}
use lib.ListN.{length, get_or, drop, drop_of_length-le}
use lib.Seq.{drop-cons}
use borrow.Author.Tests.{eqb-true, eqb-false, eq-eqb, ne_eqb, ltb-true, ltb-false, lt-ltb}
use Rattle.model.specs.Lists.{is_before}

-- no word stands before itself
pub before_self : (a : List ℕ) → is_before a a ≡ false
unfolding is_before
before_self [] = refl
before_self (x ∷ xs) = rw (eq-eqb x x refl) (before_self xs)

-- of two words one stands before the other, or they are the same
pub before_neither : (a b : List ℕ) → is_before a b ≡ false → is_before b a ≡ false → a ≡ b
unfolding is_before
before_neither [] [] p q = refl
before_neither [] (y ∷ ys) p q = absurd (false≢true (sym p))
before_neither (x ∷ xs) [] p q = absurd (false≢true (sym q))
before_neither (x ∷ xs) (y ∷ ys) p q = go (eqb x y) refl (eqb y x) refl (before_neither xs ys)
  where
    go : (s : Bool) → eqb x y ≡ s → (t : Bool) → eqb y x ≡ t → (is_before xs ys ≡ false → is_before ys xs ≡ false → xs ≡ ys)
        → x ∷ xs ≡ y ∷ ys
    go true e true f ih =
        let i : x ≡ y = eqb-true x y e in
        let j : xs ≡ ys = ih (sym (rw e) ∙ p) (sym (rw f) ∙ q) in
        cc
    go true e false f ih = absurd (eqb-false y x f (sym (eqb-true x y e)))
    go false e true f ih = absurd (eqb-false x y e (sym (eqb-true y x f)))
    go false e false f ih =
        let u : ltb x y ≡ false = sym (rw e) ∙ p in
        let v : ltb y x ≡ false = sym (rw f) ∙ q in
        absurd (eqb-false x y e (omega (arith, ltb-false x y u, ltb-false y x v)))

-- byte order goes on from one word over another to a third
pub before_over : (a b c : List ℕ) → is_before a b ≡ true → is_before b c ≡ true → is_before a c ≡ true
unfolding is_before
before_over [] [] c p q = absurd (false≢true p)
before_over [] (y ∷ ys) [] p q = absurd (false≢true q)
before_over [] (y ∷ ys) (z ∷ zs) p q = refl
before_over (x ∷ xs) [] c p q = absurd (false≢true p)
before_over (x ∷ xs) (y ∷ ys) [] p q = absurd (false≢true q)
before_over (x ∷ xs) (y ∷ ys) (z ∷ zs) p q = go (eqb x y) refl (eqb y z) refl (before_over xs ys zs)
  where
    go : (s : Bool) → eqb x y ≡ s → (t : Bool) → eqb y z ≡ t
        → (is_before xs ys ≡ true → is_before ys zs ≡ true → is_before xs zs ≡ true)
        → cond (eqb x z) (is_before xs zs) (ltb x z) ≡ true
    go true e true f ih =
        let i : eqb x z ≡ true = eq-eqb x z (eqb-true x y e ∙ eqb-true y z f) in
        rw i (ih (sym (rw e) ∙ p) (sym (rw f) ∙ q))
    go true e false f ih =
        let i : x ≡ y = eqb-true x y e in
        let v : ltb y z ≡ true = sym (rw f) ∙ q in
        rw i (rw f v)
    go false e true f ih =
        let i : y ≡ z = eqb-true y z f in
        let u : ltb x y ≡ true = sym (rw e) ∙ p in
        rw (← i) (rw e u)
    go false e false f ih =
        let u : ltb x y ≡ true = sym (rw e) ∙ p in
        let v : ltb y z ≡ true = sym (rw f) ∙ q in
        let w : x < z = omega (arith, ltb-true x y u, ltb-true y z v) in
        rw (ne_eqb x z (λ g. omega arith), lt-ltb x z w)

-- ---- One byte after the other

before_empty : (a : List ℕ) → is_before a [] ≡ false
unfolding is_before
before_empty [] = refl
before_empty (x ∷ xs) = refl

module _ (a b : List ℕ) (i : ℕ) where
  pub before_short : length a ≤ i → i < length b → is_before (drop i a) (drop i b) ≡ true
  unfolding is_before
  before_short h k = rw (drop_of_length-le a h, drop-cons b i 0 k)

  pub before_differ : i < length a → i < length b → (get_or a i 0 ≡ get_or b i 0 → ⊥)
      → is_before (drop i a) (drop i b) ≡ ltb (get_or a i 0) (get_or b i 0)
  unfolding is_before
  before_differ h k n = rw (drop-cons a i 0 h, drop-cons b i 0 k, ne_eqb (get_or a i 0) (get_or b i 0) n)

  pub before_same : i < length a → i < length b → get_or a i 0 ≡ get_or b i 0
      → is_before (drop i a) (drop i b) ≡ is_before (drop (suc i) a) (drop (suc i) b)
  unfolding is_before
  before_same h k e = rw (drop-cons a i 0 h, drop-cons b i 0 k, eq-eqb (get_or a i 0) (get_or b i 0) e)

  pub before_long : length b ≤ i → is_before (drop i a) (drop i b) ≡ false
  before_long h = rw (drop_of_length-le b h) (before_empty (drop i a))
