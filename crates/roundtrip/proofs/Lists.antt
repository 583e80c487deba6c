-- Laws of the tests of lists.
use Prim.Native.Nat.{ℕ}
use mathlib.Core.Path.{◌≡◌, refl, sym, ap, ap₂, ◌∙◌}
use mathlib.Core.Bool.{Bool, true, false, cond, ◌&&◌, ◌||◌, false≢true}
use mathlib.Core.List.{List, [], ◌∷◌, ◌++◌}
use lib.Dec.{eqb}
use borrow.Author.Tests.{eqb-true}
use Rattle.model.specs.Lists.{any, all, those}
use Rattle.modifiers.proofs.Below.{both_left, both_right}
use Rattle.grammar.specs.Tokens.{begins_with, is_some}

pub or_left : (a b : Bool) → (a || b) ≡ false → a ≡ false
or_left true b e = e
or_left false b e = refl

pub or_right : (a b : Bool) → (a || b) ≡ false → b ≡ false
or_right true b e = absurd (false≢true (sym e))
or_right false b e = e

pub either : {A : Type 0} (a b : Bool) → (a || b) ≡ true → (a ≡ true → A) → (b ≡ true → A) → A
either true b e f g = f refl
either false b e f g = g e

-- split on a test, the equation kept
pub choose : {A : Type 0} (b : Bool) → (b ≡ true → A) → (b ≡ false → A) → A
choose true f g = f refl
choose false f g = g refl

module _ {A : Type 0} where
  pub all_append : (test : A → Bool) (xs ys : List A) → all test xs ≡ true → all test ys ≡ true → all test (xs ++ ys) ≡ true
  all_append test [] ys p q = q
  all_append test (x ∷ xs) ys p q =
      ap₂ ◌&&◌ (both_left (test x) (all test xs) p) (all_append test xs ys (both_right (test x) (all test xs) p) q)

  pub all_left : (test : A → Bool) (xs ys : List A) → all test (xs ++ ys) ≡ true → all test xs ≡ true
  all_left test [] ys p = refl
  all_left test (x ∷ xs) ys p =
      ap₂ ◌&&◌ (both_left (test x) (all test (xs ++ ys)) p) (all_left test xs ys (both_right (test x) (all test (xs ++ ys)) p))

  pub all_right : (test : A → Bool) (xs ys : List A) → all test (xs ++ ys) ≡ true → all test ys ≡ true
  all_right test [] ys p = p
  all_right test (x ∷ xs) ys p = all_right test xs ys (both_right (test x) (all test (xs ++ ys)) p)

  pub all_mono : (f g : A → Bool) → ((x : A) → f x ≡ true → g x ≡ true) → (xs : List A) → all f xs ≡ true → all g xs ≡ true
  all_mono f g h [] p = refl
  all_mono f g h (x ∷ xs) p =
      ap₂ ◌&&◌ (h x (both_left (f x) (all f xs) p)) (all_mono f g h xs (both_right (f x) (all f xs) p))

  pub all_those : (test keep : A → Bool) (xs : List A) → all test xs ≡ true → all test (those keep xs) ≡ true
  all_those test keep [] p = refl
  all_those test keep (x ∷ xs) p = go (keep x) (all_those test keep xs (both_right (test x) (all test xs) p))
    where
      go : (k : Bool) → all test (those keep xs) ≡ true → all test (cond k (x ∷ those keep xs) (those keep xs)) ≡ true
      go true q = ap₂ ◌&&◌ (both_left (test x) (all test xs) p) q
      go false q = q

  pub any_append : (test : A → Bool) (xs ys : List A) → any test (xs ++ ys) ≡ (any test xs || any test ys)
  any_append test [] ys = refl
  any_append test (x ∷ xs) ys = ap (λ (b : Bool). test x || b) (any_append test xs ys) ∙ sym (or_assoc (test x) (any test xs) (any test ys))
    where
      or_assoc : (a b c : Bool) → ((a || b) || c) ≡ (a || (b || c))
      or_assoc true b c = refl
      or_assoc false b c = refl

  pub any_same : (f g : A → Bool) → ((x : A) → f x ≡ g x) → (xs : List A) → any f xs ≡ any g xs
  any_same f g h [] = refl
  any_same f g h (x ∷ xs) = ap₂ ◌||◌ (h x) (any_same f g h xs)

  pub any_those : (test keep : A → Bool) (xs : List A) → any test (those keep xs) ≡ any (λ x. keep x && test x) xs
  any_those test keep [] = refl
  any_those test keep (x ∷ xs) = go (keep x) (any_those test keep xs)
    where
      go : (k : Bool) → any test (those keep xs) ≡ any (λ y. keep y && test y) xs
          → any test (cond k (x ∷ those keep xs) (those keep xs)) ≡ ((k && test x) || any (λ y. keep y && test y) xs)
      go true q = ap (λ (b : Bool). test x || b) q
      go false q = q

  pub some_append : (xs : List A) (x : A) → is_some (xs ++ (x ∷ [])) ≡ true
  some_append [] x = refl
  some_append (y ∷ ys) x = refl

-- the number k of a list, where it passes
pub any_at : (h : ℕ → Bool) (k : ℕ) (xs : List ℕ) → any (λ j. h j && eqb j k) xs ≡ (h k && any (λ j. eqb j k) xs)
any_at h k [] = sym (no (h k))
  where
    no : (b : Bool) → (b && false) ≡ false
    no true = refl
    no false = refl
any_at h k (x ∷ xs) =
    choose (eqb x k)
    (λ q. rw (q, any_at h k xs, eqb-true x k q) (one (h k) (any (λ j. eqb j k) xs)))
    (λ q. rw (q, any_at h k xs) (other (h x) (h k) (any (λ j. eqb j k) xs)))
  where
    one : (a b : Bool) → (a && true || a && b) ≡ (a && (true || b))
    one true b = refl
    one false b = refl

    other : (c a b : Bool) → (c && false || a && b) ≡ (a && (false || b))
    other true a b = refl
    other false a b = refl

-- a byte at the front of bytes that all pass one test and then bytes that do not begin so
pub begins_not : (kind test : ℕ → Bool) → ((b : ℕ) → kind b ≡ true → test b ≡ false) → (w r : List ℕ) → all kind w ≡ true
    → begins_with test r ≡ false → begins_with test (w ++ r) ≡ false
begins_not kind test h [] r p q = q
begins_not kind test h (b ∷ w) r p q = h b (both_left (kind b) (all kind w) p)
