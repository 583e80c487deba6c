-- Two short words, compared byte by byte.
use Prim.Native.Nat.{ℕ, suc}
use native.Mathlib.Omega.{arith}
use mathlib.Core.Path.{◌≡◌, refl, sym}
use mathlib.Core.List.{List, [], ◌∷◌}
use mathlib.Core.Bool.{Bool, true, false, ◌&&◌, and-true, and-false}
use lib.ListN.{length, get_or}
use lib.Dec.{eqb}
use borrow.Author.Tests.{ne_eqb}
use Rattle.model.specs.Lists.{same}

and3 : (p q r : Bool) → p && q && r ≡ p && (q && (r && true))
and3 true true r = sym (and-true r)
and3 true false r = refl
and3 false q r = refl

and4 : (p q r s : Bool) → p && q && r && s ≡ p && (q && (r && (s && true)))
and4 true true true s = sym (and-true s)
and4 true true false s = refl
and4 true false r s = refl
and4 false q r s = refl

pub word_of_three : (w : List ℕ) (a b c : ℕ)
    → eqb (length w) 3 && eqb (get_or w 0 0) a && eqb (get_or w 1 0) b && eqb (get_or w 2 0) c ≡ same w (a ∷ b ∷ c ∷ [])
word_of_three [] a b c = refl
word_of_three (x ∷ []) a b c = sym (and-false (eqb x a))
word_of_three (x ∷ y ∷ []) a b c = simp and-false
word_of_three (x ∷ y ∷ z ∷ []) a b c = and3 (eqb x a) (eqb y b) (eqb z c)
word_of_three (x ∷ y ∷ z ∷ u ∷ ws) a b c =
    let k : eqb (suc (suc (suc (suc (length ws))))) 3 ≡ false = ne_eqb (suc (suc (suc (suc (length ws))))) 3 (λ e. omega arith) in
    simp (k, and-false)

pub word_of_four : (w : List ℕ) (a b c d : ℕ)
    → eqb (length w) 4 && eqb (get_or w 0 0) a && eqb (get_or w 1 0) b && eqb (get_or w 2 0) c && eqb (get_or w 3 0) d ≡ same w (a ∷ b ∷ c ∷ d ∷ [])
word_of_four [] a b c d = refl
word_of_four (x ∷ []) a b c d = sym (and-false (eqb x a))
word_of_four (x ∷ y ∷ []) a b c d = simp and-false
word_of_four (x ∷ y ∷ z ∷ []) a b c d = simp and-false
word_of_four (x ∷ y ∷ z ∷ u ∷ []) a b c d = and4 (eqb x a) (eqb y b) (eqb z c) (eqb u d)
word_of_four (x ∷ y ∷ z ∷ u ∷ v ∷ ws) a b c d =
    let k : eqb (suc (suc (suc (suc (suc (length ws)))))) 4 ≡ false =
    ne_eqb (suc (suc (suc (suc (suc (length ws)))))) 4 (λ e. omega arith) in
    simp (k, and-false)
