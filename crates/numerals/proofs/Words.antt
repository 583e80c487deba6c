-- Laws of `same`, one byte at a time, in the code's terms.
use Prim.Native.Nat.{ℕ, suc, ◌+◌, ◌≤◌, ◌<◌}
use native.Mathlib.Numerals.{add-one}
use mathlib.Core.Path.{◌≡◌, refl, ap}
use mathlib.Core.List.{List, [], ◌∷◌}
use mathlib.Core.Bool.{true, false, and-false}
use lib.ListN.{length, drop, get_or, drop_of_length-le}
use lib.Seq.{drop-cons}
use borrow.Author.Tests.{eq-eqb, ne_eqb}
use Rattle.model.specs.Lists.{same}

-- the tail at i, one element taken off
pub drop_at : (l : List ℕ) (i : ℕ) → i < length l → drop i l ≡ get_or l i 0 ∷ drop (i + 1) l
drop_at l i h = rw (add-one, drop-cons l i 0)

module _ (w m : List ℕ) (i : ℕ) where
  pub same_more : i < length w → i < length m → get_or w i 0 ≡ get_or m i 0
      → same (drop i w) (drop i m) ≡ same (drop (i + 1) w) (drop (i + 1) m)
  same_more h k e = rw (drop_at w i h, drop_at m i k, eq-eqb _ _ e)

  pub same_stop : i < length w → i < length m → (get_or w i 0 ≡ get_or m i 0 → ⊥) → same (drop i w) (drop i m) ≡ false
  same_stop h k e = rw (drop_at w i h, drop_at m i k, ne_eqb _ _ e)

  pub same_end : length w ≤ i → length m ≤ i → same (drop i w) (drop i m) ≡ true
  same_end h k = rw (drop_of_length-le w h, drop_of_length-le m k)

-- words of two lengths differ
pub same_length : (w m : List ℕ) → (length w ≡ length m → ⊥) → same w m ≡ false
same_length [] [] h = absurd (h refl)
same_length [] (y ∷ ys) h = refl
same_length (x ∷ xs) [] h = refl
same_length (x ∷ xs) (y ∷ ys) h = rw (same_length xs ys (λ e. h (ap suc e)), and-false)
