-- Laws of zeros, and of the lengths of bytes that are stored to.
use Prim.Native.Nat.{ℕ, zero, suc, ◌+◌, ◌≤◌, ◌<◌}
use native.Mathlib.Omega.{arith}
use native.Mathlib.Numerals.{add-one}
use mathlib.Core.Path.{◌≡◌, refl, sym, ap, ◌∙◌}
use mathlib.Core.List.{List, [], ◌∷◌, ◌++◌}
use lib.ListN.{length, drop, get_or, set, length-append, length-set, length-drop, length-replicate, replicate-append-replicate}
use lib.Seq.{drop-cons, set_at, append_snoc}
use Rattle.words.specs.Words.{put_word, zeros, cleared}

pub length_zeros : (n : ℕ) → length (zeros n) ≡ n
unfolding zeros
length_zeros n = length-replicate n 0

pub zeros_add : (n m : ℕ) → zeros n ++ zeros m ≡ zeros (n + m)
unfolding zeros
zeros_add n m = replicate-append-replicate n m 0

zeros_one : zeros 1 ≡ 0 ∷ []
unfolding zeros
zeros_one = refl

pub get_d_zeros : (n i : ℕ) → get_or (zeros n) i 0 ≡ 0
unfolding zeros
get_d_zeros zero i = refl
get_d_zeros (suc n) zero = refl
get_d_zeros (suc n) (suc i) = get_d_zeros n i

pub length_cleared : (n : ℕ) (l : List ℕ) → n ≤ length l → length (cleared n l) ≡ length l
unfolding cleared
length_cleared n l h = simp (length-append, length_zeros, length-drop) (omega arith)

pub cleared_none : (l : List ℕ) → cleared 0 l ≡ l
unfolding cleared zeros
cleared_none l = refl

-- one more byte cleared
pub cleared_more : (l : List ℕ) (i : ℕ) → i < length l → set (cleared i l) i 0 ≡ cleared (i + 1) l
unfolding cleared
cleared_more l i h =
    ap (λ (r : List ℕ). set (zeros i ++ r) i 0) (drop-cons l i 0 h)
    ∙ set_at (zeros i) (get_or l i 0) (drop (suc i) l) 0 i (length_zeros i)
    ∙ sym (rw (← zeros_add i 1, zeros_one, append_snoc, add-one))

pub length_put : (l : List ℕ) (k w : ℕ) → length (put_word l k w) ≡ length l
unfolding put_word
length_put l k w = simp length-set
