-- Some entry of a list passes a test: one entry after the other.
use Prim.Native.Nat.{ℕ, zero, suc, ◌+◌, ◌<◌}
use native.Mathlib.Omega.{arith}
use native.Mathlib.Numerals.{add-one}
use Rattle.std.specs.List.{list_any}
use mathlib.Core.Path.{◌≡◌, refl, sym, ap, ◌∙◌}
use mathlib.Core.Bool.{Bool, true, false, ◌||◌}
use mathlib.Core.List.{List, [], ◌∷◌}
use lib.ListN.{length, get_or, take, drop, drop_of_length-le}
use lib.Seq.{drop-cons}
use Rattle.std.proofs.lemmas.Bool.{or_parts}
use Rattle.model.specs.Lists.{any}

or_assoc : (a b c : Bool) → a || (b || c) ≡ (a || b) || c
or_assoc true b c = refl
or_assoc false b c = refl

pub or_none : (a : Bool) → a || false ≡ a
or_none true = refl
or_none false = refl

module _ (test : ℕ → Bool) (l : List ℕ) where
  -- one entry more
  pub any_next : (seen : Bool) (i : ℕ) → i < length l
      → (seen || test (get_or l i 0)) || any test (drop (i + 1) l) ≡ seen || any test (drop i l)
  any_next seen i h =
      rw (add-one, drop-cons l i 0 h) (sym (or_assoc seen (test (get_or l i 0)) (any test (drop (suc i) l))))

  -- no entry is left
  pub any_end : (seen : Bool) (i : ℕ) → length l ≡ i → any test l ≡ seen || any test (drop i l) → seen ≡ any test l
  any_end seen i h e =
      let d : drop i l ≡ [] = drop_of_length-le l {i = i} (omega arith) in
      sym (e ∙ ap (λ (r : List ℕ). seen || any test r) d ∙ or_none seen)

-- none passes, so this one does not
pub none_passes : (test : ℕ → Bool) (l : List ℕ) → any test l ≡ false → (i : ℕ) → i < length l → test (get_or l i 0) ≡ false
none_passes test [] e i h = absurd (omega arith)
none_passes test (x ∷ xs) e zero h = (or_parts (test x) (any test xs) e).0
none_passes test (x ∷ xs) e (suc i) h = none_passes test xs (or_parts (test x) (any test xs) e).1 i (omega arith)

-- std's word for it
pub any_list : (test : ℕ → Bool) (l : List ℕ) → any test l ≡ list_any test l
any_list test [] = refl
any_list test (x ∷ xs) = ap (λ (b : Bool). test x || b) (any_list test xs)

-- where none passes, none of the first n does, and none after them
pub none_before : (test : ℕ → Bool) (l : List ℕ) (n : ℕ) → any test l ≡ false → any test (take n l) ≡ false
none_before test l zero e = refl
none_before test [] (suc n) e = refl
none_before test (x ∷ xs) (suc n) e =
    let o = or_parts (test x) (any test xs) e in
    rw (o.0, none_before test xs n o.1)

pub none_after : (test : ℕ → Bool) (l : List ℕ) (n : ℕ) → any test l ≡ false → any test (drop n l) ≡ false
none_after test l zero e = e
none_after test [] (suc n) e = refl
none_after test (x ∷ xs) (suc n) e = none_after test xs n (or_parts (test x) (any test xs) e).1
