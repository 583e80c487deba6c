-- Tests on Booleans and lists: what follows from their answers.
use Prim.Native.Nat.{ℕ, suc}
use mathlib.Core.Path.{◌≡◌, refl, ap₂}
use mathlib.Core.Logic.{◌⊎◌, inl, inr}
use mathlib.Core.Bool.{Bool, true, false, cond, ◌&&◌, ◌||◌}
use Rattle.std.specs.Prelude.{Some}
use mathlib.Core.List.{List, [], ◌∷◌, Memᴰ}
use Rattle.model.specs.Lists.{any, all, earliest}

pub and_mono : (a b c : Bool) → (b ≡ true → c ≡ true) → a && b ≡ true → a && c ≡ true
and_mono true b c f h = f h
and_mono false b c f h = h

pub and_right : (a b : Bool) → a && b ≡ true → b ≡ true
and_right true b h = h
and_right false b h = let z : b ≡ true = cc in z

pub or_left : (a b : Bool) → a ≡ true → a || b ≡ true
or_left a b h = rw h

pub or_right : (a b : Bool) → b ≡ true → a || b ≡ true
or_right true b h = refl
or_right false b h = h

pub or_cases : (a b : Bool) → a || b ≡ true → (a ≡ true) ⊎ (b ≡ true)
or_cases true b h = inl h
or_cases false b h = inr h

pub or_no_left : (a b : Bool) → a || b ≡ false → a ≡ false
or_no_left true b h = h
or_no_left false b h = refl

pub or_no_right : (a b : Bool) → a || b ≡ false → b ≡ false
or_no_right true b h = let z : b ≡ false = cc in z
or_no_right false b h = h

or_mono : (a b c d : Bool) → (a ≡ true → c ≡ true) → (b ≡ true → d ≡ true) → a || b ≡ true → c || d ≡ true
or_mono true b c d f g h = rw (f refl)
or_mono false b true d f g h = refl
or_mono false b false d f g h = g h

module _ {A : Type 0} where
  pub any_mono : (f g : A → Bool) → ((x : A) → f x ≡ true → g x ≡ true) → (xs : List A) → any f xs ≡ true → any g xs ≡ true
  any_mono f g m [] h = h
  any_mono f g m (x ∷ xs) h = or_mono (f x) (any f xs) (g x) (any g xs) (m x) (any_mono f g m xs) h

  pub any_in : (f : A → Bool) {x : A} {xs : List A} → Memᴰ x xs → f x ≡ true → any f xs ≡ true
  any_in f (Memᴰ.head {xs = ys} e) h = or_left _ _ (rw e at h)
  any_in f (Memᴰ.tail {x = y} {xs = ys} m) h = or_right (f y) (any f ys) (any_in f m h)

  pub all_same : (f g : A → Bool) → ((x : A) → f x ≡ g x) → (xs : List A) → all f xs ≡ all g xs
  all_same f g s [] = refl
  all_same f g s (x ∷ xs) = ap₂ ◌&&◌ (s x) (all_same f g s xs)

  pub any_same : (f g : A → Bool) (xs : List A) → ((x : A) → Memᴰ x xs → f x ≡ g x) → any f xs ≡ any g xs
  any_same f g [] s = refl
  any_same f g (x ∷ xs) s = ap₂ ◌||◌ (s x (Memᴰ.head refl)) (any_same f g xs (λ y m. s y (Memᴰ.tail m)))

  pub earliest_same :
      (f g : A → Bool) (i : ℕ) (xs : List A) → ((x : A) → Memᴰ x xs → f x ≡ g x) → earliest f i xs ≡ earliest g i xs
  earliest_same f g i [] s = refl
  earliest_same f g i (x ∷ xs) s =
      ap₂ (λ b o. cond b (Some i) o) (s x (Memᴰ.head refl)) (earliest_same f g (suc i) xs (λ y m. s y (Memᴰ.tail m)))
