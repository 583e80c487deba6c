-- Elements of a list by their places.
use Prim.Native.Nat.{ℕ, zero, suc, ◌≤◌, ◌<◌}
use native.Mathlib.Omega.{arith}
use mathlib.Core.Path.{◌≡◌, refl}
use mathlib.Core.Bool.{Bool, true, false}
use Rattle.std.specs.Prelude.{Option, None, Some}
use mathlib.Core.List.{List, [], ◌∷◌, ◌++◌, map}
use lib.ListN.{length}
use Rattle.model.specs.Lists.{those}
use Rattle.model.specs.Asking.{at}

pub none_some : {A : Type 0} {x : A} → ◌≡◌ {A = Option A} None (Some x) → ⊥
none_some e = let z : ◌≡◌ {A = ℕ} 0 1 = cc in omega arith

pub same_some : {A : Type 0} {x y : A} → ◌≡◌ {A = Option A} (Some x) (Some y) → x ≡ y
same_some e = cc

module _ {A : Type 0} where
  -- an element stands at some place
  pub record Among (xs : List A) (x : A) : Type 0 where
    pub place : ℕ
    pub there : at xs place ≡ Some x

  pub at_there : (xs : List A) (i : ℕ) → i < length xs → (x : A) × (at xs i ≡ Some x)
  at_there [] i h = absurd (omega arith)
  at_there (x ∷ xs) zero h = (x, refl)
  at_there (x ∷ xs) (suc i) h = at_there xs i (omega arith)

  pub at_past : (xs : List A) (i : ℕ) → length xs ≤ i → at xs i ≡ None
  at_past [] i h = refl
  at_past (x ∷ xs) zero h = absurd (omega arith)
  at_past (x ∷ xs) (suc i) h = at_past xs i (omega arith)

  further : {x y : A} {xs : List A} → Among xs y → Among (x ∷ xs) y
  further a = record { place = suc a.place; there = a.there }

  -- of two lists, one has it
  pub data Either (xs ys : List A) (x : A) : Type 0 where
    left : Among xs x → Either xs ys x
    right : Among ys x → Either xs ys x

  more_left : {x y : A} {xs ys : List A} → Either xs ys y → Either (x ∷ xs) ys y
  more_left (Either.left a) = Either.left (further a)
  more_left (Either.right a) = Either.right a

  pub at_append : (xs ys : List A) (i : ℕ) (x : A) → at (xs ++ ys) i ≡ Some x → Either xs ys x
  at_append [] ys i x e = Either.right (record { place = i; there = e })
  at_append (y ∷ xs) ys zero x e = Either.left (record { place = zero; there = e })
  at_append (y ∷ xs) ys (suc i) x e = more_left (at_append xs ys i x e)

  pub at_those : (keep : A → Bool) (xs : List A) (i : ℕ) (x : A) → at (those keep xs) i ≡ Some x → Among xs x
  at_those keep [] i x e = absurd (none_some e)
  at_those keep (y ∷ xs) i x e = go (keep y) refl i e (λ j f. at_those keep xs j x f)
    where
      go : (b : Bool) → keep y ≡ b → (j : ℕ) → at (those keep (y ∷ xs)) j ≡ Some x
          → ((k : ℕ) → at (those keep xs) k ≡ Some x → Among xs x) → Among (y ∷ xs) x
      go true q zero f rest = record { place = zero; there = rw q at f }
      go true q (suc j) f rest = further (rest j (rw q at f))
      go false q j f rest = further (rest j (rw q at f))

module _ {A B : Type 0} (f : A → B) where
  pub at_map : (xs : List A) (i : ℕ) (x : A) → at xs i ≡ Some x → at (map f xs) i ≡ Some (f x)
  at_map [] i x e = absurd (none_some e)
  at_map (y ∷ xs) zero x e = let q : y ≡ x = same_some e in rw q
  at_map (y ∷ xs) (suc i) x e = at_map xs i x e

  pub at_mapped : (xs : List A) (i : ℕ) (y : B) → at (map f xs) i ≡ Some y → (x : A) × (at xs i ≡ Some x) × (y ≡ f x)
  at_mapped [] i y e = absurd (none_some e)
  at_mapped (x ∷ xs) zero y e = (x, refl, same_some (rw e))
  at_mapped (x ∷ xs) (suc i) y e = at_mapped xs i y e
