-- Lists of numbers of heard events, each of which passes a test.
use Prim.Native.Nat.{ℕ, zero, suc, ◌+◌, ◌-◌, ◌≤◌}
use native.Mathlib.Omega.{arith}
use mathlib.Core.Path.{◌≡◌, refl, ap, ◌∙◌}
use mathlib.Core.List.Memᴰ
use mathlib.Core.List.{List, [], ◌∷◌, ◌++◌, Memᴰ}
use lib.ListN.{take, drop}
use lib.Seq.{drop-drop}

pub data Every (P : ℕ → Type 0) : List ℕ → Type 0 where
  empty : Every P []
  more : {x : ℕ} {xs : List ℕ} → P x → Every P xs → Every P (x ∷ xs)

module _ (P : ℕ → Type 0) where
  pub every_snoc : {xs : List ℕ} {x : ℕ} → Every P xs → P x → Every P (xs ++ (x ∷ []))
  every_snoc Every.empty p = Every.more p Every.empty
  every_snoc (Every.more q e) p = Every.more q (every_snoc e p)

  pub every_drop : (n : ℕ) {xs : List ℕ} → Every P xs → Every P (drop n xs)
  every_drop zero e = e
  every_drop (suc n) Every.empty = Every.empty
  every_drop (suc n) (Every.more p e) = every_drop n e

  pub every_take : (n : ℕ) {xs : List ℕ} → Every P xs → Every P (take n xs)
  every_take zero e = Every.empty
  every_take (suc n) Every.empty = Every.empty
  every_take (suc n) (Every.more p e) = Every.more p (every_take n e)

  pub every_mono : (Q : ℕ → Type 0) → ((n : ℕ) → P n → Q n) → {xs : List ℕ} → Every P xs → Every Q xs
  every_mono Q f Every.empty = Every.empty
  every_mono Q f (Every.more p e) = Every.more (f _ p) (every_mono Q f e)

  pub every_in : {n : ℕ} {xs : List ℕ} → Every P xs → Memᴰ n xs → P n
  every_in Every.empty m = absurd (Memᴰ.not-nil m)
  every_in (Every.more p e) (Memᴰ.head q) = rw q p
  every_in (Every.more p e) (Memᴰ.tail m) = every_in e m

  -- of what lies after a place, what lies after a later one
  pub every_after : (n m : ℕ) (xs : List ℕ) → n ≤ m → Every P (drop n xs) → Every P (drop m xs)
  every_after n m xs l e =
      let q : drop (m - n) (drop n xs) ≡ drop m xs
      = drop-drop (m - n) n xs ∙ ap (λ i. drop i xs) (let z : n + (m - n) ≡ m = omega arith in z) in
      rw (← q) (every_drop (m - n) e)

pub every_self : (xs : List ℕ) → Every (λ n. Memᴰ n xs) xs
every_self [] = Every.empty
every_self (x ∷ xs) =
    Every.more (Memᴰ.head refl)
    (every_mono (λ n. Memᴰ n xs) (λ n. Memᴰ n (x ∷ xs)) (λ n m. Memᴰ.tail m) (every_self xs))
