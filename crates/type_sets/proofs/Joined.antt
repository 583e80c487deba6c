-- Masks joined over a run: their bits, what they are below, and two joins beside each other.
use Prim.Native.Nat.{ℕ, zero, suc, ◌+◌, ◌^◌, ◌<◌}
use native.Mathlib.Omega.{arith}
use native.Mathlib.Nat.{zero-add, add-zero}
use borrow.Author.Tests.{lt-ltb}
use native.Mathlib.Numerals.{add-one}
use mathlib.Core.List.{List, [], ◌∷◌, ◌++◌}
use Rattle.std.specs.List.{fold, range_with_len}
use Rattle.std.proofs.lemmas.List.Sums.{fold_push}
use mathlib.Core.Path.{◌≡◌, refl, sym, ap, ap₂, ◌∙◌}
use mathlib.Core.Bool.{Bool, ◌&&◌, ◌||◌}
use lib.Bits.{bit_or, or_lt}
use lib.Dec.{ltb}
use lib.Pow.{pow_pos}
use Rattle.words.specs.Runs.{every}
use Rattle.words.proofs.Zeros.{or_below}
use Rattle.model.specs.Modifiers.{bit}
use Rattle.modifiers.proofs.Digits.{bit_none, bit_or_lem}
use Rattle.types.specs.Types.{any_below}
use Rattle.type_sets.specs.Scan.{masks_joined}

one_more : (s n : ℕ) → range_with_len s (suc n) ≡ range_with_len s n ++ ((s + n) ∷ [])
one_more s zero = rw add-zero
one_more s (suc n) =
    let e : s + 1 + n ≡ s + suc n = omega arith in
    rw (← e) (ap (λ (xs : List ℕ). s ∷ xs) (one_more (s + 1) n))

module _ (f : ℕ → ℕ) (s : ℕ) where
  pub joined_none : 0 ≡ masks_joined f s 0
  unfolding masks_joined
  joined_none = refl

  joined_suc : (n : ℕ) → masks_joined f s (suc n) ≡ bit_or (masks_joined f s n) (f (s + n))
  unfolding masks_joined
  joined_suc n =
      ap (fold (λ (joined i : ℕ). bit_or joined (f i)) 0) (one_more s n)
      ∙ fold_push (λ (joined i : ℕ). bit_or joined (f i)) 0 (range_with_len s n) (s + n)

  pub joined_more : (n : ℕ) → masks_joined f s (n + 1) ≡ bit_or (masks_joined f s n) (f (s + n))
  joined_more n = rw add-one (joined_suc n)

  pub joined_below : (w n : ℕ) → ((i : ℕ) → i < n → f (s + i) < 2 ^ w) → masks_joined f s n < 2 ^ w
  joined_below w zero h = rw (← joined_none) (pow_pos w)
  joined_below w (suc n) h =
      rw joined_suc (or_lt w (masks_joined f s n) (f (s + n)) (joined_below w n (λ i b. h i (omega arith))) (h n (omega arith)))

-- a bit is there if one of the first n has it
pub bit_joined : (f : ℕ → ℕ) (k n : ℕ) → bit k (masks_joined f 0 n) ≡ any_below (λ i. bit k (f i)) n
unfolding any_below
bit_joined f k zero = rw (← joined_none f 0) (bit_none k)
bit_joined f k (suc n) =
    ap (bit k) (joined_suc f 0 n)
    ∙ bit_or_lem k (masks_joined f 0 n) (f (0 + n))
    ∙ ap₂ ◌||◌ (bit_joined f k n) (ap (λ (i : ℕ). bit k (f i)) (zero-add n))

-- ---- Two joins

-- of numbers that are the same one by one
pub joined_same : (f g : ℕ → ℕ) (s n : ℕ) → ((i : ℕ) → i < n → f (s + i) ≡ g (s + i)) → masks_joined f s n ≡ masks_joined g s n
joined_same f g s zero e = sym (joined_none f s) ∙ joined_none g s
joined_same f g s (suc n) e = rw (joined_suc f s n, joined_suc g s n) (ap₂ bit_or (joined_same f g s n (λ i h. e i (omega arith))) (e n (omega arith)))

-- of what a function that keeps joins makes of them
pub joined_map : (h : ℕ → ℕ) → h 0 ≡ 0 → ((x y : ℕ) → h (bit_or x y) ≡ bit_or (h x) (h y))
    → (f : ℕ → ℕ) (s n : ℕ) → h (masks_joined f s n) ≡ masks_joined (λ i. h (f i)) s n
joined_map h none keeps f s zero = ap h (sym (joined_none f s)) ∙ none ∙ joined_none (λ i. h (f i)) s
joined_map h none keeps f s (suc n) = rw (joined_suc f s n, joined_suc (λ i. h (f i)) s n) (keeps (masks_joined f s n) (f (s + n)) ∙ ap (λ (x : ℕ). bit_or x (h (f (s + n)))) (joined_map h none keeps f s n))

-- a join is below a power of two where each of the numbers is
pub joined_each : (f : ℕ → ℕ) (s k n : ℕ) → ltb (masks_joined f s n) (2 ^ k) ≡ every (λ i. ltb (f i) (2 ^ k)) s n
unfolding every
joined_each f s k zero = rw (← joined_none f s) (lt-ltb 0 (2 ^ k) (pow_pos k))
joined_each f s k (suc n) =
    rw joined_suc
    (or_below k (masks_joined f s n) (f (s + n)) ∙ ap (λ (b : Bool). b && ltb (f (s + n)) (2 ^ k)) (joined_each f s k n))
