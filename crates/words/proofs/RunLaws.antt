-- Laws of tests, sums and lists over a run of numbers.
use Prim.Native.Nat.{ℕ, zero, suc, ◌+◌, ◌-◌, ◌*◌, ◌≤◌, ◌<◌}
use native.Mathlib.Omega.{arith}
use native.Mathlib.Numerals.{add-one}
use native.Mathlib.Nat.{zero-add, suc-add, add-zero, add-suc, suc-mul, mod-eq_of_lt}
use mathlib.Core.Path.{◌≡◌, refl, sym, ap, ◌∙◌}
use mathlib.Core.List.{List, [], ◌∷◌, ◌++◌, map}
use mathlib.Core.Bool.{Bool, true, false, ◌&&◌, and-true, and_assoc}
use lib.Dec.{eqb}
use lib.ListN.{length, get_or}
use lib.Seq.{ext_get_or}
use borrow.Author.Tests.{eqb-true, eqb-false}
use Rattle.words.specs.Words.{word_at}
use Rattle.words.specs.Runs.{every, total, run, low_at}
use Rattle.words.proofs.Bools.{and_left, and_right, and_both}

-- ---- Tests

pub every_more : (test : ℕ → Bool) (s n : ℕ) → every test s (n + 1) ≡ (every test s n && test (s + n))
unfolding every
every_more test s n = rw add-one

-- from number 0 on
pub every_next : (test : ℕ → Bool) (n : ℕ) → every test 0 (n + 1) ≡ (every test 0 n && test n)
every_next test n = every_more test 0 n ∙ rw zero-add

at_last : (test : ℕ → Bool) (s n i : ℕ) → test (s + n) ≡ true → (i < n → test (s + i) ≡ true) → i < suc n → test (s + i) ≡ true
at_last test s n i a b h = go (eqb i n) refl
  where
    go : (t : Bool) → eqb i n ≡ t → test (s + i) ≡ true
    go true q = rw (eqb-true i n q) a
    go false q = b (below (eqb-false i n q))
      where
        below : (i ≡ n → ⊥) → i < n
        below ne = omega arith

-- a test that passes at every number of a run passes at each
pub every_at : (test : ℕ → Bool) (s n i : ℕ) → every test s n ≡ true → i < n → test (s + i) ≡ true
unfolding every
every_at test s zero i e h = absurd (omega arith)
every_at test s (suc n) i e h =
    at_last test s n i (and_right (every test s n) (test (s + n)) e)
    (every_at test s n i (and_left (every test s n) (test (s + n)) e)) h

pub every_all : (test : ℕ → Bool) (s n : ℕ) → ((i : ℕ) → i < n → test (s + i) ≡ true) → every test s n ≡ true
unfolding every
every_all test s zero f = refl
every_all test s (suc n) f =
    and_both (every test s n) (test (s + n)) (every_all test s n (λ i h. f i (omega arith))) (f n (omega arith))

-- a test that passes over a run from 0 on passes over a part of it
pub every_part : (test : ℕ → Bool) (k n m : ℕ) → every test 0 m ≡ true → k + n ≤ m → every test k n ≡ true
every_part test k n m e h = every_all test k n (λ i b. rw zero-add at (every_at test 0 m (k + i) e (omega arith)))

pub every_same : (f g : ℕ → Bool) (s n : ℕ) → ((i : ℕ) → i < n → f (s + i) ≡ g (s + i)) → every f s n ≡ every g s n
unfolding every
every_same f g s zero e = refl
every_same f g s (suc n) e = rw (every_same f g s n (λ i h. e i (omega arith)), e n (omega arith))

-- a test over one run, and over another from a different start
pub every_shift : (f g : ℕ → Bool) (s r n : ℕ) → ((i : ℕ) → i < n → f (s + i) ≡ g (r + i)) → every f s n ≡ every g r n
unfolding every
every_shift f g s r zero e = refl
every_shift f g s r (suc n) e = rw (every_shift f g s r n (λ i h. e i (omega arith)), e n (omega arith))

pub every_add : (test : ℕ → Bool) (s n m : ℕ) → every test s (n + m) ≡ (every test s n && every test (s + n) m)
unfolding every
every_add test s n zero = rw add-zero (sym (and-true (every test s n)))
every_add test s n (suc m) =
    let e : s + (n + m) ≡ s + n + m = omega arith in
    rw (add-suc, every, every_add test s n m, e) (and_assoc (every test s n) (every test (s + n) m) (test (s + n + m)))

-- ---- Sums

pub total_more : (f : ℕ → ℕ) (s n : ℕ) → total f s (n + 1) ≡ total f s n + f (s + n)
unfolding total
total_more f s n = rw add-one

pub total_add : (f : ℕ → ℕ) (s n m : ℕ) → total f s (n + m) ≡ total f s n + total f (s + n) m
unfolding total
total_add f s n zero = rw add-zero (omega arith)
total_add f s n (suc m) =
    let e : s + (n + m) ≡ s + n + m = omega arith in
    rw (add-suc, total, e) (omega (arith, total_add f s n m))

pub total_first : (f : ℕ → ℕ) (s n : ℕ) → total f s (suc n) ≡ f s + total f (suc s) n
unfolding total
total_first f s zero = let e : s + 0 ≡ s = omega arith in rw e (omega arith)
total_first f s (suc n) =
    let e : s + suc n ≡ suc s + n = omega arith in
    rw e (omega (arith, total_first f s n))

pub total_same : (f g : ℕ → ℕ) (s r n : ℕ) → ((i : ℕ) → i < n → f (s + i) ≡ g (r + i)) → total f s n ≡ total g r n
unfolding total
total_same f g s r zero e = refl
total_same f g s r (suc n) e = rw (total_same f g s r n (λ i h. e i (omega arith)), e n (omega arith))

-- a part of a sum is at most the sum
pub total_part : (f : ℕ → ℕ) (s i n : ℕ) → i < n → total f s i + f (s + i) ≤ total f s n
total_part f s i n h =
    let e : n ≡ (i + 1) + (n - (i + 1)) = omega arith in
    rw e (omega (arith, total_add f s (i + 1) (n - (i + 1)), total_more f s i))

-- a sum of numbers that have a bound
pub total_bound : (f : ℕ → ℕ) (s n b : ℕ) → ((i : ℕ) → i < n → f (s + i) ≤ b) → total f s n ≤ n * b
unfolding total
total_bound f s zero b h = omega arith
total_bound f s (suc n) b h =
    let a = total_bound f s n b (λ i q. h i (omega arith)) in
    let c = h n (omega arith) in
    rw (suc-mul n b) (omega (arith, a, c))

-- numbers of at least 1
module _ (f : ℕ → ℕ) (s : ℕ) where
  total_ge : (n : ℕ) → ((i : ℕ) → i < n → 1 ≤ f (s + i)) → n ≤ total f s n
  unfolding total
  total_ge zero h = omega arith
  total_ge (suc n) h = let a = total_ge n (λ i q. h i (omega arith)) in let b = h n (omega arith) in omega arith

-- that sum to as many as there are, are all 1
pub all_ones : (f : ℕ → ℕ) (s n i : ℕ) → total f s n ≡ n → ((k : ℕ) → k < n → 1 ≤ f (s + k)) → i < n → f (s + i) ≡ 1
all_ones f s n i e h q =
    let split : n ≡ (i + 1) + (n - (i + 1)) = omega arith in
    let t : total f s n ≡ total f s (i + 1) + total f (s + (i + 1)) (n - (i + 1)) = ap (total f s) split ∙ total_add f s (i + 1) (n - (i + 1)) in
    let a = total_more f s i in
    let b = total_ge f s i (λ k p. h k (omega arith)) in
    let c = total_ge f (s + (i + 1)) (n - (i + 1)) (λ k p. shifted k p) in
    let d = h i q in
    omega (arith, t, a, b, c, d, e)
  where
    shifted : (k : ℕ) → k < n - (i + 1) → 1 ≤ f (s + (i + 1) + k)
    shifted k p =
        let z : s + (i + 1) + k ≡ s + ((i + 1) + k) = omega arith in
        rw z (h ((i + 1) + k) (omega arith))

-- numbers that sum to 0 are all 0
pub all_zeros : (f : ℕ → ℕ) (s n i : ℕ) → total f s n ≡ 0 → i < n → f (s + i) ≡ 0
all_zeros f s n i e h = omega (arith, total_part f s i n h, e)

-- numbers of at most 1
module _ (f : ℕ → ℕ) (s : ℕ) where
  pub total_le : (n : ℕ) → ((i : ℕ) → i < n → f (s + i) ≤ 1) → total f s n ≤ n
  unfolding total
  total_le zero h = omega arith
  total_le (suc n) h = let a = total_le n (λ i q. h i (omega arith)) in let b = h n (omega arith) in omega arith

-- that sum to as many as there are, are all 1
pub all_full : (f : ℕ → ℕ) (s n i : ℕ) → total f s n ≡ n → ((k : ℕ) → k < n → f (s + k) ≤ 1) → i < n → f (s + i) ≡ 1
all_full f s n i e h q =
    let split : n ≡ (i + 1) + (n - (i + 1)) = omega arith in
    let t : total f s n ≡ total f s (i + 1) + total f (s + (i + 1)) (n - (i + 1)) = ap (total f s) split ∙ total_add f s (i + 1) (n - (i + 1)) in
    let a = total_more f s i in
    let b = total_le f s i (λ k p. h k (omega arith)) in
    let c = total_le f (s + (i + 1)) (n - (i + 1)) (λ k p. shifted k p) in
    let d = h i q in
    omega (arith, t, a, b, c, d, e)
  where
    shifted : (k : ℕ) → k < n - (i + 1) → f (s + (i + 1) + k) ≤ 1
    shifted k p =
        let z : s + (i + 1) + k ≡ s + ((i + 1) + k) = omega arith in
        rw z (h ((i + 1) + k) (omega arith))

-- the sum of ones
pub total_ones : (f : ℕ → ℕ) (s n : ℕ) → ((i : ℕ) → i < n → f (s + i) ≡ 1) → total f s n ≡ n
unfolding total
total_ones f s zero h = refl
total_ones f s (suc n) h = let a = total_ones f s n (λ i q. h i (omega arith)) in let b = h n (omega arith) in omega arith

-- ---- Lists

module _ {A : Type 0} where
  pub length_run : (f : ℕ → A) (s n : ℕ) → length (run f s n) ≡ n
  unfolding run
  length_run f s zero = refl
  length_run f s (suc n) = ap suc (length_run f (suc s) n)

  pub get_d_run : (f : ℕ → A) (s n i : ℕ) (d : A) → i < n → get_or (run f s n) i d ≡ f (s + i)
  unfolding run
  get_d_run f s zero i d h = absurd (omega arith)
  get_d_run f s (suc n) zero d h = ap f (sym (add-zero s))
  get_d_run f s (suc n) (suc i) d h = get_d_run f (suc s) n i d (omega arith) ∙ ap f (suc-add s i ∙ sym (add-suc s i))

  -- two functions whose runs are the same agree at each number
  pub run_at : (f g : ℕ → A) (s n : ℕ) (d : A) → run f s n ≡ run g s n → (i : ℕ) → i < n → f (s + i) ≡ g (s + i)
  run_at f g s n d e i h =
      sym (get_d_run f s n i d h) ∙ ap (λ (r : List A). get_or r i d) e ∙ get_d_run g s n i d h

  pub run_append : (f : ℕ → A) (s n m : ℕ) → run f s (n + m) ≡ run f s n ++ run f (s + n) m
  unfolding run
  run_append f s zero m = rw (zero-add, add-zero)
  run_append f s (suc n) m =
      let e : s + suc n ≡ suc s + n = omega arith in
      rw (suc-add, run, e) (ap (λ (r : List A). f s ∷ r) (run_append f (suc s) n m))

  run_one : (f : ℕ → A) (s : ℕ) → run f s 1 ≡ f s ∷ []
  unfolding run
  run_one f s = refl

  pub run_more : (f : ℕ → A) (s n : ℕ) → run f s (n + 1) ≡ run f s n ++ (f (s + n) ∷ [])
  run_more f s n = run_append f s n 1 ∙ ap (λ (r : List A). run f s n ++ r) (run_one f (s + n))

  pub run_last : (f : ℕ → A) (s n : ℕ) → run f s (suc n) ≡ run f s n ++ (f (s + n) ∷ [])
  run_last f s n = rw (← add-one) (run_more f s n)

  -- a run gives the list whose elements it gives
  pub run_list : (f : ℕ → A) (s n : ℕ) (xs : List A) (d : A) → length xs ≡ n → ((i : ℕ) → i < n → f (s + i) ≡ get_or xs i d) → run f s n ≡ xs
  run_list f s n xs d e h =
      ext_get_or d (run f s n) xs (length_run f s n ∙ sym e)
      (λ i q. below i (rw length_run at q))
    where
      below : (i : ℕ) → i < n → get_or (run f s n) i d ≡ get_or xs i d
      below i q = get_d_run f s n i d q ∙ h i q

  pub run_same : (f g : ℕ → A) (s r n : ℕ) → ((i : ℕ) → i < n → f (s + i) ≡ g (r + i)) → run f s n ≡ run g r n
  unfolding run
  run_same f g s r zero e = refl
  run_same f g s r (suc n) e = rw (first, run_same f g (suc s) (suc r) n (λ i h. rest i h))
    where
      first : f s ≡ g r
      first = ap f (sym (add-zero s)) ∙ e 0 (omega arith) ∙ ap g (add-zero r)

      rest : (i : ℕ) → i < n → f (suc s + i) ≡ g (suc r + i)
      rest i h = ap f (suc-add s i ∙ sym (add-suc s i)) ∙ e (suc i) (omega arith) ∙ ap g (add-suc r i ∙ sym (suc-add r i))

pub map_run : {A B : Type 0} (g : A → B) (f : ℕ → A) (s n : ℕ) → map g (run f s n) ≡ run (λ i. g (f i)) s n
unfolding run
map_run g f s zero = refl
map_run {A} {B} g f s (suc n) = ap (λ (r : List B). g (f s) ∷ r) (map_run g f (suc s) n)

-- the sum of the lower bytes of words that have no other
pub low_total : (l : List ℕ) (s n : ℕ) → ((i : ℕ) → i < n → word_at l (s + i) < 256) → total (low_at l) s n ≡ total (word_at l) s n
unfolding low_at
low_total l s n b = total_same (low_at l) (word_at l) s s n (λ i h. mod-eq_of_lt (b i h))
