-- Laws of lists that are joined from several, of tests of every element, and of sums over elements.
use Prim.Native.Nat.{ℕ, zero, suc, ◌+◌, ◌≤◌, ◌<◌}
use native.Mathlib.Omega.{arith}
use native.Mathlib.Nat.{zero-add, add-zero}
use mathlib.Core.Path.{◌≡◌, refl, sym, ap, ◌∙◌}
use mathlib.Core.List.{List, [], ◌∷◌, ◌++◌, append_assoc, append-nil}
use mathlib.Core.Bool.{Bool, true, false, not}
use lib.ListN.{length, get_or, length-append, get_or-append}
use lib.Seq.{get_or-append-add}
use borrow.Author.Tests.{not-true}
use Rattle.words.specs.Runs.{run, total}
use Rattle.words.proofs.Bools.{and_left, and_right, and_both, or_no_left, or_no_right, or_neither}
use Rattle.words.proofs.RunLaws.{total_first, total_same, total_part, run_append, run_last, run_list}
use Rattle.model.specs.Lists.{all, any, in_all}
use Rattle.tables.specs.Layout.{flat}

module _ {A : Type 0} where
  -- ---- Tests of every element

  pub all_at : (test : A → Bool) (xs : List A) (i : ℕ) (d : A) → all test xs ≡ true → i < length xs → test (get_or xs i d) ≡ true
  all_at test [] i d e h = absurd (omega arith)
  all_at test (x ∷ xs) zero d e h = and_left (test x) (all test xs) e
  all_at test (x ∷ xs) (suc i) d e h = all_at test xs i d (and_right (test x) (all test xs) e) (omega arith)

  pub all_run : (test : A → Bool) (f : ℕ → A) (s n : ℕ) → ((i : ℕ) → i < n → test (f (s + i)) ≡ true) → all test (run f s n) ≡ true
  unfolding run
  all_run test f s zero h = refl
  all_run test f s (suc n) h =
      and_both (test (f s)) (all test (run f (suc s) n)) (rw add-zero at (h 0 (omega arith)))
      (all_run test f (suc s) n (λ i q. next i (h (suc i) (omega arith))))
    where
      next : (i : ℕ) → test (f (s + suc i)) ≡ true → test (f (suc s + i)) ≡ true
      next i e = let p : suc s + i ≡ s + suc i = omega arith in rw p e

  pub all_append_left : (test : A → Bool) (xs ys : List A) → all test (xs ++ ys) ≡ true → all test xs ≡ true
  all_append_left test [] ys e = refl
  all_append_left test (x ∷ xs) ys e =
      and_both (test x) (all test xs) (and_left (test x) (all test (xs ++ ys)) e)
      (all_append_left test xs ys (and_right (test x) (all test (xs ++ ys)) e))

  pub all_append_right : (test : A → Bool) (xs ys : List A) → all test (xs ++ ys) ≡ true → all test ys ≡ true
  all_append_right test [] ys e = e
  all_append_right test (x ∷ xs) ys e = all_append_right test xs ys (and_right (test x) (all test (xs ++ ys)) e)

  pub all_append : (test : A → Bool) (xs ys : List A) → all test xs ≡ true → all test ys ≡ true → all test (xs ++ ys) ≡ true
  all_append test [] ys e f = f
  all_append test (x ∷ xs) ys e f =
      and_both (test x) (all test (xs ++ ys)) (and_left (test x) (all test xs) e)
      (all_append test xs ys (and_right (test x) (all test xs) e) f)

  -- what a test shows of each element, and what holds of the default, holds at every place
  pub each_get_d : (P : A → Type 0) (test : A → Bool) (xs : List A) (d : A) → P d → ((x : A) → test x ≡ true → P x)
      → all test xs ≡ true → (i : ℕ) → P (get_or xs i d)
  each_get_d P test [] d p f e i = p
  each_get_d P test (x ∷ xs) d p f e zero = f x (and_left (test x) (all test xs) e)
  each_get_d P test (x ∷ xs) d p f e (suc i) = each_get_d P test xs d p f (and_right (test x) (all test xs) e) i

  pub all_weaker : (test other : A → Bool) (xs : List A) → ((x : A) → test x ≡ true → other x ≡ true) → all test xs ≡ true → all other xs ≡ true
  all_weaker test other [] f e = refl
  all_weaker test other (x ∷ xs) f e =
      and_both (other x) (all other xs) (f x (and_left (test x) (all test xs) e))
      (all_weaker test other xs f (and_right (test x) (all test xs) e))

  -- no element passes the test
  pub none_all : (test : A → Bool) (xs : List A) → any test xs ≡ false → all (λ x. not (test x)) xs ≡ true
  none_all test [] e = refl
  none_all test (x ∷ xs) e =
      and_both (not (test x)) (all (λ y. not (test y)) xs) (rw (or_no_left (test x) (any test xs) e))
      (none_all test xs (or_no_right (test x) (any test xs) e))

  pub all_none : (test : A → Bool) (xs : List A) → all (λ x. not (test x)) xs ≡ true → any test xs ≡ false
  all_none test [] e = refl
  all_none test (x ∷ xs) e =
      or_neither (test x) (any test xs) (not-true (test x) (and_left (not (test x)) (all (λ y. not (test y)) xs) e))
      (all_none test xs (and_right (not (test x)) (all (λ y. not (test y)) xs) e))

  -- ---- Sums

  pub in_all_append : (m : A → ℕ) (xs ys : List A) → in_all m (xs ++ ys) ≡ in_all m xs + in_all m ys
  in_all_append m [] ys = omega arith
  in_all_append m (x ∷ xs) ys = omega (arith, in_all_append m xs ys)

  pub in_all_le : (m n : A → ℕ) (xs : List A) → ((x : A) → m x ≤ n x) → in_all m xs ≤ in_all n xs
  in_all_le m n [] f = omega arith
  in_all_le m n (x ∷ xs) f = omega (arith, f x, in_all_le m n xs f)

  pub in_all_run : (m : A → ℕ) (f : ℕ → A) (s n : ℕ) → in_all m (run f s n) ≡ total (λ i. m (f i)) s n
  unfolding run total
  in_all_run m f s zero = refl
  in_all_run m f s (suc n) = omega (arith, in_all_run m f (suc s) n, total_first (λ i. m (f i)) s n)

  shift : (m : A → ℕ) (x : A) (xs : List A) (d : A) (i : ℕ)
      → total (λ q. m (get_or (x ∷ xs) q d)) 0 (suc i) ≡ m x + total (λ q. m (get_or xs q d)) 0 i
  shift m x xs d i =
      total_first (λ q. m (get_or (x ∷ xs) q d)) 0 i
      ∙ ap (λ (n : ℕ). m x + n) (total_same (λ q. m (get_or (x ∷ xs) q d)) (λ q. m (get_or xs q d)) 1 0 i (λ k h. next k))
    where
      next : (k : ℕ) → m (get_or (x ∷ xs) (1 + k) d) ≡ m (get_or xs (0 + k) d)
      next k = let e : 1 + k ≡ suc (0 + k) = omega arith in rw e

  pub in_all_total : (m : A → ℕ) (xs : List A) (d : A) → in_all m xs ≡ total (λ q. m (get_or xs q d)) 0 (length xs)
  unfolding total
  in_all_total m [] d = refl
  in_all_total m (x ∷ xs) d = omega (arith, in_all_total m xs d, shift m x xs d (length xs))

module _ {A B : Type 0} where
  -- ---- Joined lists

  pub flat_append : (f : A → List B) (xs ys : List A) → flat f (xs ++ ys) ≡ flat f xs ++ flat f ys
  unfolding flat
  flat_append f [] ys = refl
  flat_append f (x ∷ xs) ys = ap (λ (r : List B). f x ++ r) (flat_append f xs ys) ∙ sym (append_assoc (f x) (flat f xs) (flat f ys))

  pub length_flat : (f : A → List B) (xs : List A) → length (flat f xs) ≡ in_all (λ x. length (f x)) xs
  unfolding flat
  length_flat f [] = refl
  length_flat f (x ∷ xs) = omega (arith, length-append (f x) (flat f xs), length_flat f xs)

  pub in_all_flat : (m : B → ℕ) (f : A → List B) (xs : List A) → in_all m (flat f xs) ≡ in_all (λ x. in_all m (f x)) xs
  unfolding flat
  in_all_flat m f [] = refl
  in_all_flat m f (x ∷ xs) = omega (arith, in_all_append m (f x) (flat f xs), in_all_flat m f xs)

  pub all_flat : (test : B → Bool) (f : A → List B) (xs : List A) → all (λ x. all test (f x)) xs ≡ true → all test (flat f xs) ≡ true
  unfolding flat
  all_flat test f [] e = refl
  all_flat test f (x ∷ xs) e =
      all_append test (f x) (flat f xs) (and_left (all test (f x)) (all (λ y. all test (f y)) xs) e)
      (all_flat test f xs (and_right (all test (f x)) (all (λ y. all test (f y)) xs) e))

  -- element k of list i stands past all elements of the lists before
  pub flat_at : (f : A → List B) (xs : List A) (a : A) (b : B) (i k : ℕ) → i < length xs → k < length (f (get_or xs i a))
      → get_or (flat f xs) (total (λ q. length (f (get_or xs q a))) 0 i + k) b ≡ get_or (f (get_or xs i a)) k b
  unfolding flat total
  flat_at f [] a b i k h q = absurd (omega arith)
  flat_at f (x ∷ xs) a b zero k h q = rw zero-add (get_or-append (f x) (flat f xs) b k q)
  flat_at f (x ∷ xs) a b (suc i) k h q =
      let e : total (λ r. length (f (get_or (x ∷ xs) r a))) 0 (suc i) + k ≡ length (f x) + (total (λ r. length (f (get_or xs r a))) 0 i + k) = omega (arith, shift (λ y. length (f y)) x xs a i) in
      rw e (get_or-append-add (f x) (flat f xs) (total (λ r. length (f (get_or xs r a))) 0 i + k) b ∙ flat_at f xs a b i k (omega arith) q)

  -- lists that are runs, one after the other, are one run
  pub flat_runs : (g : A → List B) (h : ℕ → A) (f : ℕ → B) (c : ℕ → ℕ) (s n : ℕ)
      → ((p : ℕ) → g (h p) ≡ run f (total c s p) (c (s + p))) → flat g (run h 0 n) ≡ run f 0 (total c s n)
  unfolding run total flat
  flat_runs g h f c s zero e = refl
  flat_runs g h f c s (suc n) e =
      let z : 0 + n ≡ n = omega arith in
      ap (flat g) (run_last h 0 n)
      ∙ flat_append g (run h 0 n) (h (0 + n) ∷ [])
      ∙ rw (flat_runs g h f c s n e, z, append-nil, e n)
      (sym (run_append f 0 (total c s n) (c (s + n)) ∙ rw zero-add))

  -- the run that holds list i, of what gives the elements of all
  pub nested : (f : A → List B) (xs : List A) (a : A) (b : B) (g : ℕ → B) (i : ℕ) → i < length xs
      → ((k : ℕ) → k < length (flat f xs) → g k ≡ get_or (flat f xs) k b)
      → run g (total (λ q. length (f (get_or xs q a))) 0 i) (length (f (get_or xs i a))) ≡ f (get_or xs i a)
  nested f xs a b g i h e =
      run_list g from (length (f (get_or xs i a))) (f (get_or xs i a)) b refl
      (λ k q. e (from + k) (within k q) ∙ flat_at f xs a b i k h q)
    where
      from : ℕ
      from = total (λ q. length (f (get_or xs q a))) 0 i

      within : (k : ℕ) → k < length (f (get_or xs i a)) → from + k < length (flat f xs)
      within k q =
          let z : 0 + i ≡ i = zero-add i in
          omega (arith, rw z at (total_part (λ r. length (f (get_or xs r a))) 0 i (length xs) h), length_flat f xs, in_all_total (λ x. length (f x)) xs a)
