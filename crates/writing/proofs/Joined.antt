-- Laws of lists that grow at the end: of texts that are joined, of elements that pass a test, of tests of all.
use Prim.Native.Nat.{ℕ, zero, suc, ◌+◌}
use native.Mathlib.Omega.{arith}
use native.Mathlib.Nat.{zero-add, add-zero, add-suc}
use mathlib.Core.Path.{◌≡◌, refl, sym, ap, ◌∙◌}
use mathlib.Core.List.{List, [], ◌∷◌, ◌++◌, append_assoc}
use mathlib.Core.Bool.{Bool, true, false, cond, ◌&&◌, and-true, and_assoc}
use lib.Dec.{ltb}
use borrow.Author.Tests.{lt-ltb}
use lib.ListN.{length}
use Rattle.words.specs.Runs.{run, every}
use Rattle.words.proofs.RunLaws.{run_last, run_more, length_run}
use Rattle.model.specs.Lists.{all, those}
use Rattle.model.specs.Canonical.{joined_by, each}
use Rattle.writing.specs.Overlay.{separator}

-- one more text after those that are joined
pub joined_more : (b : ℕ) (ps : List (List ℕ)) (p : List ℕ) → joined_by (b ∷ []) (ps ++ (p ∷ [])) ≡ joined_by (b ∷ []) ps ++ (separator b (length ps) ++ p)
unfolding joined_by
joined_more b [] p = refl
joined_more b (q ∷ []) p = refl
joined_more b (q ∷ r ∷ rs) p =
    let one : ltb 0 (suc (length rs)) ≡ true = lt-ltb 0 (suc (length rs)) (omega arith) in
    let two : ltb 0 (suc (suc (length rs))) ≡ true = lt-ltb 0 (suc (suc (length rs))) (omega arith) in
    ap (λ (t : List ℕ). q ++ ((b ∷ []) ++ t)) (joined_more b (r ∷ rs) p)
    ∙ rw (one, two) (sym (append_assoc q ((b ∷ []) ++ joined_by (b ∷ []) (r ∷ rs)) ((b ∷ []) ++ p)))

-- texts of a run that are joined, one more at a time
module _ (b : ℕ) (text : ℕ → List ℕ) where
  pub run_joined_none : [] ≡ joined_by (b ∷ []) (run text 0 0)
  unfolding run joined_by
  run_joined_none = refl

  pub run_joined : (k : ℕ) → joined_by (b ∷ []) (run text 0 k) ++ (separator b k ++ text k) ≡ joined_by (b ∷ []) (run text 0 (k + 1))
  run_joined k =
      ap (λ (n : ℕ). joined_by (b ∷ []) (run text 0 k) ++ (separator b n ++ text k)) (sym (length_run text 0 k))
      ∙ sym (joined_more b (run text 0 k) (text k))
      ∙ ap (joined_by (b ∷ [])) (ap (λ (i : ℕ). run text 0 k ++ (text i ∷ [])) (sym (zero-add k)) ∙ sym (run_more text 0 k))

module _ {A : Type 0} where
  run_from : (w : A → List ℕ) (f : ℕ → A) (s n r : ℕ) → run (λ k. w (f (s + k))) r n ≡ each w (run f (s + r) n)
  unfolding run
  run_from w f s zero r = refl
  run_from w f s (suc n) r = rw (run_from w f s n (suc r), add-suc s r)

  -- the texts of a run's elements are a run of texts
  pub run_each : (w : A → List ℕ) (f : ℕ → A) (s n : ℕ) → run (λ k. w (f (s + k))) 0 n ≡ each w (run f s n)
  run_each w f s n = run_from w f s n 0 ∙ rw add-zero

  pub each_more : (w : A → List ℕ) (xs : List A) (x : A) → each w (xs ++ (x ∷ [])) ≡ each w xs ++ (w x ∷ [])
  each_more w [] x = refl
  each_more w (y ∷ ys) x = rw (each_more w ys x)

  pub length_each : (w : A → List ℕ) (xs : List A) → length (each w xs) ≡ length xs
  length_each w [] = refl
  length_each w (x ∷ xs) = rw (length_each w xs)

  cond_more : (t : Bool) (y : A) (ys zs ws : List A) → ws ≡ ys ++ zs → cond t (y ∷ ws) ws ≡ cond t (y ∷ ys) ys ++ zs
  cond_more true y ys zs ws e = rw e
  cond_more false y ys zs ws e = e

  pub those_more : (test : A → Bool) (xs : List A) (x : A) → those test (xs ++ (x ∷ [])) ≡ those test xs ++ cond (test x) (x ∷ []) []
  those_more test [] x = refl
  those_more test (y ∷ ys) x = cond_more (test y) y (those test ys) (cond (test x) (x ∷ []) []) (those test (ys ++ (x ∷ []))) (those_more test ys x)

  pub all_more : (test : A → Bool) (xs : List A) (x : A) → all test (xs ++ (x ∷ [])) ≡ (all test xs && test x)
  all_more test [] x = and-true (test x)
  all_more test (y ∷ ys) x = rw (all_more test ys x) (sym (and_assoc (test y) (all test ys) (test x)))

-- a test of every number below n
pub all_every : (test : ℕ → Bool) (n : ℕ) → all test (run (λ i. i) 0 n) ≡ every test 0 n
unfolding run every
all_every test zero = refl
all_every test (suc n) =
    ap (all test) (run_last (λ (i : ℕ). i) 0 n)
    ∙ all_more test (run (λ i. i) 0 n) (0 + n)
    ∙ ap (λ (b : Bool). b && test (0 + n)) (all_every test n)
