-- The loops' next steps: what is left of a run, of two lists of events, and of the productions that are kept.
use Prim.Native.Nat.{ℕ, zero, suc, ◌+◌, ◌-◌, ◌≤◌, ◌<◌}
use native.Mathlib.Omega.{arith}
use native.Mathlib.Nat.{add-zero}
use mathlib.Core.Path.{◌≡◌, refl, ap, ◌∙◌}
use mathlib.Core.List.{List, [], ◌∷◌, ◌++◌}
use mathlib.Core.Bool.{Bool, true, false, cond, not, ◌&&◌, ◌||◌}
use lib.ListN.{length}
use Rattle.std.specs.List.{list_all, range_with_len}
use Rattle.words.specs.Runs.{run}
use Rattle.model.specs.Tables.{Production}
use Rattle.model.specs.Counts.{elements_of, expanded}
use Rattle.model.specs.Merging.{same_event, same_events, is_among, without}
use Rattle.model.specs.declared.events.KeptEvent.{KeptEvent}
use Rattle.tables.specs.Reading.{production_total, production_entry}
use Rattle.tally.specs.Kept.{first_of, rest_of, kept_from}

-- ---- Runs

module _ {A : Type 0} (f : ℕ → A) where
  -- from i on
  pub run_next : (n i : ℕ) → i < n → run f i (n - i) ≡ f i ∷ run f (i + 1) (n - (i + 1))
  unfolding run
  run_next n i h =
      let e : n - i ≡ suc (n - (i + 1)) = omega arith in
      let g : i + 1 ≡ suc i = omega arith in
      rw (e, g)

  pub run_done : (s n i : ℕ) → n ≤ i → run f s (n - i) ≡ []
  unfolding run
  run_done s n i h = let e : n - i ≡ 0 = omega arith in rw e

  -- i past s
  pub run_step : (s n i : ℕ) → i < n → run f (s + i) (n - i) ≡ f (s + i) ∷ run f (s + (i + 1)) (n - (i + 1))
  unfolding run
  run_step s n i h =
      let e : n - i ≡ suc (n - (i + 1)) = omega arith in
      let g : s + (i + 1) ≡ suc (s + i) = omega arith in
      rw (e, g)

  pub run_start : (s n : ℕ) → run f (s + 0) (n - 0) ≡ run f s n
  run_start s n =
      let e : n - 0 ≡ n = omega arith in
      let g : s + 0 ≡ s = omega arith in
      rw (e, g)

-- ---- Events

module _ (f g : ℕ → KeptEvent) (a b n i : ℕ) where
  pub same_next : i < n
      → same_events (run f (a + i) (n - i)) (run g (b + i) (n - i))
      ≡ (same_event (f (a + i)) (g (b + i)) && same_events (run f (a + (i + 1)) (n - (i + 1))) (run g (b + (i + 1)) (n - (i + 1))))
  unfolding same_events
  same_next h = rw (run_step f a n i h, run_step g b n i h)

  pub same_done : n ≤ i → same_events (run f (a + i) (n - i)) (run g (b + i) (n - i)) ≡ true
  unfolding same_events
  same_done h = rw (run_done f (a + i) n i h, run_done g (b + i) n i h)

pub and_no : (a b : Bool) → a ≡ false → (a && b) ≡ false
and_no a b e = rw e

pub and_yes : (a b : Bool) → a ≡ true → (a && b) ≡ b
and_yes a b e = rw e

-- what a test of each place says of two runs
same_at : (f g : ℕ → KeptEvent) (a b s n : ℕ)
    → list_all (λ i. same_event (f (a + i)) (g (b + i))) (range_with_len s n) ≡ same_events (run f (a + s) n) (run g (b + s) n)
unfolding run same_events
same_at f g a b s zero = refl
same_at f g a b s (suc n) =
    let j : a + (s + 1) ≡ suc (a + s) = omega arith in
    let k : b + (s + 1) ≡ suc (b + s) = omega arith in
    rw (same_at f g a b (s + 1) n, j, k)

pub same_all : (f g : ℕ → KeptEvent) (a b n : ℕ)
    → list_all (λ i. same_event (f (a + i)) (g (b + i))) (range_with_len 0 n) ≡ same_events (run f a n) (run g b n)
same_all f g a b n = simp add-zero at (same_at f g a b 0 n)

and_false : (a : Bool) → (a && false) ≡ false
and_false true = refl
and_false false = refl

-- lists of events of different lengths are not the same
pub other_length : (es fs : List KeptEvent) → (length es ≡ length fs → ⊥) → same_events es fs ≡ false
unfolding same_events
other_length [] [] h = absurd (h refl)
other_length [] (f ∷ fs) h = refl
other_length (e ∷ es) [] h = refl
other_length (e ∷ es) (f ∷ fs) h =
    ap (λ (r : Bool). same_event e f && r) (other_length es fs (λ q. h (ap suc q))) ∙ and_false (same_event e f)

pub expanded_next : (f : ℕ → KeptEvent) (s n i : ℕ) → i < n
    → expanded (run f (s + i) (n - i)) ≡ elements_of (f (s + i)) ++ expanded (run f (s + (i + 1)) (n - (i + 1)))
unfolding expanded
expanded_next f s n i h = rw (run_step f s n i h)

-- ---- Productions

module _ (f : ℕ → Production) (p : Production) (n q : ℕ) where
  pub among_next : q < n → is_among (run f q (n - q)) p ≡ (same_events p.events (f q).events || is_among (run f (q + 1) (n - (q + 1))) p)
  unfolding is_among
  among_next h = rw (run_next f n q h)

  pub among_done : n ≤ q → is_among (run f q (n - q)) p ≡ false
  unfolding is_among
  among_done h = rw (run_done f q n q h)

pub or_yes : (a b : Bool) → a ≡ true → (a || b) ≡ true
or_yes a b e = rw e

pub or_no : (a b : Bool) → a ≡ false → (a || b) ≡ b
or_no a b e = rw e

module _ (l : List ℕ) (p : ℕ) (other : List ℕ) (n : ℕ) where
  pub kept_next : p < production_total l
      → kept_from l p other n
      ≡ cond (not (is_among (first_of other n) (production_entry l p))) (production_entry l p ∷ kept_from l (p + 1) other n) (kept_from l (p + 1) other n)
  unfolding kept_from rest_of without
  kept_next h = rw (run_next (production_entry l) (production_total l) p h)

  pub kept_done : production_total l ≤ p → kept_from l p other n ≡ []
  unfolding kept_from rest_of without
  kept_done h = rw (run_done (production_entry l) p (production_total l) p h)
