-- How many elements a kept event stands for, by its code and count.
use Rattle.std.proofs.Common.{◌≡◌, ℕ, zero, suc, ◌-◌, ◌*◌, ◌≤◌, Bool, true, false, cond, leb, [], ◌∷◌, length, refl, arith, leb-false}
use Rattle.model.specs.Counts.{element, is_release, release_press, press_release, counted_press, counted_release, elements_at}
use Rattle.model.specs.declared.events.KeptEvent.{KeptEvent}
use Rattle.counts.specs.Elements.{releases, element_count}

release_press_lem : (n : ℕ) (e : KeptEvent) → length (release_press n e) ≡ 2 * n
unfolding release_press
release_press_lem zero e = refl
release_press_lem (suc n) e = omega (arith, release_press_lem n e)

press_release_lem : (n : ℕ) (e : KeptEvent) → length (press_release n e) ≡ 2 * n
unfolding press_release
press_release_lem zero e = refl
press_release_lem (suc n) e = omega (arith, press_release_lem n e)

module _ (n : ℕ) (e : KeptEvent) where
  counted_length : 1 ≤ n → (release : Bool)
      → length (cond release (counted_release n e) (counted_press n e)) ≡ cond release (2 * n) (2 * n - 1)
  counted_length h true = omega (arith, press_release_lem (n - 1) e)
  counted_length h false = omega (arith, release_press_lem (n - 1) e)

  at_length : (one : Bool) → leb n 1 ≡ one
      → length (cond one (element e.code false e ∷ []) (cond (is_release e.code) (counted_release n e) (counted_press n e)))
      ≡ cond one 1 (cond (is_release e.code) (2 * n) (2 * n - 1))
  at_length true q = refl
  at_length false q =
      let h = leb-false n 1 q in
      counted_length (omega arith) (is_release e.code)

  pub element_count_lem : length (elements_at n e) ≡ element_count e.code n
  unfolding elements_at element_count releases
  element_count_lem = at_length (leb n 1) refl

-- at least one, and at most twice as many as the largest count
pub count_at_least : (code n : ℕ) → 1 ≤ element_count code n
unfolding element_count
count_at_least code n = go (leb n 1) refl (releases code)
  where
    go : (one : Bool) → leb n 1 ≡ one → (release : Bool) → 1 ≤ cond one 1 (cond release (2 * n) (2 * n - 1))
    go true q release = omega arith
    go false q true = let h = leb-false n 1 q in omega arith
    go false q false = let h = leb-false n 1 q in omega arith

pub count_at_most : (code n k : ℕ) → n ≤ k → 1 ≤ k → element_count code n ≤ 2 * k
unfolding element_count
count_at_most code n k h j = go (leb n 1) (releases code)
  where
    go : (one release : Bool) → cond one 1 (cond release (2 * n) (2 * n - 1)) ≤ 2 * k
    go true release = omega arith
    go false true = omega arith
    go false false = omega arith
