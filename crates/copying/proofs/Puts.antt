-- Entries put one after the other: the next step of the loops that put them.
use Prim.Native.Nat.{ℕ, suc, ◌+◌, ◌-◌, ◌≤◌, ◌<◌}
use native.Mathlib.Omega.{arith}
use mathlib.Core.Path.{◌≡◌}
use mathlib.Core.List.{List}
use Rattle.words.specs.Runs.{run}
use Rattle.copying.specs.Copying.{puts}
use Rattle.tally.proofs.Steps.{run_step, run_done, run_start}

module _ {A : Type 0} (put : List ℕ → ℕ → A → List ℕ) (f : ℕ → A) (from at n : ℕ) (l : List ℕ) where
  pub puts_start : puts put l at (run f from n) ≡ puts put l (at + 0) (run f (from + 0) (n - 0))
  puts_start = let e : at + 0 ≡ at = omega arith in rw (e, run_start f from n)

  pub puts_next : (i : ℕ) → i < n
      → puts put l (at + i) (run f (from + i) (n - i))
      ≡ puts put (put l (at + i) (f (from + i))) (at + (i + 1)) (run f (from + (i + 1)) (n - (i + 1)))
  unfolding puts
  puts_next i h =
      let e : at + (i + 1) ≡ suc (at + i) = omega arith in
      rw (run_step f from n i h, e)

  pub puts_done : (i : ℕ) → n ≤ i → puts put l (at + i) (run f (from + i) (n - i)) ≡ l
  unfolding puts
  puts_done i h = rw (run_done f (from + i) n i h)
