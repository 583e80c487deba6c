-- What the numbers of a lent map are.
use Prim.Native.Nat.{ℕ, ◌*◌, ◌≤◌, ◌<◌}
use native.Mathlib.Omega.{arith}
use native.Mathlib.Nat.{zero-add}
use borrow.Author.Tests.{le-leb}
use Rattle.std.proofs.lemmas.Bool.Decides.{nat_tests}
use mathlib.Core.Path.{◌≡◌, ap}
use mathlib.Core.List.{List}
use lib.ListN.{length, get_or}
use Rattle.words.specs.Runs.{run}
use Rattle.words.proofs.RunLaws.{length_run, get_d_run}
use Rattle.keyboard.specs.Maps.{number_from, map_numbers}

module _ (l : List ℕ) where
  -- there are numbers only where there are the bytes of a map
  pub map_bytes_lem : length (map_numbers l) ≡ 496 → 1984 ≤ length l
  unfolding map_numbers
  map_bytes_lem h = grind (arith, nat_tests)

  all_numbers : 1984 ≤ length l → map_numbers l ≡ run (λ k. number_from l (4 * k)) 0 496
  unfolding map_numbers
  all_numbers e = rw (le-leb 1984 (length l) e)

  pub map_numbers_lem : 1984 ≤ length l → length (map_numbers l) ≡ 496
  map_numbers_lem e = rw (all_numbers e) (length_run (λ k. number_from l (4 * k)) 0 496)

  -- number k stands at byte 4 k
  pub number_at : 1984 ≤ length l → (k at : ℕ) → k < 496 → at ≡ 4 * k → number_from l at ≡ get_or (map_numbers l) k 0
  number_at e k at h p =
      rw (all_numbers e, get_d_run (λ k. number_from l (4 * k)) 0 496 k 0 h, zero-add) (ap (number_from l) p)
