-- How many events an event stands for: bounds, and as the code counts them.
use Prim.Native.Nat.{ℕ, ◌-◌, ◌*◌, ◌≤◌, ◌<◌}
use native.Mathlib.Omega.{arith}
use mathlib.Core.Path.{◌≡◌, refl}
use mathlib.Core.Bool.{Bool, true, false, ◌||◌, ◌&&◌}
use lib.Dec.{ltb, eqb}
use borrow.Author.Tests.{le-leb, lt-leb, ltb-true, ltb-false}
use Rattle.words.proofs.Bools.{and_left, and_right}
use Rattle.counts.specs.Elements.{releases, element_count}
use Rattle.counts.proofs.Elements.{count_at_most}

pub size_below : (c n : ℕ) → n < 65536 → element_count c n ≤ 131070
size_below c n h = count_at_most c n 65535 (omega arith) (omega arith)

-- an event in range stands for one event less than twice its count, or for twice its count where it is a counted release
module _ (c n : ℕ) where
  pub size_twice : (ltb 1 n && (eqb c 3 || eqb c 5)) ≡ true → element_count c n ≡ 2 * n
  unfolding element_count releases
  size_twice e =
      let h = ltb-true 1 n (and_left (ltb 1 n) (eqb c 3 || eqb c 5) e) in
      rw (lt-leb n 1 h, and_right (ltb 1 n) (eqb c 3 || eqb c 5) e)

  pub size_less : 1 ≤ n → (ltb 1 n && (eqb c 3 || eqb c 5)) ≡ false → element_count c n ≡ 2 * n - 1
  unfolding element_count releases
  size_less b e = go (ltb 1 n) refl
    where
      go : (t : Bool) → ltb 1 n ≡ t → element_count c n ≡ 2 * n - 1
      go true q = rw (lt-leb n 1 (ltb-true 1 n q), rw q at e)
      go false q = let h = ltb-false 1 n q in rw (le-leb n 1 h) (omega arith)
