-- What the last arm of a `match` over 0, 1, .. knows. Assumes nothing.
use Prim.Native.Nat.{ℕ, zero, suc, ◌≤◌}
use native.Mathlib.Omega.{arith}
use mathlib.Core.Path.{◌≡◌}

-- i is none of the numbers below n
abbrev pub Other : ℕ → ℕ → Type 0
Other zero i = Unit {0}
Other (suc n) i = Other n i × (i ≡ n → ⊥)

pub past : (n i : ℕ) → Other n i → n ≤ i
past zero i o = omega arith
past (suc n) i o = let h = past n i o.0 in omega (arith, o.1)
