-- Productions whose faults are joined before they are tested.
use Prim.Native.Nat.{ℕ, ◌-◌}
use mathlib.Core.Path.{◌≡◌, refl, ◌∙◌}
use mathlib.Core.Bool.{Bool, true, false, ◌&&◌, and_comm}
use lib.Dec.{leb, eqb}
use lib.Bits.{bit_or}
use Rattle.words.proofs.Zeros.{or_zero, or_zero_three, within_bound}

-- one more production, joined to the faults b of those before it
pub joined_production : (b own made most : ℕ)
    → eqb (bit_or b (bit_or (bit_or (1 - own) (own - most)) (made - 8))) 0 ≡ (eqb b 0 && (leb 1 own && leb made 8 && leb own most))
joined_production b own made most =
    or_zero b (bit_or (bit_or (1 - own) (own - most)) (made - 8))
    ∙ rw (or_zero_three (1 - own) (own - most) (made - 8), within_bound 1 own, within_bound own most, within_bound made 8, in_order (leb 1 own) (leb own most) (leb made 8))
  where
    in_order : (l m k : Bool) → (l && m && k) ≡ (l && k && m)
    in_order false m k = refl
    in_order true m k = and_comm m k
