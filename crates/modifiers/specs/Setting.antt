-- A mask with one more bit.
use Rattle.std.specs.Prelude.{ℕ, ◌||◌, eqb}
use Rattle.model.specs.Modifiers.{bit, mask}

-- the mask with bit k set
unfoldable pub with_bit : ℕ → ℕ → ℕ
with_bit m k = mask (λ j. bit j m || eqb k j)
