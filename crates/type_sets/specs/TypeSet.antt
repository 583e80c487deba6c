-- R-5: the set of event types that productions name, expansion included.
use Rattle.std.specs.Prelude.{ℕ, zero, suc, ◌+◌, Bool, List}
use Rattle.model.specs.Lists.{any}
use Rattle.model.specs.Modifiers.{bit_if}
use Rattle.model.specs.Tables.{Production}
use Rattle.model.specs.Matching.{has_type}

-- the mask of the bits below a number that pass the test
unfoldable pub mask_below : ℕ → (ℕ → Bool) → ℕ
mask_below zero test = 0
mask_below (suc k) test = mask_below k test + bit_if (test k) k

-- some production has this code
abbrev pub names_type : List Production → ℕ → Bool
names_type ps code = any (has_type code) ps

-- the set as a mask: bit c stands for code c, and 34 is the highest code
unfoldable pub type_set : List Production → ℕ
type_set ps = mask_below 35 (names_type ps)
