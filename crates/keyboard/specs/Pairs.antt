-- The model's keyboard lookup in the numbers that a table and a map hold.
use Rattle.std.specs.Prelude.{ℕ, Bool, cond, ◌||◌, List, eqb}
use Rattle.model.specs.Setting.{first_keysym, second_keysym}
use Rattle.model.specs.Lists.{any}
use Rattle.model.specs.Names.{shift_bit, lock_bit}
use Rattle.model.specs.Modifiers.{bit}
use Rattle.model.specs.Keyboard.{keysym_of, settings, matches_with_colon, matches_without}
use Rattle.keyboard.specs.declared.Pair.{Pair}

-- the keysyms that the map has for a keycode
abbrev pub pair_at : List ℕ → ℕ → Pair
pair_at map keycode = record { first = first_keysym map keycode; second = second_keysym map keycode }

-- `pair_matches` of a test that asks these bits set and clear, and this colon (proofs/Pairs shows that it is the same)
unfoldable pub pair_asked : ℕ → ℕ → Bool → ℕ → ℕ → ℕ → ℕ → Bool
pair_asked set clear colon a b state detail =
    cond colon
    (matches_with_colon a b state detail)
    (matches_without a b state (bit shift_bit set || bit shift_bit clear) (bit lock_bit set || bit lock_bit clear) detail)

-- some setting of Lock gives the detail under this Shift: the given one where Lock is cared for
unfoldable pub lock_gives : ℕ → ℕ → Bool → Bool → Bool → ℕ → Bool
lock_gives a b shift cares lock detail = any (λ l. eqb (keysym_of a b shift l) detail) (settings cares lock)
