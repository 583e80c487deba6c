-- Document 01, "Modifier tests", "Keyboard lookup": from a keycode, Shift and Lock to a keysym.
use Rattle.std.specs.Prelude.{ℕ, ◌+◌, ◌-◌, Bool, true, false, cond, ◌||◌, List, [], ◌∷◌, eqb}
use Rattle.model.specs.Lists.{any}
use Rattle.model.specs.Bytes.{in_range}
use Rattle.model.specs.Names.{shift_bit, lock_bit}
use Rattle.model.specs.Modifiers.{bit}
use Rattle.model.specs.Setting.{Setting, first_keysym, second_keysym}
use Rattle.model.specs.Asked.{Test, asked, cares_for}
use Rattle.model.specs.declared.events.KeptEvent.{KeptEvent}

-- ---- "Case pairs: 0x61..0x7A, 0xE0..0xF6 and 0xF8..0xFE, upper is 0x20 less."

unfoldable pub is_lower : ℕ → Bool
is_lower k = in_range 0x61 k 0x7A || in_range 0xE0 k 0xF6 || in_range 0xF8 k 0xFE

unfoldable pub is_upper : ℕ → Bool
is_upper k = in_range 0x41 k 0x5A || in_range 0xC0 k 0xD6 || in_range 0xD8 k 0xDE

-- the upper case of a keysym; its own where it is no lower-case letter
unfoldable pub upper : ℕ → ℕ
upper k = cond (is_lower k) (k - 0x20) k

unfoldable pub lower : ℕ → ℕ
lower k = cond (is_upper k) (k + 0x20) k

-- ---- Lookup

-- "If the second keysym is 0, a Latin-1 letter becomes its lower and upper pair; any other is doubled. Shift picks the second."
unfoldable pub picked : ℕ → ℕ → Bool → ℕ
picked a b true = cond (eqb b 0) (upper a) b
picked a b false = cond (eqb b 0) (lower a) a

-- "Lock raises a Latin-1 lower-case letter."
unfoldable pub raised : Bool → ℕ → ℕ
raised true k = upper k
raised false k = k

-- the keysym that a pair gives under Shift and Lock
unfoldable pub keysym_of : ℕ → ℕ → Bool → Bool → ℕ
keysym_of a b shift lock = raised lock (picked a b shift)

-- ---- A key detail

-- "With a colon the event's Shift and Lock are applied and the keysym must equal the detail."
unfoldable pub matches_with_colon : ℕ → ℕ → ℕ → ℕ → Bool
matches_with_colon a b state detail = eqb (keysym_of a b (bit shift_bit state) (bit lock_bit state)) detail

-- "the cared-for bits are kept": the settings of Shift or of Lock to try
abbrev pub settings : Bool → Bool → List Bool
settings true is = is ∷ []
settings false is = false ∷ true ∷ []

-- "Without one, .. some setting of the uncared-for Shift and Lock must give it."
unfoldable pub matches_without : ℕ → ℕ → ℕ → Bool → Bool → ℕ → Bool
matches_without a b state cares_shift cares_lock detail =
    any
    (λ shift. any (λ lock. eqb (keysym_of a b shift lock) detail) (settings cares_lock (bit lock_bit state)))
    (settings cares_shift (bit shift_bit state))

-- the pair of an event with this state gives the keysym that is asked for beside a test, with a colon or without
unfoldable pub pair_matches : Test → (colon : Bool) → ℕ → ℕ → ℕ → ℕ → Bool
pair_matches t colon a b state detail =
    cond colon
    (matches_with_colon a b state detail)
    (matches_without a b state (cares_for t shift_bit) (cares_for t lock_bit) detail)

-- the same of a kept event and an event's keycode
unfoldable pub key_matches : Setting → KeptEvent → ℕ → ℕ → ℕ → Bool
key_matches setting e keycode state detail =
    pair_matches (asked setting e) e.colon
    (first_keysym setting.keyboard keycode) (second_keysym setting.keyboard keycode) state detail
