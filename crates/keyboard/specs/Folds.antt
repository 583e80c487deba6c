-- A quick comparison of keysyms: by the low word, without the bit in which the two cases of a letter differ.
use Rattle.std.specs.Prelude.{ℕ, ◌-◌, ◌*◌, ◌/◌, ◌%◌}

-- a word without bit 5
unfoldable pub fold : ℕ → ℕ
fold w = w - 32 * (w / 32 % 2)

-- of a keysym; every keysym that a pair gives folds to what one of its two does or, where the second is 0, to what the first
-- does (proofs/Folds)
unfoldable pub folded : ℕ → ℕ
folded k = fold (k % 65536)
