-- R-5: the set of types that the events of a table name, expansion included, gathered from the words of their codes and counts.
use Rattle.std.specs.Prelude.{ℕ, ◌+◌, ◌*◌, ◌/◌, ◌%◌, ◌^◌, cond, List, eqb, ltb}
use Rattle.std.specs.Int.Bits.{bit_or}
use Rattle.std.specs.List.{fold, range_with_len}
use Rattle.words.specs.Words.{word_at}
use Rattle.tables.specs.Layout.{codes_at, counts_at}

-- masks over a run of numbers, joined
unfoldable pub masks_joined : (ℕ → ℕ) → ℕ → ℕ → ℕ
masks_joined f s n = fold (λ joined i. bit_or joined (f i)) 0 (range_with_len s n)

-- the code of event i
unfoldable pub code_at : List ℕ → ℕ → ℕ
code_at l i = word_at l (codes_at + i)

-- and where it is counted; else 0
unfoldable pub counted_at : List ℕ → ℕ → ℕ
counted_at l i = cond (eqb (word_at l (counts_at + i)) 1) 0 (code_at l i)

-- its bit in 64, and in 32, which is enough for codes below 32
unfoldable pub code_bit : List ℕ → ℕ → ℕ
code_bit l i = 2 ^ (code_at l i % 64)

unfoldable pub low_bit : List ℕ → ℕ → ℕ
low_bit l i = 2 ^ (code_at l i % 32)

-- counted events stand for presses and releases, of keys 2 and 3, of buttons 4 and 5: by their codes joined, since 2 and 3 have
-- bit 1, and 4 and 5 bit 2
unfoldable pub pairs_of : ℕ → ℕ
pairs_of counted = 12 * (counted / 2 % 2) + 48 * (counted / 4 % 2)

-- the set of the first n events
unfoldable pub types_gathered : List ℕ → ℕ → ℕ
types_gathered l n =
    bit_or
    (cond (ltb (masks_joined (code_at l) 0 n) 32) (masks_joined (low_bit l) 0 n) (masks_joined (code_bit l) 0 n))
    (pairs_of (masks_joined (counted_at l) 0 n))
