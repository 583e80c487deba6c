-- What a table holds of its event i in words that are read as a whole: the flags, and the value of the detail.
use Rattle.std.specs.Prelude.{ℕ, ◌+◌, ◌*◌, List}
use Rattle.words.specs.Words.{word_at}
use Rattle.tables.specs.Layout.{flags_at, lows_at, highs_at}

-- colon, clause, whether a detail is asked for and `!` beside names, as bits; above them the names
unfoldable pub flags_in : List ℕ → ℕ → ℕ
flags_in l i = word_at l (flags_at + i)

-- the detail, of two words
unfoldable pub value_in : List ℕ → ℕ → ℕ
value_in l i = word_at l (lows_at + i) + 65536 * word_at l (highs_at + i)
