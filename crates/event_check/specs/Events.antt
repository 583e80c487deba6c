-- The tests of a table's events, word by word, as the code makes them. proofs/EventTests shows that with those of the keysyms
-- after `@` they come to `event_in_range`.
use Rattle.std.specs.Prelude.{ℕ, ◌+◌, ◌/◌, ◌%◌, Bool, ◌&&◌, ◌||◌, List, leb, ltb, eqb}
use Rattle.words.specs.Words.{word_at}
use Rattle.tables.specs.Layout.{codes_at, counts_at, sets_at, clears_at, flags_at, lows_at, highs_at}
use Rattle.tables.specs.Reading.{is_flag}

unfoldable pub event_words_ok : (code count set clear flags low high : ℕ) → Bool
event_words_ok code count set clear flags low high =
    leb 2 code
    && leb code 34
    && leb 1 count
    && leb count 9
    && (leb count 1 || leb code 5)
    && ltb set 8192
    && ltb clear 8192
    && eqb (flags / 16 % 16) 0
    && (is_flag 4 flags || (eqb low 0 && eqb high 0))
    && ltb high 8192

unfoldable pub event_ok : List ℕ → ℕ → Bool
event_ok l i =
    event_words_ok
    (word_at l (codes_at + i))
    (word_at l (counts_at + i))
    (word_at l (sets_at + i))
    (word_at l (clears_at + i))
    (word_at l (flags_at + i))
    (word_at l (lows_at + i))
    (word_at l (highs_at + i))

-- the count of event i is at most 3
unfoldable pub few_at : List ℕ → ℕ → Bool
few_at l i = ltb (word_at l (counts_at + i)) 4
