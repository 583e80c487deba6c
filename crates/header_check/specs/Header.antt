-- The tests of a table's header, word by word, as the code makes them.
use Rattle.std.specs.Prelude.{ℕ, Bool, ◌&&◌, ◌||◌, List, leb, eqb}
use Rattle.words.specs.Words.{word_at}

-- directive, merged, lengths of the texts
unfoldable pub text_words_ok : (directive merged first second : ℕ) → Bool
text_words_ok directive merged first second =
    leb directive 2 && leb merged 1 && leb first 8192 && leb second 8192 && (eqb merged 1 || eqb second 0)

-- how many productions, events, calls and parameters
unfoldable pub count_words_ok : (productions events calls parameters : ℕ) → Bool
count_words_ok productions events calls parameters =
    leb productions 64 && leb events 256 && leb calls 128 && leb parameters 256

unfoldable pub header_ok : List ℕ → Bool
header_ok l =
    text_words_ok (word_at l 0) (word_at l 1) (word_at l 2) (word_at l 3)
    && count_words_ok (word_at l 4) (word_at l 5) (word_at l 6) (word_at l 7)
