-- The tests of a table's calls and parameters, word by word, as the code makes them.
use Rattle.std.specs.Prelude.{ℕ, ◌+◌, ◌-◌, Bool, cond, ◌&&◌, List, leb, eqb}
use Rattle.words.specs.Words.{word_at}
use Rattle.words.specs.Runs.{every, total}
use Rattle.tables.specs.Layout.{marks_at, name_starts_at, name_lengths_at, call_parameters_at, parameter_starts_at, parameter_lengths_at}

-- the length of the text that a mark names
unfoldable pub length_of_text : (mark first second : ℕ) → ℕ
length_of_text mark first second = cond (eqb mark 1) second first

unfoldable pub call_words_ok : (mark start len parameters merged text : ℕ) → Bool
call_words_ok mark start len parameters merged text = leb mark merged && leb parameters 8 && leb (start + len) text

unfoldable pub call_ok : List ℕ → ℕ → Bool
call_ok l i =
    call_words_ok
    (word_at l (marks_at + i))
    (word_at l (name_starts_at + i))
    (word_at l (name_lengths_at + i))
    (word_at l (call_parameters_at + i))
    (word_at l 1)
    (length_of_text (word_at l (marks_at + i)) (word_at l 2) (word_at l 3))

unfoldable pub parameter_ok : List ℕ → ℕ → ℕ → Bool
parameter_ok l text i = leb (word_at l (parameter_starts_at + i) + word_at l (parameter_lengths_at + i)) text

-- the parameters of call i
unfoldable pub parameters_ok : List ℕ → ℕ → Bool
parameters_ok l i =
    every (parameter_ok l (length_of_text (word_at l (marks_at + i)) (word_at l 2) (word_at l 3)))
    (total (word_at l) call_parameters_at i)
    (word_at l (call_parameters_at + i))

-- the first p of n parameters in a text of one length, and the others in a text of another
unfoldable pub in_turn : List ℕ → (before after p n : ℕ) → Bool
in_turn l before after p n = every (parameter_ok l before) 0 p && every (parameter_ok l after) p (n - p)
