-- Document 01, "Numbers handed back": "Reading a name or parameter: 1 for the table, 12, 16." Which of 1 and 12 is given.
use Rattle.std.specs.Prelude.{ℕ, Bool, false, not, ◌||◌, List, ltb, length}
use Rattle.model.specs.Numbers.{read_order}
use Rattle.model.specs.Tables.{Table}
use Rattle.tables.specs.Layout.{table_length}
use Rattle.tables.specs.Reading.{decode}
use Rattle.tables.specs.Whole.{whole}

-- "1: a lent buffer is too short"
abbrev pub is_short : List ℕ → Bool
is_short table = ltb (length table) table_length

-- "12: table not whole"
abbrev pub table_broken : List ℕ → Bool
table_broken table = not (whole table)

-- "a lent text shorter than that is 12": than the length that the table keeps
abbrev pub texts_short : Table → (first second : List ℕ) → Bool
texts_short t first second = ltb (length first) t.first_length || ltb (length second) t.second_length

abbrev pub lent_not_whole : (table first second : List ℕ) → Bool
lent_not_whole table first second = table_broken table || texts_short (decode table) first second

-- the number where nothing absent was asked for: of a table alone, and of a table with its texts
unfoldable pub table_refusal : List ℕ → ℕ
table_refusal table = read_order (is_short table) (table_broken table) false

unfoldable pub lent_refusal : (table first second : List ℕ) → ℕ
lent_refusal table first second = read_order (is_short table) (lent_not_whole table first second) false
