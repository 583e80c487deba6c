-- Document 01, "Merging and writing" and "Writer: 1 for the table, 12, 1 for its output": what the writer answers and what its
-- output then holds, for all input.
use Rattle.std.specs.Prelude.{ℕ, Bool, cond, not, ◌||◌, List, ◌++◌, eqb, ltb, length, drop}
use Rattle.model.specs.Numbers.{write_order, no_refusal}
use Rattle.model.specs.Canonical.{canonical_text}
use Rattle.model.specs.declared.answers.Written.{Written}
use Rattle.tables.specs.Layout.{table_length}
use Rattle.tables.specs.Reading.{decode}
use Rattle.tables.specs.Whole.{whole}

module _ (l first second : List ℕ) where
  -- "a lent text shorter than that is 12"
  unfoldable pub write_not_whole : Bool
  write_not_whole =
      not (whole l)
      || ltb (length first) (decode l).first_length
      || ltb (length second) (decode l).second_length

  unfoldable pub text_written : List ℕ
  text_written = canonical_text first second (decode l)

  module _ (out : List ℕ) where
    -- the number of the first check that applies, 0 where none does
    unfoldable pub write_number : ℕ
    write_number = write_order (ltb (length l) table_length) write_not_whole (ltb (length out) (length text_written))

    -- how many bytes are written
    unfoldable pub write_length : ℕ
    write_length = cond (eqb write_number no_refusal) (length text_written) 0

    unfoldable pub written : Written
    written = cond (eqb write_number no_refusal) (Written.Accepted (length text_written)) (Written.Refused write_number)

    -- "A refused write changes no byte"; bytes past the text are never touched
    unfoldable pub written_bytes : List ℕ
    written_bytes = cond (eqb write_number no_refusal) (text_written ++ drop (length text_written) out) out
