-- What the merger answers, and what its output then holds, for any bytes.
use Rattle.std.specs.Prelude.{ℕ, cond, not, List, ◌++◌, eqb, ltb, length, drop}
use Rattle.words.specs.Words.{cleared}
use Rattle.model.specs.Numbers.{merge_order, no_refusal, short_buffer}
use Rattle.model.specs.Merging.{merged_table, merge_passes_limit}
use Rattle.model.specs.declared.answers.Merged.{Merged}
use Rattle.tables.specs.Layout.{table_length, encode}
use Rattle.tables.specs.Reading.{decode}
use Rattle.tables.specs.Whole.{whole}

-- "Merger: 1, 12, 17, 11, the old table first at each."
unfoldable pub merge_number : (old new out : List ℕ) → ℕ
merge_number old new out =
    merge_order
    (ltb (length old) table_length)
    (ltb (length new) table_length)
    (ltb (length out) table_length)
    (not (whole old))
    (not (whole new))
    (decode old).merged
    (decode new).merged
    (merge_passes_limit (decode old) (decode new))

abbrev pub number_answer : ℕ → Merged
number_answer number = cond (eqb number no_refusal) Merged.Accepted (Merged.Refused number)

unfoldable pub merge_answer : (old new out : List ℕ) → Merged
merge_answer old new out = number_answer (merge_number old new out)

-- "After a refusal by 1 lent memory is unchanged. After any other .. the output table all zero". Bytes past the table stay
unfoldable pub merged_bytes : (old new out : List ℕ) → List ℕ
merged_bytes old new out =
    cond (eqb (merge_number old new out) no_refusal) (encode (merged_table (decode old) (decode new)) ++ drop table_length out)
    (cond (eqb (merge_number old new out) short_buffer) out (cleared table_length out))
