-- What the output then is, for any bytes that were lent: after an accepted merge a whole table that reads as model's merge of
-- the two tables, after a refusal but 1 the empty table. proofs/Theorems shows each.
use Rattle.std.specs.Prelude.{ℕ, ◌≡◌, true, List}
use Rattle.model.specs.Numbers.{no_refusal, short_buffer}
use Rattle.model.specs.Tables.{empty_table}
use Rattle.model.specs.Merging.{merged_table}
use Rattle.model.specs.Demand.{Accepted}
use Rattle.model.specs.declared.answers.Merged.{Merged}
use Rattle.tables.specs.Reading.{decode}
use Rattle.tables.specs.Whole.{whole}
use Rattle.merger.specs.Merge.{merge_number, merge_answer, merged_bytes}

-- "Every table or state that an accepted call gives is whole"
abbrev pub MergeIsWhole : Type 0
MergeIsWhole = (old new out : List ℕ) → merge_answer old new out ≡ Merged.Accepted → whole (merged_bytes old new out) ≡ true

-- it reads as the merge, by the rule, of what the two tables read as
abbrev pub MergeReadsAs : Type 0
MergeReadsAs =
    (old new out : List ℕ) → merge_answer old new out ≡ Merged.Accepted
    → decode (merged_bytes old new out) ≡ merged_table (decode old) (decode new)

-- so it is an accepted table where the two are
abbrev pub MergeIsAccepted : Type 0
MergeIsAccepted =
    (old new out : List ℕ) → merge_answer old new out ≡ Merged.Accepted
    → Accepted (decode old) → Accepted (decode new) → Accepted (decode (merged_bytes old new out))

-- "After any other the compiler and merger leave the output table all zero, an empty table."
abbrev pub RefusedMergeIsEmpty : Type 0
RefusedMergeIsEmpty =
    (old new out : List ℕ) → (merge_number old new out ≡ no_refusal → ⊥) → (merge_number old new out ≡ short_buffer → ⊥)
    → (whole (merged_bytes old new out) ≡ true) × (decode (merged_bytes old new out) ≡ empty_table)
