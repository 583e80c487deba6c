-- Demand 3 for C from the beginning: what `tt_compile` or `tt_merge` left in a buffer is what `tt_match` is then called on. The
-- words are those that their contracts say are returned, the bytes those that they say are left.
use Rattle.std.specs.Prelude.{ℕ, ◌≡◌, List}
use Rattle.model.specs.Tables.{Table}
use Rattle.model.specs.Compiling.{accepted, compiled}
use Rattle.model.specs.Merging.{merged_table}
use Rattle.tables.specs.Reading.{decode}
use Rattle.compiler.specs.Compile.{compile_answer, compiled_bytes}
use Rattle.merger.specs.Merge.{merge_answer, merged_bytes}
use Rattle.capi.specs.Answers.{compiled_word, merged_word}
use Rattle.capi.specs.Demand.{EveryList}

-- where `tt_compile` returned 0 the text is accepted, and the calls on what the buffer then holds meet demand 3 for its table
abbrev pub AfterCompiling : Type 0
AfterCompiling =
    (text buffer : List ℕ) → compiled_word (compile_answer text buffer) ≡ 0
    → (t : Table) × ((compiled text ≡ accepted t) × EveryList (compiled_bytes text buffer) t)

-- where `tt_merge` returned 0, whatever bytes it was lent, they meet it for the rules' merge of what the two read as
abbrev pub AfterMerging : Type 0
AfterMerging =
    (old new out : List ℕ) → merged_word (merge_answer old new out) ≡ 0
    → EveryList (merged_bytes old new out) (merged_table (decode old) (decode new))
