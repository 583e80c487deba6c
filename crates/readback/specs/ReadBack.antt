-- Demand 2 about the code that runs, from bytes to bytes: what `write` leaves of a table that `compile` or `merge` gave,
-- `compile` reads back.
-- For example `s<Key>a:go()`: lent the buffer that it was compiled into, and this text with any bytes after it, `write` leaves
-- the bytes of `Shift<KeyPress>0x61:go()` and a newline; compiling these gives a table of the same one production.
-- The answers and bytes are those that the contracts of the three functions ensure. proofs/ReadBack shows it.
use Rattle.std.specs.Prelude.{ℕ, ◌≤◌, ◌<◌, ◌≡◌, true, List, [], ◌++◌, length, take}
use Rattle.model.specs.Limits.{text_limit}
use Rattle.model.specs.Numbers.{long_text}
use Rattle.model.specs.Canonical.{canonical_text}
use Rattle.model.specs.declared.answers.Compiled.{Compiled}
use Rattle.model.specs.declared.answers.Merged.{Merged}
use Rattle.model.specs.declared.answers.Written.{Written}
use Rattle.tables.specs.Layout.{table_length}
use Rattle.tables.specs.Reading.{decode}
use Rattle.tables.specs.Whole.{whole}
use Rattle.compiler.specs.Compile.{compile_answer, compiled_bytes}
use Rattle.merger.specs.Merge.{merge_answer, merged_bytes}
use Rattle.printer.specs.Write.{written, written_bytes}
use Rattle.roundtrip.specs.Contents.{contents}

-- The bytes of a table and the two texts that are lent with it: "An accepted table is one that an accepted call gave, with its
-- texts unchanged." More bytes may follow either text.
pub data Lent : (table first second : List ℕ) → Type 0 where
  -- a compiled table's text is the first, whatever the second
  by_compile :
      (text buffer more second : List ℕ) → compile_answer text buffer ≡ Compiled.Accepted
      → Lent (compiled_bytes text buffer) (text ++ more) second
  -- "the old table's text is the first"
  by_merge :
      (old new old_buffer new_buffer out more later : List ℕ)
      → compile_answer old old_buffer ≡ Compiled.Accepted
      → compile_answer new new_buffer ≡ Compiled.Accepted
      → merge_answer (compiled_bytes old old_buffer) (compiled_bytes new new_buffer) out ≡ Merged.Accepted
      → Lent (merged_bytes (compiled_bytes old old_buffer) (compiled_bytes new new_buffer) out) (old ++ more) (new ++ later)

-- what `write` leaves at the start of its output, as many bytes as it answers
abbrev pub text_left : (table first second out : List ℕ) → ℕ → List ℕ
text_left table first second out n = take n (written_bytes table first second out)

-- a text compiled into a buffer, beside the table that the text was written from
pub record ReadAgain (table first second text buffer : List ℕ) : Type 0 where
  pub accepts : compile_answer text buffer ≡ Compiled.Accepted
  -- as many productions, and one by one the same events as kept, and calls of the same names and parameters
  pub same : contents text [] (decode (compiled_bytes text buffer)) ≡ contents first second (decode table)
  -- and the text is the canonical one of what it reads to
  pub canonical : canonical_text text [] (decode (compiled_bytes text buffer)) ≡ text

pub record ReadBack : Type 0 where
  -- the writer leaves the canonical text wherever its output is long enough for it
  pub writes :
      {table first second : List ℕ} → Lent table first second → (out : List ℕ)
      → length (canonical_text first second (decode table)) ≤ length out
      → written table first second out ≡ Written.Accepted (length (canonical_text first second (decode table)))
  pub leaves :
      (table first second out : List ℕ) (n : ℕ) → written table first second out ≡ Written.Accepted n
      → text_left table first second out n ≡ canonical_text first second (decode table)
  -- "reads back to the same productions", where it fits the length limit
  pub reads :
      {table first second : List ℕ} → Lent table first second → (out : List ℕ) (n : ℕ)
      → written table first second out ≡ Written.Accepted n → n ≤ text_limit
      → (buffer : List ℕ) → table_length ≤ length buffer → ReadAgain table first second (text_left table first second out n) buffer
  -- where it does not, compiling gives 2
  pub long :
      (table first second out : List ℕ) (n : ℕ) → written table first second out ≡ Written.Accepted n → text_limit < n
      → (buffer : List ℕ) → table_length ≤ length buffer
      → compile_answer (text_left table first second out n) buffer ≡ Compiled.Refused long_text 0
  -- of any whole table, the bytes of a lent text past those that the table keeps play no part
  pub within :
      (table first second more later : List ℕ) → whole table ≡ true
      → (decode table).first_length ≤ length first → (decode table).second_length ≤ length second
      → canonical_text (first ++ more) (second ++ later) (decode table) ≡ canonical_text first second (decode table)
