-- What compiling answers, and what a lent buffer holds after it.
use Rattle.std.specs.Prelude.{ℕ, cond, List, ◌++◌, ltb, length, drop}
use Rattle.words.specs.Words.{zeros}
use Rattle.model.specs.Numbers.{no_refusal}
use Rattle.model.specs.Compiling.{Outcome, accepted, refused, compiled, compile_outcome, outcome_answer}
use Rattle.model.specs.declared.answers.Compiled.{Compiled}
use Rattle.tables.specs.Layout.{table_length, encode}

-- ---- The answer

-- "Compiling checks 1, 2, then 3 over the whole text, then line by line."
abbrev pub lent_outcome : (text table : List ℕ) → Outcome
lent_outcome text table = compile_outcome (ltb (length table) table_length) text

abbrev pub compile_answer : (text table : List ℕ) → Compiled
compile_answer text table = outcome_answer (lent_outcome text table)

abbrev pub outcome_number : Outcome → ℕ
outcome_number (accepted t) = no_refusal
outcome_number (refused n p) = n

abbrev pub compile_number : (text table : List ℕ) → ℕ
compile_number text table = outcome_number (lent_outcome text table)

-- "The place is the byte for 3, the start of the line for 4..11, and 0 for 1 and 2."
abbrev pub outcome_place : Outcome → ℕ
outcome_place (accepted t) = 0
outcome_place (refused n p) = p

abbrev pub compile_place : (text table : List ℕ) → ℕ
compile_place text table = outcome_place (lent_outcome text table)

-- ---- The bytes

-- "After any other [refusal] the compiler and merger leave the output table all zero, an empty table."
unfoldable pub image_of : Outcome → List ℕ
image_of (accepted t) = encode t
image_of (refused n p) = zeros table_length

-- "After a refusal by 1 lent memory is unchanged."; "Bytes past a table .. are never touched."
unfoldable pub compiled_bytes : List ℕ → List ℕ → List ℕ
compiled_bytes text out = cond (ltb (length out) table_length) out (image_of (compiled text) ++ drop table_length out)
