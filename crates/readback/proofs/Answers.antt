-- What the answers of the compiler and the writer say of texts and bytes.
use Prim.Native.Nat.{ℕ, ◌≤◌}
use native.Mathlib.Omega.{arith}
use mathlib.Core.Path.{◌≡◌, refl, sym}
use mathlib.Core.Bool.{Bool, true, false}
use mathlib.Core.List.{List, ◌++◌}
use lib.Dec.{eqb, ltb}
use lib.ListN.{length, take, drop}
use lib.Seq.{take_at}
use borrow.Author.Tests.{ltb-false, le-ltb}
use Rattle.model.specs.Numbers.{no_refusal}
use Rattle.model.specs.Tables.{Table}
use Rattle.model.specs.Compiling.{Outcome, accepted, refused, compiled, compile_outcome, outcome_answer}
use Rattle.model.specs.Canonical.{canonical_text}
use Rattle.model.specs.declared.answers.Compiled.{Compiled}
use Rattle.model.specs.declared.answers.Written.{Written}
use Rattle.tables.specs.Layout.{table_length}
use Rattle.tables.specs.Reading.{decode}
use Rattle.tables.specs.Whole.{whole}
use Rattle.printer.specs.Write.{write_not_whole, text_written, write_number, written, written_bytes}
use Rattle.compiler.specs.Compile.{compile_answer}
use Rattle.readback.specs.ReadBack.{text_left}

-- ---- The compiler

pub record Taken (text buffer : List ℕ) : Type 0 where
  pub table : Table
  pub gives : compiled text ≡ accepted table
  pub room : table_length ≤ length buffer

module _ (text buffer : List ℕ) where
  pub answer_long : table_length ≤ length buffer → compile_answer text buffer ≡ outcome_answer (compiled text)
  unfolding compile_outcome
  answer_long h = rw (le-ltb (length buffer) table_length h)

  pub taken : compile_answer text buffer ≡ Compiled.Accepted → Taken text buffer
  unfolding compile_outcome
  taken e = go (ltb (length buffer) table_length) refl
    where
      of_outcome_lem : table_length ≤ length buffer → (o : Outcome) → compiled text ≡ o → outcome_answer o ≡ Compiled.Accepted → Taken text buffer
      of_outcome_lem h (accepted t) q f = record { table = t; gives = q; room = h }
      of_outcome_lem h (refused n p) q f = let z : ◌≡◌ {A = ℕ} 0 1 = cc in absurd (omega arith)

      go : (b : Bool) → ltb (length buffer) table_length ≡ b → Taken text buffer
      go true q =
          let f : Compiled.Refused 1 0 ≡ Compiled.Accepted = rw q at e in
          let z : ◌≡◌ {A = ℕ} 0 1 = cc in
          absurd (omega arith)
      go false q = of_outcome_lem (ltb-false (length buffer) table_length q) (compiled text) refl (rw q at e)

-- ---- The writer

pub record Left (table first second out : List ℕ) (n : ℕ) : Type 0 where
  pub length_is : n ≡ length (canonical_text first second (decode table))
  pub text_is : text_left table first second out n ≡ canonical_text first second (decode table)

accepted_same : (m n : ℕ) → Written.Accepted m ≡ Written.Accepted n → n ≡ m
accepted_same m n e = cc

left_of_lem : (text out : List ℕ) (n : ℕ) → n ≡ length text → take n (text ++ drop (length text) out) ≡ text
left_of_lem text out n e = take_at text (drop (length text) out) n (sym e)

module _ (table first second out : List ℕ) where
  pub left : (n : ℕ) → written table first second out ≡ Written.Accepted n → Left table first second out n
  unfolding written written_bytes text_written
  left n e = go (eqb (write_number table first second out) no_refusal) refl
    where
      go : (b : Bool) → eqb (write_number table first second out) no_refusal ≡ b → Left table first second out n
      go true q =
          let f : n ≡ length (canonical_text first second (decode table)) = accepted_same (length (canonical_text first second (decode table))) n (rw q at e) in
          record { length_is = f; text_is = rw q (left_of_lem (canonical_text first second (decode table)) out n f) }
      go false q =
          let f : Written.Refused (write_number table first second out) ≡ Written.Accepted n = rw q at e in
          let z : ◌≡◌ {A = ℕ} 0 1 = cc in
          absurd (omega arith)

  pub writes_all : table_length ≤ length table → whole table ≡ true → (decode table).first_length ≤ length first → (decode table).second_length ≤ length second
      → length (canonical_text first second (decode table)) ≤ length out
      → written table first second out ≡ Written.Accepted (length (canonical_text first second (decode table)))
  unfolding written write_number write_not_whole text_written
  writes_all l w a b h =
      rw (
        le-ltb (length table) table_length l,
        w,
        le-ltb (length first) (decode table).first_length a,
        le-ltb (length second) (decode table).second_length b,
        le-ltb (length out) (length (canonical_text first second (decode table))) h,
      )
