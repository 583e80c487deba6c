-- The checks 1, 2 and 3, and what an accepted text gives.
use Prim.Native.Nat.{ℕ, ◌≤◌, ◌<◌}
use mathlib.Core.Path.{◌≡◌, refl, sym, ap, ◌∙◌}
use mathlib.Core.Bool.{Bool, cond}
use mathlib.Core.List.{List, [], ◌++◌}
use Rattle.std.specs.Prelude.{Option, None, Some}
use lib.Dec.{ltb}
use lib.ListN.{length, drop}
use borrow.Author.Tests.{le-ltb, lt-ltb}
use Rattle.words.specs.Words.{cleared}
use Rattle.model.specs.Numbers.{short_buffer, long_text, bad_byte, compiled_number, compiled_place}
use Rattle.model.specs.Bytes.{first_bad_byte, run_end, skip}
use Rattle.model.specs.Lines.{line_end, line_at, is_blank_line, directive_of, directive_at}
use Rattle.model.specs.Tables.{Table, empty_table}
use Rattle.model.specs.Compiling.{Outcome, accepted, refused, after_bytes, lines_from, lines_of, compiled, compile_outcome, outcome_answer}
use Rattle.model.specs.declared.answers.Compiled.{Compiled}
use Rattle.tables.specs.Layout.{table_length, encode}
use Rattle.tables.specs.Reading.{decode}
use Rattle.tables.specs.Whole.{whole}
use Rattle.tables.proofs.Theorems.{encode_empty}
use Rattle.tables.proofs.CompiledFits.{compiled_whole, compiled_decode}
use Rattle.compiler.specs.Compile.{lent_outcome, compile_answer, outcome_number, compile_number, outcome_place, compile_place, image_of, compiled_bytes}
use Rattle.compiler.specs.Theorems.{AcceptedIsWhole, EmptyIsZero}

-- ---- The clauses of the contract

number_is : (o : Outcome) → compiled_number (outcome_answer o) ≡ outcome_number o
number_is (accepted t) = refl
number_is (refused n p) = refl

place_is : (o : Outcome) → compiled_place (outcome_answer o) ≡ outcome_place o
place_is (accepted t) = refl
place_is (refused n p) = refl

-- all of them, from the answer and the bytes
pub answered : (text out new : List ℕ) (r : Compiled) → r ≡ compile_answer text out → new ≡ compiled_bytes text out
    → (r ≡ compile_answer text out)
    × ((new ≡ compiled_bytes text out) × ((compiled_number r ≡ compile_number text out) × (compiled_place r ≡ compile_place text out)))
answered text out new r a b =
    (a, (b, (ap compiled_number a ∙ number_is (lent_outcome text out), ap compiled_place a ∙ place_is (lent_outcome text out))))

-- ---- Number 1

module _ (text out : List ℕ) where
  pub short_outcome : length out < table_length → compile_outcome (ltb (length out) table_length) text ≡ refused short_buffer 0
  unfolding compile_outcome
  short_outcome h = ap (λ (b : Bool). cond b (refused short_buffer 0) (compiled text)) (lt-ltb (length out) table_length h)

  pub short_bytes : length out < table_length → compiled_bytes text out ≡ out
  unfolding compiled_bytes
  short_bytes h = ap (λ (b : Bool). cond b out (image_of (compiled text) ++ drop table_length out)) (lt-ltb (length out) table_length h)

  pub long_outcome : table_length ≤ length out → compile_outcome (ltb (length out) table_length) text ≡ compiled text
  unfolding compile_outcome
  long_outcome h = ap (λ (b : Bool). cond b (refused short_buffer 0) (compiled text)) (le-ltb (length out) table_length h)

  pub long_bytes : table_length ≤ length out → compiled_bytes text out ≡ image_of (compiled text) ++ drop table_length out
  unfolding compiled_bytes
  long_bytes h = ap (λ (b : Bool). cond b out (image_of (compiled text) ++ drop table_length out)) (le-ltb (length out) table_length h)

  -- a buffer that is cleared, at a refusal
  pub cleared_bytes : (new : List ℕ) (n p : ℕ) → table_length ≤ length out → compiled text ≡ refused n p → new ≡ cleared table_length out
      → new ≡ compiled_bytes text out
  unfolding image_of cleared
  cleared_bytes new n p h e c = c ∙ ap (λ (o : Outcome). image_of o ++ drop table_length out) (sym e) ∙ sym (long_bytes h)

-- ---- Numbers 2 and 3

module _ (text : List ℕ) where
  pub too_long : 8192 < length text → compiled text ≡ refused long_text 0
  unfolding compiled
  too_long h = ap (λ (b : Bool). cond b (refused long_text 0) (after_bytes text (first_bad_byte text))) (lt-ltb 8192 (length text) h)

  not_long : (o : Option ℕ) → length text ≤ 8192 → first_bad_byte text ≡ o → compiled text ≡ after_bytes text o
  unfolding compiled
  not_long o h e =
      ap (λ (b : Bool). cond b (refused long_text 0) (after_bytes text (first_bad_byte text))) (le-ltb 8192 (length text) h)
      ∙ ap (after_bytes text) e

  pub bad_byte_lem : (p : ℕ) → length text ≤ 8192 → first_bad_byte text ≡ Some p → compiled text ≡ refused bad_byte p
  bad_byte_lem p h e = not_long (Some p) h e

  pub good_bytes : length text ≤ 8192 → first_bad_byte text ≡ None → compiled text ≡ lines_of text
  good_bytes h e = not_long None h e

-- ---- What an accepted text gives

accepted_bytes : (text out : List ℕ) (t : Table) → table_length ≤ length out → compiled text ≡ accepted t
    → compiled_bytes text out ≡ encode t ++ drop table_length out
unfolding image_of
accepted_bytes text out t h e = long_bytes text out h ∙ ap (λ (o : Outcome). image_of o ++ drop table_length out) e

pub accepted_is_whole : AcceptedIsWhole
accepted_is_whole text out t h e =
    let b = accepted_bytes text out t h e in
    (ap whole b ∙ compiled_whole text t (drop table_length out) e, ap decode b ∙ compiled_decode text t (drop table_length out) e)

empty_accepted : compiled [] ≡ accepted empty_table
unfolding compiled first_bad_byte lines_of lines_from directive_at directive_of line_at line_end is_blank_line run_end skip
empty_accepted = refl

pub empty_is_zero : EmptyIsZero
empty_is_zero out h =
    accepted_bytes [] out empty_table h empty_accepted ∙ ap (λ (z : List ℕ). z ++ drop table_length out) encode_empty
