-- What the tests of a call say of its words.
use Prim.Native.Nat.{ℕ, ◌+◌, ◌≤◌}
use mathlib.Core.Path.{◌≡◌}
use mathlib.Core.List.{List, [], ◌∷◌}
use mathlib.Core.Bool.{true}
use lib.Dec.{leb}
use borrow.Author.Tests.{leb-true}
use Rattle.words.specs.Words.{word_at}
use Rattle.words.proofs.Bools.{chain_parts}
use Rattle.tables.specs.Layout.{marks_at, name_starts_at, name_lengths_at, call_parameters_at}
use Rattle.span_check.specs.Spans.{length_of_text, call_words_ok, call_ok}

pub record CallWordFacts (l : List ℕ) (i : ℕ) : Type 0 where
  pub mark : word_at l (marks_at + i) ≤ word_at l 1
  pub parameters : word_at l (call_parameters_at + i) ≤ 8
  pub name : word_at l (name_starts_at + i) + word_at l (name_lengths_at + i) ≤ length_of_text (word_at l (marks_at + i)) (word_at l 2) (word_at l 3)

pub call_word_facts : (l : List ℕ) (i : ℕ) → call_ok l i ≡ true → CallWordFacts l i
unfolding call_ok call_words_ok
call_word_facts l i e =
    let r = chain_parts (leb (word_at l (marks_at + i)) (word_at l 1)) (leb (word_at l (call_parameters_at + i)) 8 ∷ leb (word_at l (name_starts_at + i) + word_at l (name_lengths_at + i)) (length_of_text (word_at l (marks_at + i)) (word_at l 2) (word_at l 3)) ∷ []) e in
    record {
      mark = leb-true (word_at l (marks_at + i)) (word_at l 1) r.0;
      parameters = leb-true (word_at l (call_parameters_at + i)) 8 r.1.0;
      name = leb-true (word_at l (name_starts_at + i) + word_at l (name_lengths_at + i)) (length_of_text (word_at l (marks_at + i)) (word_at l 2) (word_at l 3)) r.1.1.0;
    }
