-- On the bytes of a table that fits, with texts as long as it keeps, the reader of calls gives what the table says.
use Prim.Native.Nat.{ℕ, ◌≤◌}
use mathlib.Core.Path.{◌≡◌, refl, sym, ◌∙◌}
use mathlib.Core.List.{List, ◌++◌}
use mathlib.Core.Bool.{Bool, true, false}
use Rattle.std.specs.Prelude.{Option, None, Some}
use lib.Dec.{ltb}
use lib.ListN.{length}
use borrow.Author.Tests.{le-ltb}
use Rattle.words.proofs.Bools.{or_neither}
use Rattle.model.specs.Tables.{Call, Production, Table}
use Rattle.model.specs.Asking.{at, asked_production, asked_call, calls_asked, parameters_asked, name_asked, span_of, parameter_of, production_count, call_count, parameter_count, located_name, located_parameter}
use Rattle.model.specs.declared.scan.Span.{Span}
use Rattle.tables.specs.Layout.{encode}
use Rattle.tables.specs.Whole.{whole}
use Rattle.tables.specs.Fitting.{fitting}
use Rattle.tables.proofs.Theorems.{decode_encode, whole_encode, whole_length}
use Rattle.calls.specs.Refusals.{texts_short, table_refusal, lent_refusal}
use Rattle.calls.specs.Answers.{productions_answer, calls_answer, parameters_answer, name_answer, parameter_answer}
use Rattle.calls.proofs.Orders.{settled_count, count_passed, settled_place, settled_located, place_passed}
use Rattle.calls.proofs.Answered.{table_good, lent_good_texts}

pub record ReadsTable (t : Table) (table first second : List ℕ) : Type 0 where
  pub productions : productions_answer table ≡ production_count t
  pub calls : (p : ℕ) → calls_answer table p ≡ call_count t p
  pub parameters : (p c : ℕ) → parameters_answer table p c ≡ parameter_count t p c
  pub name : (p c : ℕ) → name_answer table first second p c ≡ located_name t p c
  pub parameter : (p c k : ℕ) → parameter_answer table first second p c k ≡ located_parameter t p c k

-- ---- What a table says is a count, a place or 16

settled_calls : (o : Option Production) → settled_count (calls_asked o) ≡ calls_asked o
settled_calls None = refl
settled_calls (Some p) = refl

settled_parameters : (o : Option Call) → settled_count (parameters_asked o) ≡ parameters_asked o
settled_parameters None = refl
settled_parameters (Some c) = refl

settled_name : (o : Option Call) → settled_place (name_asked o) ≡ name_asked o
settled_name None = refl
settled_name (Some c) = settled_located c.second c.name

settled_span : (m : Bool) (o : Option Span) → settled_place (span_of m o) ≡ span_of m o
settled_span m None = refl
settled_span m (Some s) = settled_located m s

settled_parameter : (o : Option Call) (k : ℕ) → settled_place (parameter_of o k) ≡ parameter_of o k
settled_parameter None k = refl
settled_parameter (Some c) k = settled_span c.second (at c.parameters k)

module _ (t : Table) (fit : fitting t ≡ true) (first second rest : List ℕ) (a : t.first_length ≤ length first) (b : t.second_length ≤ length second) where
  long : texts_short t first second ≡ false
  long =
      or_neither (ltb (length first) t.first_length) (ltb (length second) t.second_length)
      (le-ltb (length first) t.first_length a) (le-ltb (length second) t.second_length b)

  whole_table : whole (encode t ++ rest) ≡ true
  whole_table = whole_encode t fit rest

  table_passes : table_refusal (encode t ++ rest) ≡ 0
  table_passes = sym (table_good (encode t ++ rest) (whole_length (encode t ++ rest) whole_table) whole_table)

  lent_passes : lent_refusal (encode t ++ rest) first second ≡ 0
  lent_passes =
      sym (lent_good_texts (encode t ++ rest) first second (whole_length (encode t ++ rest) whole_table) whole_table
      (rw (decode_encode t fit rest) long))

  pub reads_table : ReadsTable t (encode t ++ rest) first second
  unfolding production_count call_count parameter_count located_name located_parameter
  reads_table =
      record {
        productions = rw (decode_encode t fit rest) (count_passed (encode t ++ rest) (production_count t) table_passes);
        calls = λ p. rw (decode_encode t fit rest) (count_passed (encode t ++ rest) (call_count t p) table_passes ∙ settled_calls (asked_production t p));
        parameters = λ p c. rw (decode_encode t fit rest) (count_passed (encode t ++ rest) (parameter_count t p c) table_passes ∙ settled_parameters (asked_call t p c));
        name = λ p c. rw (decode_encode t fit rest) (place_passed (encode t ++ rest) first second (located_name t p c) lent_passes ∙ settled_name (asked_call t p c));
        parameter = λ p c k. rw (decode_encode t fit rest) (place_passed (encode t ++ rest) first second (located_parameter t p c k) lent_passes ∙ settled_parameter (asked_call t p c) k);
      }
