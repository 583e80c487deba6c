-- Names and parameters of a table that fits lie in their texts.
use Prim.Native.Nat.{ℕ, zero, suc, ◌+◌, ◌≤◌}
use native.Mathlib.Omega.{arith}
use mathlib.Core.Path.{◌≡◌, refl}
use mathlib.Core.List.{List, [], ◌∷◌}
use mathlib.Core.Bool.{Bool, true, false}
use Rattle.std.specs.Prelude.{Option, None, Some}
use lib.Dec.{ltb}
use lib.ListN.{length}
use borrow.Author.Tests.{leb-true, ltb-false}
use Rattle.words.proofs.Bools.{and_left, and_right, or_no_left, or_no_right}
use Rattle.model.specs.Lists.{all}
use Rattle.model.specs.Tables.{Call, Production, Table}
use Rattle.model.specs.Asking.{at, asked_production, call_in, asked_call, located, name_asked, span_of, parameter_of, located_name, located_parameter}
use Rattle.model.specs.declared.scan.Span.{Span}
use Rattle.tables.specs.Layout.{flat}
use Rattle.tables.specs.Reading.{decode}
use Rattle.tables.specs.Fitting.{fitting, text_length, call_in_range, span_in_text}
use Rattle.tables.proofs.Lists.{all_append_left, all_append_right}
use Rattle.tables.proofs.Facts.{fit_facts, call_facts}
use Rattle.tables.proofs.Theorems.{whole_holds}
use Rattle.calls.specs.Refusals.{texts_short}
use Rattle.calls.specs.Answers.{name_answer, parameter_answer}
use Rattle.calls.specs.Parts.{PartWithin}
use Rattle.calls.proofs.Orders.{lent_whole, lent_texts, answer_within}

-- ---- What holds of every element holds of the one that is asked for

abbrev Each : {A : Type 0} → (A → Bool) → Option A → Type 0
Each test None = Unit
Each test (Some x) = test x ≡ true

module _ {A : Type 0} where
  each_at : (test : A → Bool) (xs : List A) (i : ℕ) → all test xs ≡ true → Each test (at xs i)
  each_at test [] i e = tt
  each_at test (x ∷ xs) zero e = and_left (test x) (all test xs) e
  each_at test (x ∷ xs) (suc i) e = each_at test xs i (and_right (test x) (all test xs) e)

all_of_flat : (test : Call → Bool) (ps : List Production) → all test (flat (λ (p : Production). p.calls) ps) ≡ true
    → all (λ (p : Production). all test p.calls) ps ≡ true
unfolding flat
all_of_flat test [] e = refl
all_of_flat test (p ∷ ps) e =
    let a = all_append_left test p.calls (flat (λ (q : Production). q.calls) ps) e in
    let b = all_of_flat test ps (all_append_right test p.calls (flat (λ (q : Production). q.calls) ps) e) in
    rw (a, b)

each_call : (test : Call → Bool) (o : Option Production) (c : ℕ) → Each (λ (p : Production). all test p.calls) o → Each test (call_in o c)
each_call test None c e = tt
each_call test (Some p) c e = each_at test p.calls c e

module _ (t : Table) (fit : fitting t ≡ true) where
  asked_in_range : (p c : ℕ) → Each (call_in_range t) (asked_call t p c)
  unfolding asked_call asked_production
  asked_in_range p c =
      each_call (call_in_range t) (at t.productions p) c
      (each_at (λ (q : Production). all (call_in_range t) q.calls) t.productions p (all_of_flat (call_in_range t) t.productions (fit_facts t fit).calls))

  module _ (first second : List ℕ) (long : texts_short t first second ≡ false) where
    located_within : (m : Bool) (s : Span) → s.start + s.len ≤ text_length t m → PartWithin first second (located m s)
    located_within true s h =
        let b = ltb-false (length second) t.second_length (or_no_right (ltb (length first) t.first_length) (ltb (length second) t.second_length) long) in
        omega arith
    located_within false s h =
        let b = ltb-false (length first) t.first_length (or_no_left (ltb (length first) t.first_length) (ltb (length second) t.second_length) long) in
        omega arith

    name_of_within : (o : Option Call) → Each (call_in_range t) o → PartWithin first second (name_asked o)
    name_of_within None e = tt
    name_of_within (Some k) e = located_within k.second k.name (call_facts t k e).name

    pub name_within_lem : (p c : ℕ) → PartWithin first second (located_name t p c)
    unfolding located_name
    name_within_lem p c = name_of_within (asked_call t p c) (asked_in_range p c)

    span_of_within : (m : Bool) (o : Option Span) → Each (span_in_text (text_length t m)) o → PartWithin first second (span_of m o)
    unfolding span_in_text
    span_of_within m None e = tt
    span_of_within m (Some s) e = located_within m s (leb-true (s.start + s.len) (text_length t m) e)

    parameter_of_within : (o : Option Call) (k : ℕ) → Each (call_in_range t) o → PartWithin first second (parameter_of o k)
    parameter_of_within None k e = tt
    parameter_of_within (Some c) k e =
        span_of_within c.second (at c.parameters k) (each_at (span_in_text (text_length t c.second)) c.parameters k (call_facts t c e).parameters)

    pub parameter_within_lem : (p c k : ℕ) → PartWithin first second (located_parameter t p c k)
    unfolding located_parameter
    parameter_within_lem p c k = parameter_of_within (asked_call t p c) k (asked_in_range p c)

-- ---- Every answer lies in its text

module _ (table first second : List ℕ) where
  pub name_answer_within : (p c : ℕ) → PartWithin first second (name_answer table first second p c)
  name_answer_within p c =
      answer_within table first second (located_name (decode table) p c)
      (λ e. name_within_lem (decode table) (whole_holds table (lent_whole table first second e)).fits first second (lent_texts table first second e) p c)

  pub parameter_answer_within : (p c k : ℕ) → PartWithin first second (parameter_answer table first second p c k)
  parameter_answer_within p c k =
      answer_within table first second (located_parameter (decode table) p c k)
      (λ e. parameter_within_lem (decode table) (whole_holds table (lent_whole table first second e)).fits first second (lent_texts table first second e) p c k)
