-- The values of each answer are small, so that they have room in one number of 64 bits.
use Prim.Native.Nat.{ℕ, zero, suc, ◌+◌, ◌≤◌, ◌<◌}
use native.Mathlib.Omega.{arith}
use mathlib.Core.Path.{◌≡◌, refl}
use mathlib.Core.List.{List, [], ◌∷◌, ◌++◌}
use mathlib.Core.Bool.{Bool, true, false, not}
use Rattle.std.specs.Prelude.{Option, None, Some}
use lib.Dec.{leb, ltb}
use lib.ListN.{length}
use Rattle.words.specs.Words.{zeros}
use borrow.Author.Tests.{leb-true, leb-false, ltb-false, le-ltb}
use Rattle.model.specs.Lists.{earliest}
use Rattle.model.specs.Numbers.{read_order, compiled_place, counted_count, located_start, located_length}
use Rattle.model.specs.Bytes.{is_allowed, first_bad_byte}
use Rattle.model.specs.Lines.{line_end, line_at, is_blank_line, directive_at}
use Rattle.model.specs.Compiling.{LineOutcome, add, line_outcome, Outcome, accepted, refused, table_of, go_on, after_line, after_directive, lines_from, lines_of, after_bytes, compiled, compile_outcome, outcome_answer}
use Rattle.model.specs.Tables.{Production, Table}
use Rattle.model.specs.Asking.{located_name, located_parameter}
use Rattle.model.specs.Asking as asking
use Rattle.model.specs.declared.events.Directive.{Directive}
use Rattle.model.specs.declared.answers.Counted.{Counted}
use Rattle.model.specs.declared.answers.Located.{Located}
use Rattle.tables.specs.Reading.{decode, production_total, first_length_in, second_length_in}
use Rattle.tables.specs.Whole.{whole}
use Rattle.words.proofs.Laws.{length_zeros}
use Rattle.tables.proofs.Positions.{cond_both}
use Rattle.table_check.proofs.WholeFacts.{facts_of_whole}
use Rattle.tables.proofs.Theorems.{whole_holds}
use Rattle.calls.specs.Places.{place_of}
use Rattle.calls.specs.Parts.{PartWithin}
use Rattle.calls.specs.Refusals.{is_short, table_broken, texts_short, lent_not_whole, table_refusal, lent_refusal}
use Rattle.calls.specs.Answers.{no_count, count_number, or_refused, count_answer, productions_answer, calls_answer, parameters_answer, no_place, place_number, placed, place_answer, name_answer, parameter_answer}
use Rattle.calls.proofs.Orders.{table_whole, lent_whole}
use Rattle.calls.proofs.Asked.{productions_here, calls_here, calls_past, parameters_here, parameters_past_lem, place_below}
use Rattle.calls.proofs.Located.{name_within_lem, parameter_within_lem}

-- ---- The compiler's place

abbrev place_at : Outcome → ℕ
place_at o = compiled_place (outcome_answer o)

-- a place that is given is below n
abbrev pub Below : ℕ → Option ℕ → Type 0
Below n None = Unit
Below n (Some p) = p < n

pub earliest_below : {A : Type 0} (test : A → Bool) (i n : ℕ) (l : List A) → i + length l ≤ n → Below n (earliest test i l)
earliest_below test i n [] h = tt
earliest_below test i n (x ∷ xs) h =
    cond_both (Below n) (test x) (Some i) (earliest test (suc i) xs) (λ _. omega arith) (λ _. earliest_below test (suc i) n xs (omega arith))

module _ (text : List ℕ) where
  Next : (ℕ → Directive → List Production → Outcome) → Type 0
  Next rest = (p : ℕ) (d : Directive) (qs : List Production) → p ≤ length text → place_at (rest p d qs) ≤ length text

  go_on_lem : (end : ℕ) (d : Directive) (ps : List Production) (rest : ℕ → Directive → List Production → Outcome) → Next rest
      → place_at (go_on text end d ps rest) ≤ length text
  unfolding Next
  go_on_lem end d ps rest f =
      cond_both (λ (o : Outcome). place_at o ≤ length text) (leb (length text) end) (accepted (table_of text d ps)) (rest (end + 1) d ps)
      (λ _. omega arith) (λ e. f (end + 1) d ps (let h = leb-false (length text) end e in omega arith))

  after_line_lem : (at : ℕ) (d : Directive) (ps : List Production) (o : LineOutcome) (rest : ℕ → Directive → List Production → Outcome) → at ≤ length text → Next rest
      → place_at (after_line text at d ps o rest) ≤ length text
  after_line_lem at d ps (add p) rest h f = go_on_lem (line_end text at) d (ps ++ (p ∷ [])) rest f
  after_line_lem at d ps (LineOutcome.refuse n) rest h f = h

  after_directive_lem : (at : ℕ) (d : Directive) (ps : List Production) (r : Option Directive) (rest : ℕ → Directive → List Production → Outcome) → at ≤ length text → Next rest
      → place_at (after_directive text at d ps r rest) ≤ length text
  after_directive_lem at d ps (Some e) rest h f = go_on_lem (line_end text at) e ps rest f
  after_directive_lem at d ps None rest h f =
      cond_both (λ (o : Outcome). place_at o ≤ length text) (is_blank_line (line_at text at)) (go_on text (line_end text at) d ps rest) (after_line text at d ps (line_outcome ps at (line_at text at)) rest)
      (λ _. go_on_lem (line_end text at) d ps rest f)
      (λ _. after_line_lem at d ps (line_outcome ps at (line_at text at)) rest h f)

  lines_place : (fuel at : ℕ) (d : Directive) (ps : List Production) → at ≤ length text → place_at (lines_from fuel text at d ps) ≤ length text
  unfolding lines_from Next
  lines_place zero at d ps h = omega arith
  lines_place (suc fuel) at d ps h =
      after_directive_lem at d ps (directive_at text at) (λ p e qs. lines_from fuel text p e qs) h (λ p e qs q. lines_place fuel p e qs q)

  bytes_place : (r : Option ℕ) → Below (length text) r → place_at (after_bytes text r) ≤ length text
  unfolding lines_of
  bytes_place (Some place) f = omega arith
  bytes_place None f = lines_place (length text + 1) 0 Directive.Replace [] (omega arith)

  bad_byte_within : Below (length text) (first_bad_byte text)
  unfolding first_bad_byte
  bad_byte_within = earliest_below (λ (b : ℕ). not (is_allowed b)) 0 (length text) text (omega arith)

  compiled_place_lem : place_at (compiled text) ≤ 8192
  unfolding compiled
  compiled_place_lem =
      cond_both (λ (o : Outcome). place_at o ≤ 8192) (ltb 8192 (length text)) (refused 2 0) (after_bytes text (first_bad_byte text))
      (λ _. omega arith)
      (λ e. let h = ltb-false 8192 (length text) e in let k = bytes_place (first_bad_byte text) bad_byte_within in omega arith)

pub place_small : (short : Bool) (text : List ℕ) → compiled_place (outcome_answer (compile_outcome short text)) ≤ 8192
unfolding compile_outcome
place_small true text = omega arith
place_small false text = compiled_place_lem text

-- ---- How many

module _ (table : List ℕ) where
  stops_small : (a b : Bool) (asked : Counted) → (read_order a b false ≡ 0 → counted_count asked ≤ 64)
      → counted_count (or_refused (read_order a b (no_count asked)) asked) ≤ 64
  stops_small true b asked h = omega arith
  stops_small false true asked h = omega arith
  stops_small false false (Counted.Accepted k) h = h refl
  stops_small false false (Counted.Refused n) h = omega arith

  count_small : (asked : Counted) → (whole table ≡ true → counted_count asked ≤ 64) → counted_count (count_answer table asked) ≤ 64
  unfolding count_answer count_number table_refusal
  count_small asked h = stops_small (is_short table) (table_broken table) asked (λ e. h (table_whole table e))

  pub productions_small : counted_count (productions_answer table) ≤ 64
  productions_small =
      count_small (asking.production_count (decode table)) (λ w. rw (productions_here table) (facts_of_whole table w).productions)

  calls_of : (p : ℕ) → whole table ≡ true → (b : Bool) → leb (production_total table) p ≡ b → counted_count (asking.call_count (decode table) p) ≤ 64
  calls_of p w true e = rw (calls_past table p (leb-true (production_total table) p e)) (omega arith)
  calls_of p w false e =
      let h = leb-false (production_total table) p e in
      rw (calls_here table p h) (let k = (facts_of_whole table w).few_calls p h in omega arith)

  pub calls_small : (p : ℕ) → counted_count (calls_answer table p) ≤ 64
  calls_small p = count_small (asking.call_count (decode table) p) (λ w. calls_of p w (leb (production_total table) p) refl)

  parameters_of : (p c : ℕ) → whole table ≡ true → (r : Option ℕ) → place_of table p c ≡ r → counted_count (asking.parameter_count (decode table) p c) ≤ 64
  parameters_of p c w (Some i) e =
      rw (parameters_here table p c i e) (let k = (facts_of_whole table w).few_parameters i (place_below table p c i w e) in omega arith)
  parameters_of p c w None e = rw (parameters_past_lem table p c e) (omega arith)

  pub parameters_small : (p c : ℕ) → counted_count (parameters_answer table p c) ≤ 64
  parameters_small p c = count_small (asking.parameter_count (decode table) p c) (λ w. parameters_of p c w (place_of table p c) refl)

-- ---- Where

abbrev end_of : Located → ℕ
end_of a = located_start a + located_length a

module _ (table first second : List ℕ) where
  stops_short : (a b : Bool) (asked : Located) → (read_order a b false ≡ 0 → end_of asked ≤ 8192)
      → end_of (placed (read_order a b (no_place asked)) asked) ≤ 8192
  stops_short true b asked h = omega arith
  stops_short false true asked h = omega arith
  stops_short false false (Located.First s n) h = h refl
  stops_short false false (Located.Second s n) h = h refl
  stops_short false false (Located.Refused n) h = omega arith

  place_short : (asked : Located) → (whole table ≡ true → end_of asked ≤ 8192) → end_of (place_answer table first second asked) ≤ 8192
  unfolding place_answer place_number lent_refusal
  place_short asked h = stops_short (is_short table) (lent_not_whole table first second) asked (λ e. h (lent_whole table first second e))

-- a part that lies in texts of at most 8,192 bytes
end_within : (first second : List ℕ) (a : Located) → PartWithin first second a → length first ≤ 8192 → length second ≤ 8192 → end_of a ≤ 8192
end_within first second (Located.First s n) w p q = omega arith
end_within first second (Located.Second s n) w p q = omega arith
end_within first second (Located.Refused n) w p q = omega arith

module _ (table : List ℕ) (w : whole table ≡ true) where
  -- texts of just the lengths that the table keeps
  texts : (t : Table) → texts_short t (zeros t.first_length) (zeros t.second_length) ≡ false
  texts t =
      rw (length_zeros t.first_length, length_zeros t.second_length, le-ltb t.first_length t.first_length (omega arith), le-ltb t.second_length t.second_length (omega arith))

  first_short : length (zeros (decode table).first_length) ≤ 8192
  unfolding decode
  first_short = rw (length_zeros (first_length_in table)) (facts_of_whole table w).first

  second_short : length (zeros (decode table).second_length) ≤ 8192
  unfolding decode
  second_short = rw (length_zeros (second_length_in table)) (facts_of_whole table w).second

  name_end : (p c : ℕ) → end_of (located_name (decode table) p c) ≤ 8192
  name_end p c =
      end_within _ _ (located_name (decode table) p c)
      (name_within_lem (decode table) (whole_holds table w).fits (zeros (decode table).first_length) (zeros (decode table).second_length) (texts (decode table)) p c)
      first_short second_short

  parameter_end_lem : (p c k : ℕ) → end_of (located_parameter (decode table) p c k) ≤ 8192
  parameter_end_lem p c k =
      end_within _ _ (located_parameter (decode table) p c k)
      (parameter_within_lem (decode table) (whole_holds table w).fits (zeros (decode table).first_length) (zeros (decode table).second_length) (texts (decode table)) p c k)
      first_short second_short

module _ (table first second : List ℕ) where
  pub name_short : (p c : ℕ) → end_of (name_answer table first second p c) ≤ 8192
  name_short p c = place_short table first second (located_name (decode table) p c) (λ w. name_end table w p c)

  pub parameter_short : (p c k : ℕ) → end_of (parameter_answer table first second p c k) ≤ 8192
  parameter_short p c k = place_short table first second (located_parameter (decode table) p c k) (λ w. parameter_end_lem table w p c k)
