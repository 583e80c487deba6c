-- What a whole table says of its entries, as far as the merger needs it.
use Prim.Native.Nat.{ℕ, zero, suc, ◌+◌, ◌-◌, ◌≤◌, ◌<◌}
use native.Mathlib.Omega.{arith}
use native.Mathlib.Nat.{zero-add}
use mathlib.Core.Path.{◌≡◌, refl, ◌∙◌}
use mathlib.Core.List.{List, ◌++◌}
use mathlib.Core.Bool.{Bool, true, false, cond}
use lib.Dec.{eqb}
use lib.ListN.{length, get_or, drop}
use Rattle.words.specs.Words.{word_at}
use Rattle.words.specs.Runs.{run, total}
use Rattle.words.proofs.RunLaws.{length_run, get_d_run, run_append, total_add}
use Rattle.model.specs.Lists.{all}
use Rattle.model.specs.Tables.{Production}
use Rattle.model.specs.declared.scan.Span.{Span}
use Rattle.tables.specs.Layout.{marks_at, call_parameters_at, flat, all_calls, all_parameters, encode, table_length}
use Rattle.tables.specs.Reading.{first_length_in, production_total, call_total, parameter_total, parameter_entry, name_entry, call_parameters, first_parameter, call_entry, event_entry, production_events, production_calls, first_event, first_call, production_entry, decode}
use Rattle.tables.specs.Fitting.{event_in_range, fitting}
use Rattle.tables.specs.Whole.{whole}
use Rattle.span_check.specs.Spans.{length_of_text}
use Rattle.tables.proofs.Lists.{all_at, each_get_d}
use Rattle.tables.proofs.Facts.{FitFacts, fit_facts, text_facts, short_span, short_spans, short_facts, LimitFacts, limit_facts}
use Rattle.tables.proofs.Theorems.{whole_holds, holds_split, whole_length}
use Rattle.table_check.proofs.CheckFacts.{CheckFacts, events_within_lem, calls_within_lem}
use Rattle.table_check.proofs.Exact.{whole_facts}
use Rattle.tables.proofs.Encoded as enc
use Rattle.tables.proofs.MergedFits.{flat_all}

total_mono : (f : ℕ → ℕ) (s i j : ℕ) → i ≤ j → total f s i ≤ total f s j
total_mono f s i j h =
    let e : j ≡ i + (j - i) = omega arith in
    rw e (omega (arith, total_add f s i (j - i)))

text_below : (mark first second : ℕ) → first ≤ 8192 → second ≤ 8192 → length_of_text mark first second ≤ 8192
unfolding length_of_text
text_below mark first second a b = go (eqb mark 1)
  where
    go : (t : Bool) → cond t second first ≤ 8192
    go true = b
    go false = a

-- no index into a whole table is large
pub record Bounds (l : List ℕ) : Type 0 where
  pub long : table_length ≤ length l
  pub productions : production_total l ≤ 64
  pub calls : call_total l ≤ 128
  pub parameters : parameter_total l ≤ 256

module _ (l : List ℕ) (w : whole l ≡ true) where
  pub checked : CheckFacts l
  checked = whole_facts l w

  pub fits : fitting (decode l) ≡ true
  fits = (whole_holds l w).fits

  facts : FitFacts (decode l)
  facts = fit_facts (decode l) fits

  pub limits : LimitFacts (decode l).productions
  limits = limit_facts (decode l).productions facts.limit

  pub long : table_length ≤ length l
  long = whole_length l w

  -- ---- Counts

  pub few_productions : production_total l ≤ 64
  unfolding production_total
  few_productions = checked.header.productions

  pub first_short : first_length_in l ≤ 8192
  unfolding first_length_in
  first_short = checked.header.first

  pub few_calls : call_total l ≤ 128
  unfolding call_total
  few_calls = checked.header.calls

  pub few_parameters : parameter_total l ≤ 256
  unfolding parameter_total
  few_parameters = checked.header.parameters

  pub events_in : (p : ℕ) → p < production_total l → first_event l p + production_events l p ≤ 256
  unfolding production_total first_event production_events
  events_in p h = omega (arith, events_within_lem l checked.sums p h, checked.header.events)

  pub calls_in : (p : ℕ) → p < production_total l → first_call l p + production_calls l p ≤ call_total l
  unfolding production_total first_call production_calls call_total
  calls_in p h = calls_within_lem l checked.sums p h

  pub parameters_in : (i : ℕ) → i ≤ call_total l → first_parameter l i ≤ parameter_total l
  unfolding call_total first_parameter parameter_total
  parameters_in i h = omega (arith, total_mono (word_at l) call_parameters_at i (word_at l 6) h, checked.sums.parameters)

  pub bounds : Bounds l
  bounds = record { long = long; productions = few_productions; calls = few_calls; parameters = few_parameters }

  -- ---- Words

  pub name_short : (i : ℕ) → i < call_total l → (name_entry l i).start + (name_entry l i).len ≤ 8192
  unfolding call_total name_entry
  name_short i h =
      omega (
        arith,
        (checked.calls i h).name,
        text_below (word_at l (marks_at + i)) (word_at l 2) (word_at l 3) checked.header.first checked.header.second,
      )

  pub parameters_short : (i : ℕ) → i < call_total l → call_parameters l i ≤ 8
  unfolding call_total call_parameters
  parameters_short i h = (checked.calls i h).parameters

  split : l ≡ encode (decode l) ++ drop table_length l
  split = holds_split (decode l) l (whole_holds l w)

  short_parameter : (i : ℕ)
      → (get_or (all_parameters (all_calls (decode l).productions)) i enc.no_span).start + (get_or (all_parameters (all_calls (decode l).productions)) i enc.no_span).len ≤ 8192
  short_parameter i =
      each_get_d (λ (s : Span). s.start + s.len ≤ 8192) short_span (all_parameters (all_calls (decode l).productions)) enc.no_span (omega arith) short_facts
      (short_spans (decode l) (text_facts (decode l) facts.texts) (all_calls (decode l).productions) facts.calls) i

  parameter_words : (m : List ℕ) → m ≡ encode (decode l) ++ drop table_length l → (i : ℕ) → i < 256
      → (parameter_entry m i).start + (parameter_entry m i).len ≤ 8192
  unfolding parameter_entry
  parameter_words m e i h =
      let a = enc.parameter_start_word (decode l) fits (drop table_length l) i h in
      let b = enc.parameter_length_word (decode l) fits (drop table_length l) i h in
      rw e (omega (arith, a, b, short_parameter i))

  pub parameter_short : (i : ℕ) → i < 256 → (parameter_entry l i).start + (parameter_entry l i).len ≤ 8192
  parameter_short i h = parameter_words l split i h

  -- ---- Productions

  production_there : (p : ℕ) (d : Production) → p < production_total l → get_or (decode l).productions p d ≡ production_entry l p
  unfolding decode
  production_there p d h = get_d_run (production_entry l) 0 (production_total l) p d h ∙ rw zero-add

  pub count_there : length (decode l).productions ≡ production_total l
  unfolding decode
  count_there = length_run (production_entry l) 0 (production_total l)

  -- what every production of the table passes, production p passes
  pub at_production : (test : Production → Bool) → all test (decode l).productions ≡ true → (p : ℕ) → p < production_total l → test (production_entry l p) ≡ true
  at_production test e p h =
      let q : p < length (decode l).productions = omega (arith, count_there) in
      rw (production_there p enc.no_production h) at (all_at test (decode l).productions p enc.no_production e q)

  pub events_range : (p : ℕ) → p < production_total l → all event_in_range (run (event_entry l) (first_event l p) (production_events l p)) ≡ true
  unfolding production_entry
  events_range p h =
      at_production (λ (q : Production). all event_in_range q.events)
      (flat_all event_in_range (λ (q : Production). q.events) (decode l).productions facts.events) p h

-- ---- Parameters of a run of calls

module _ (l : List ℕ) where
  pub from_next : (c : ℕ) → first_parameter l (suc c) ≡ first_parameter l c + call_parameters l c
  unfolding first_parameter call_parameters total
  from_next c = refl

  pub from_mono : (i j : ℕ) → i ≤ j → first_parameter l i ≤ first_parameter l j
  unfolding first_parameter
  from_mono i j h = total_mono (word_at l) call_parameters_at i j h

  -- they are a run too
  pub parameters_run : (c n : ℕ)
      → all_parameters (run (call_entry l) c n) ≡ run (parameter_entry l) (first_parameter l c) (first_parameter l (c + n) - first_parameter l c)
  unfolding flat run call_entry
  parameters_run c zero =
      let e : first_parameter l (c + 0) - first_parameter l c ≡ 0 = let z : c + 0 ≡ c = omega arith in rw z (omega arith) in
      rw e
  parameters_run c (suc n) =
      let z : c + suc n ≡ suc c + n = omega arith in
      let m = from_mono (suc c) (suc c + n) (omega arith) in
      let s = from_next c in
      let k : first_parameter l (suc c + n) - first_parameter l c ≡ call_parameters l c + (first_parameter l (suc c + n) - first_parameter l (suc c)) = omega arith in
      rw (z, k, run_append (parameter_entry l) (first_parameter l c) (call_parameters l c) (first_parameter l (suc c + n) - first_parameter l (suc c)), ← s, parameters_run (suc c) n)
