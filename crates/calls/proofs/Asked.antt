-- What the words of a table say of a production, a call and a parameter that is asked for.
use Prim.Native.Nat.{ℕ, zero, suc, ◌+◌, ◌≤◌, ◌<◌}
use native.Mathlib.Omega.{arith}
use native.Mathlib.Nat.{zero-add, add-zero, add-suc, suc-add}
use mathlib.Core.Path.{◌≡◌, refl, sym, ap, ◌∙◌}
use mathlib.Core.List.{List}
use mathlib.Core.Bool.{Bool, true, false, cond}
use Rattle.std.specs.Prelude.{Option, None, Some}
use lib.Dec.{leb}
use borrow.Author.Tests.{leb-true, leb-false}
use Rattle.words.specs.Runs.{run}
use Rattle.words.proofs.RunLaws.{length_run}
use Rattle.model.specs.Tables.{Call, Production}
use Rattle.model.specs.Asking.{at, asked_production, call_in, asked_call, calls_asked, parameters_asked, span_of, name_asked, parameter_of, located, located_name, located_parameter}
use Rattle.model.specs.Asking as asking
use Rattle.model.specs.declared.answers.Counted.{Counted}
use Rattle.model.specs.declared.answers.Located.{Located}
use Rattle.tables.specs.Reading.{production_total, production_calls, first_call, production_entry, call_total, mark_entry, name_entry, call_parameters, first_parameter, parameter_entry, call_entry, decode}
use Rattle.tables.specs.Whole.{whole}
use Rattle.table_check.proofs.WholeFacts.{facts_of_whole}
use Rattle.table_check.proofs.Exact.{whole_facts}
use Rattle.table_check.proofs.CheckFacts.{CheckFacts, calls_within_lem}
use Rattle.calls.specs.Places.{place_of}

-- ---- An element of a run

module _ {A : Type 0} where
  at_run : (f : ℕ → A) (s n i : ℕ) → i < n → at (run f s n) i ≡ Some (f (s + i))
  unfolding run
  at_run f s zero i h = absurd (omega arith)
  at_run f s (suc n) zero h = rw add-zero
  at_run f s (suc n) (suc i) h = at_run f (suc s) n i (omega arith) ∙ ap (λ (k : ℕ). Some (f k)) (suc-add s i ∙ sym (add-suc s i))

  at_past : (f : ℕ → A) (s n i : ℕ) → n ≤ i → at (run f s n) i ≡ None
  unfolding run
  at_past f s zero i h = refl
  at_past f s (suc n) zero h = absurd (omega arith)
  at_past f s (suc n) (suc i) h = at_past f (suc s) n i (omega arith)

module _ (l : List ℕ) where
  -- ---- How many

  pub productions_here : asking.production_count (decode l) ≡ Counted.Accepted (production_total l)
  unfolding asking.production_count decode
  productions_here = ap Counted.Accepted (length_run (production_entry l) 0 (production_total l))

  production_here : (p : ℕ) → p < production_total l → asked_production (decode l) p ≡ Some (production_entry l p)
  unfolding asked_production decode
  production_here p h = at_run (production_entry l) 0 (production_total l) p h ∙ ap (λ (k : ℕ). Some (production_entry l k)) (zero-add p)

  production_past : (p : ℕ) → production_total l ≤ p → asked_production (decode l) p ≡ None
  unfolding asked_production decode
  production_past p h = at_past (production_entry l) 0 (production_total l) p h

  pub calls_here : (p : ℕ) → p < production_total l → asking.call_count (decode l) p ≡ Counted.Accepted (production_calls l p)
  unfolding asking.call_count production_entry
  calls_here p h = ap calls_asked (production_here p h) ∙ ap Counted.Accepted (length_run (call_entry l) (first_call l p) (production_calls l p))

  pub calls_past : (p : ℕ) → production_total l ≤ p → asking.call_count (decode l) p ≡ Counted.Refused 16
  unfolding asking.call_count
  calls_past p h = ap calls_asked (production_past p h)

  -- ---- The place of a call

  call_here : (p c : ℕ) → p < production_total l → c < production_calls l p → asked_call (decode l) p c ≡ Some (call_entry l (first_call l p + c))
  unfolding asked_call production_entry
  call_here p c h q = ap (λ (o : Option Production). call_in o c) (production_here p h) ∙ at_run (call_entry l) (first_call l p) (production_calls l p) c q

  call_past : (p c : ℕ) → p < production_total l → production_calls l p ≤ c → asked_call (decode l) p c ≡ None
  unfolding asked_call production_entry
  call_past p c h q = ap (λ (o : Option Production). call_in o c) (production_here p h) ∙ at_past (call_entry l) (first_call l p) (production_calls l p) c q

  no_production_lem : (p c : ℕ) → production_total l ≤ p → asked_call (decode l) p c ≡ None
  unfolding asked_call
  no_production_lem p c h = ap (λ (o : Option Production). call_in o c) (production_past p h)

  -- the call at a place
  abbrev pub call_there : Option ℕ → Option Call
  call_there (Some i) = Some (call_entry l i)
  call_there None = None

  -- `place_of` is the place of the call that is asked for
  pub call_there_lem : (p c : ℕ) → asked_call (decode l) p c ≡ call_there (place_of l p c)
  unfolding place_of
  call_there_lem p c = go (leb (production_total l) p) (leb (production_calls l p) c) refl refl
    where
      go : (a b : Bool) → leb (production_total l) p ≡ a → leb (production_calls l p) c ≡ b
          → asked_call (decode l) p c ≡ call_there (cond a None (cond b None (Some (first_call l p + c))))
      go true b e f = no_production_lem p c (leb-true (production_total l) p e)
      go false true e f = call_past p c (leb-false (production_total l) p e) (leb-true (production_calls l p) c f)
      go false false e f = call_here p c (leb-false (production_total l) p e) (leb-false (production_calls l p) c f)

  -- it is one of the calls of the table
  abbrev Among : Option ℕ → Type 0
  Among (Some i) = i < call_total l
  Among None = Unit

  place_among : (p c : ℕ) → whole l ≡ true → Among (place_of l p c)
  unfolding place_of production_total production_calls first_call call_total
  place_among p c w = go (leb (production_total l) p) (leb (production_calls l p) c) refl refl
    where
      facts : CheckFacts l
      facts = whole_facts l w

      go : (a b : Bool) → leb (production_total l) p ≡ a → leb (production_calls l p) c ≡ b
          → Among (cond a None (cond b None (Some (first_call l p + c))))
      go true b e f = tt
      go false true e f = tt
      go false false e f =
          let h = leb-false (production_total l) p e in
          let q = leb-false (production_calls l p) c f in
          omega (arith, calls_within_lem l facts.sums p h)

  pub place_below : (p c i : ℕ) → whole l ≡ true → place_of l p c ≡ Some i → i < call_total l
  place_below p c i w e = rw e at (place_among p c w)

  -- ---- Parameters of a call

  pub parameters_here : (p c i : ℕ) → place_of l p c ≡ Some i → asking.parameter_count (decode l) p c ≡ Counted.Accepted (call_parameters l i)
  unfolding asking.parameter_count call_entry
  parameters_here p c i e =
      ap parameters_asked (call_there_lem p c ∙ ap call_there e) ∙ ap Counted.Accepted (length_run (parameter_entry l) (first_parameter l i) (call_parameters l i))

  pub parameters_past_lem : (p c : ℕ) → place_of l p c ≡ None → asking.parameter_count (decode l) p c ≡ Counted.Refused 16
  unfolding asking.parameter_count
  parameters_past_lem p c e = ap parameters_asked (call_there_lem p c ∙ ap call_there e)

  pub parameter_below : (i k : ℕ) → whole l ≡ true → i < call_total l → k < call_parameters l i → first_parameter l i + k < 256
  parameter_below i k w h q =
      let f = facts_of_whole l w in
      omega (arith, f.parameters_within i h, f.parameters)

  pub called_below : (p c i : ℕ) → whole l ≡ true → place_of l p c ≡ Some i → i < 128
  called_below p c i w e = omega (arith, place_below p c i w e, (facts_of_whole l w).calls)

  -- ---- Where

  pub name_here : (p c i : ℕ) → place_of l p c ≡ Some i → located_name (decode l) p c ≡ located (mark_entry l i) (name_entry l i)
  unfolding located_name call_entry
  name_here p c i e = ap name_asked (call_there_lem p c ∙ ap call_there e)

  pub name_past : (p c : ℕ) → place_of l p c ≡ None → located_name (decode l) p c ≡ Located.Refused 16
  unfolding located_name
  name_past p c e = ap name_asked (call_there_lem p c ∙ ap call_there e)

  pub parameter_here : (p c i k : ℕ) → place_of l p c ≡ Some i → k < call_parameters l i
      → located_parameter (decode l) p c k ≡ located (mark_entry l i) (parameter_entry l (first_parameter l i + k))
  unfolding located_parameter call_entry
  parameter_here p c i k e h =
      ap (λ (o : Option Call). parameter_of o k) (call_there_lem p c ∙ ap call_there e)
      ∙ ap (span_of (mark_entry l i)) (at_run (parameter_entry l) (first_parameter l i) (call_parameters l i) k h)

  pub parameter_past : (p c i k : ℕ) → place_of l p c ≡ Some i → call_parameters l i ≤ k
      → located_parameter (decode l) p c k ≡ Located.Refused 16
  unfolding located_parameter call_entry
  parameter_past p c i k e h =
      ap (λ (o : Option Call). parameter_of o k) (call_there_lem p c ∙ ap call_there e)
      ∙ ap (span_of (mark_entry l i)) (at_past (parameter_entry l) (first_parameter l i) (call_parameters l i) k h)

  pub parameter_none : (p c k : ℕ) → place_of l p c ≡ None → located_parameter (decode l) p c k ≡ Located.Refused 16
  unfolding located_parameter
  parameter_none p c k e = ap (λ (o : Option Call). parameter_of o k) (call_there_lem p c ∙ ap call_there e)

-- what is asked of a table, by its words
pub ruleset asked_laws = (facts_of_whole, productions_here, calls_here, calls_past, parameters_here, parameters_past_lem, name_here, name_past, parameter_here, parameter_past, parameter_none)
