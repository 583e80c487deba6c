-- Which types of events a table has, by its events before expansion.
use Prim.Native.Nat.{ℕ, zero, suc, ◌+◌, ◌-◌, ◌≤◌, ◌<◌}
use native.Mathlib.Omega.{arith}
use native.Mathlib.Nat.{zero-add}
use native.Mathlib.Numerals.{add-one}
use Rattle.std.proofs.lemmas.Bool.Decides.{nat_tests}
use mathlib.Core.Path.{◌≡◌, refl, sym, ap, ap₂, ◌∙◌}
use mathlib.Core.Bool.{Bool, true, false, not, ◌&&◌, ◌||◌, or-false, or_assoc}
use mathlib.Core.List.{List, [], ◌∷◌, ◌++◌}
use lib.Dec.{eqb, leb}
use Rattle.words.specs.Words.{word_at}
use Rattle.words.specs.Runs.{run}
use Rattle.words.proofs.RunLaws.{run_more}
use Rattle.model.specs.Lists.{any}
use Rattle.model.specs.Tables.{Production}
use Rattle.model.specs.Counts.{Element, is_release, release_press, press_release, counted_press, counted_release, elements_at, elements_of, expanded, sequence}
use Rattle.model.specs.Matching.{has_type}
use Rattle.model.specs.declared.events.KeptEvent.{KeptEvent}
use Rattle.tables.specs.Layout.{production_events_at, flat, all_events}
use Rattle.tables.specs.Reading.{production_total, event_total, production_events, first_event, event_entry, production_entry, decode}
use Rattle.tables.proofs.Lists.{flat_runs}
use Rattle.types.specs.Types.{any_below, other_code, event_has, has_code, has_either}
use Rattle.fields.proofs.TableFacts.{EntryFacts, TableFacts}

-- ---- A test of the first events

pub below_none : (test : ℕ → Bool) → false ≡ any_below test 0
unfolding any_below
below_none test = refl

pub below_more : (test : ℕ → Bool) (i : ℕ) → any_below test (i + 1) ≡ any_below test i || test i
unfolding any_below
below_more test i = rw add-one

module _ {A : Type 0} (test : A → Bool) where
  pub any_append : (xs ys : List A) → any test (xs ++ ys) ≡ any test xs || any test ys
  any_append [] ys = refl
  any_append (x ∷ xs) ys = ap (λ (b : Bool). test x || b) (any_append xs ys) ∙ sym (or_assoc (test x) (any test xs) (any test ys))

-- ---- One event

module _ (code : ℕ) where
  abbrev has : Element → Bool
  has el = eqb el.code code

  any_press : (n : ℕ) (e : KeptEvent) → any has (release_press (suc n) e) ≡ eqb (e.code + 1) code || eqb e.code code
  unfolding release_press
  any_press zero e = grind arith
  any_press (suc n) e = grind (arith, any_press n e)

  any_release : (n : ℕ) (e : KeptEvent) → any has (press_release (suc n) e) ≡ eqb (e.code - 1) code || eqb e.code code
  unfolding press_release
  any_release zero e = grind arith
  any_release (suc n) e = grind (arith, any_release n e)

  counted_press_lem : (n : ℕ) (e : KeptEvent) → 1 < n → any has (counted_press n e) ≡ eqb e.code code || eqb (e.code + 1) code
  counted_press_lem n e h =
      let s : n - 1 ≡ suc (n - 2) = omega arith in
      rw (s, any_press (n - 2) e) (grind arith)

  counted_release_lem : (n : ℕ) (e : KeptEvent) → 1 < n → any has (counted_release n e) ≡ eqb e.code code || eqb (e.code - 1) code
  counted_release_lem n e h =
      let s : n - 1 ≡ suc (n - 2) = omega arith in
      rw (s, any_release (n - 2) e) (grind arith)

  -- of keys and buttons the releases are odd
  release_other : (c : ℕ) → is_release c ≡ true → other_code c ≡ c - 1
  release_other c q = grind (arith, nat_tests)

  press_other : (c : ℕ) → is_release c ≡ false → 2 ≤ c → c ≤ 5 → other_code c ≡ c + 1
  press_other c q h m = grind (arith, nat_tests)

  elements_have : (e : KeptEvent) → 2 ≤ e.code → (leb e.count 1 || leb e.code 5) ≡ true
      → any has (elements_of e) ≡ event_has e.code e.count code
  unfolding elements_of elements_at event_has
  elements_have e low few =
      let release : 1 < e.count → any has (counted_release e.count e) ≡ eqb e.code code || eqb (e.code - 1) code = counted_release_lem e.count e in
      let press : 1 < e.count → any has (counted_press e.count e) ≡ eqb e.code code || eqb (e.code + 1) code = counted_press_lem e.count e in
      grind (arith, nat_tests, release, press, release_other e.code, press_other e.code)

  -- ---- The tests of words

  -- only keys and buttons are counted
  plain : (own count : ℕ) → 5 < code → 2 ≤ own → (leb count 1 || leb own 5) ≡ true → eqb own code ≡ event_has own count code
  unfolding event_has
  plain own count h low few = grind (arith, nat_tests)

  either : (own count : ℕ) → 1 ≤ count → (eqb own code || (eqb own (other_code code) && not (eqb count 1))) ≡ event_has own count code
  unfolding event_has
  either own count h = grind (arith, nat_tests)

  -- ---- All events

  abbrev event_has_type : KeptEvent → Bool
  event_has_type e = any has (elements_of e)

  expanded_have : (es : List KeptEvent) → any has (expanded es) ≡ any event_has_type es
  unfolding expanded
  expanded_have [] = refl
  expanded_have (e ∷ es) =
      any_append has (elements_of e) (expanded es) ∙ ap (λ (b : Bool). any has (elements_of e) || b) (expanded_have es)

  flat_have : (ps : List Production) → any (has_type code) ps ≡ any event_has_type (all_events ps)
  unfolding has_type sequence flat
  flat_have [] = refl
  flat_have (p ∷ ps) =
      ap₂ ◌||◌ (expanded_have p.events) (flat_have ps)
      ∙ sym (any_append event_has_type p.events (all_events ps))

  module _ (l : List ℕ) (f : TableFacts l) where
    events_flat : all_events (decode l).productions ≡ run (event_entry l) 0 (event_total l)
    unfolding decode production_entry first_event production_events
    events_flat =
        flat_runs (λ (p : Production). p.events) (production_entry l) (event_entry l) (word_at l) production_events_at (production_total l) (λ p. refl)
        ∙ ap (run (event_entry l) 0) f.sum

    -- what the first i events have
    sofar : ℕ → Bool
    sofar i = any event_has_type (run (event_entry l) 0 i)

    sofar_more : (i : ℕ) → i < event_total l → sofar (i + 1) ≡ sofar i || event_has (event_entry l i).code (event_entry l i).count code
    unfolding sofar
    sofar_more i h =
        let e : EntryFacts l i = f.entry i h in
        rw (run_more, any_append, zero-add)
        (ap (λ (b : Bool). any event_has_type (run (event_entry l) 0 i) || b)
        (or-false (event_has_type (event_entry l i)) ∙ elements_have (event_entry l i) e.code_low e.counted))

    sofar_all : sofar (event_total l) ≡ any (has_type code) (decode l).productions
    unfolding sofar
    sofar_all = ap (any event_has_type) (sym events_flat) ∙ sym (flat_have (decode l).productions)

    -- a test that finds the events that have the code
    module _ (test : ℕ → Bool) (t : (i : ℕ) → i < event_total l → test i ≡ event_has (event_entry l i).code (event_entry l i).count code) where
      below_sofar : (n : ℕ) → n ≤ event_total l → any_below test n ≡ sofar n
      unfolding any_below sofar run
      below_sofar zero h = refl
      below_sofar (suc n) h =
          let k : n < event_total l = omega arith in
          ap₂ ◌||◌ (below_sofar n (omega arith)) (t n k) ∙ sym (sofar_more n k) ∙ ap sofar (add-one n)

      below_type : any_below test (event_total l) ≡ any (has_type code) (decode l).productions
      below_type = below_sofar (event_total l) (omega arith) ∙ sofar_all

    pub code_type : 5 < code → any_below (has_code l code) (event_total l) ≡ any (has_type code) (decode l).productions
    unfolding has_code
    code_type h = below_type (has_code l code) (λ i k. at i (f.entry i k))
      where
        at : (i : ℕ) → EntryFacts l i → has_code l code i ≡ event_has (event_entry l i).code (event_entry l i).count code
        at i e = rw e.code_word (plain (event_entry l i).code (event_entry l i).count h e.code_low e.counted)

    pub either_type : any_below (has_either l code (other_code code)) (event_total l) ≡ any (has_type code) (decode l).productions
    unfolding has_either
    either_type = below_type (has_either l code (other_code code)) (λ i k. at i (f.entry i k))
      where
        at : (i : ℕ) → EntryFacts l i → has_either l code (other_code code) i ≡ event_has (event_entry l i).code (event_entry l i).count code
        at i e = rw (e.code_word, e.count_word) (either (event_entry l i).code (event_entry l i).count e.count_low)
