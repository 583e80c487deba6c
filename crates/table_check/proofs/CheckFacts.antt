-- What the checks say of each word.
use Prim.Native.Nat.{ℕ, ◌+◌, ◌≤◌, ◌<◌}
use native.Mathlib.Omega.{arith}
use native.Mathlib.Nat.{zero-add}
use mathlib.Core.Path.{◌≡◌, refl}
use mathlib.Core.List.{List, [], ◌∷◌}
use mathlib.Core.Bool.{Bool, true, false, cond, ◌&&◌, false≢true}
use lib.Dec.{leb, ltb, eqb}
use lib.ListN.{length}
use borrow.Author.Tests.{leb-true, ltb-false, eqb-true}
use Rattle.words.specs.Words.{word_at}
use Rattle.words.specs.Runs.{total, every, zero_in}
use Rattle.words.proofs.Bools.{chain_parts}
use Rattle.words.proofs.RunLaws.{every_at, total_part}
use Rattle.tables.specs.Layout.{capacities, production_events_at, production_calls_at, call_parameters_at, table_length}
use Rattle.header_check.specs.Header.{header_ok}
use Rattle.table_check.specs.Checks.{sums_ok, entries_ok, checks}
use Rattle.header_check.specs.Unused.{keysym_sections, unused_ok}
use Rattle.event_check.specs.Events.{event_ok}
use Rattle.keysym_check.specs.Slots.{keysyms_ok, slots_ok}
use Rattle.span_check.specs.Spans.{call_ok, parameters_ok}
use Rattle.sequence_check.specs.Sequences.{size_at, production_ok}
use Rattle.header_check.proofs.HeaderFacts.{HeaderFacts, header_facts}
use Rattle.header_check.proofs.UnusedFacts.{Rests, used, rest_facts}
use Rattle.span_check.proofs.CallWords.{CallWordFacts, call_word_facts}

cond_yes : (a b : Bool) → cond a b false ≡ true → (a ≡ true) × (b ≡ true)
cond_yes true b e = (refl, e)
cond_yes false b e = absurd (false≢true e)

cond_no : (a b : Bool) → cond a false b ≡ true → (a ≡ false) × (b ≡ true)
cond_no true b e = absurd (false≢true e)
cond_no false b e = (refl, e)

pub record SumFacts (l : List ℕ) : Type 0 where
  pub events : total (word_at l) production_events_at (word_at l 4) ≡ word_at l 5
  pub calls : total (word_at l) production_calls_at (word_at l 4) ≡ word_at l 6
  pub parameters : total (word_at l) call_parameters_at (word_at l 6) ≡ word_at l 7

pub sum_facts : (l : List ℕ) → sums_ok l ≡ true → SumFacts l
unfolding sums_ok
sum_facts l e =
    let r = chain_parts (eqb (total (word_at l) production_events_at (word_at l 4)) (word_at l 5)) (eqb (total (word_at l) production_calls_at (word_at l 4)) (word_at l 6) ∷ eqb (total (word_at l) call_parameters_at (word_at l 6)) (word_at l 7) ∷ []) e in
    record {
      events = eqb-true (total (word_at l) production_events_at (word_at l 4)) (word_at l 5) r.0;
      calls = eqb-true (total (word_at l) production_calls_at (word_at l 4)) (word_at l 6) r.1.0;
      parameters = eqb-true (total (word_at l) call_parameters_at (word_at l 6)) (word_at l 7) r.1.1.0;
    }

pub record ProductionWordFacts (l : List ℕ) (p : ℕ) : Type 0 where
  pub events : 1 ≤ word_at l (production_events_at + p)
  pub calls : word_at l (production_calls_at + p) ≤ 8
  pub size : total (size_at l) (total (word_at l) production_events_at p) (word_at l (production_events_at + p)) ≤ 24

production_word_facts : (l : List ℕ) (p : ℕ) → production_ok l p ≡ true → ProductionWordFacts l p
unfolding production_ok
production_word_facts l p e =
    let r = chain_parts (leb 1 (word_at l (production_events_at + p))) (leb (word_at l (production_calls_at + p)) 8 ∷ leb (total (size_at l) (total (word_at l) production_events_at p) (word_at l (production_events_at + p))) 24 ∷ []) e in
    record {
      events = leb-true 1 (word_at l (production_events_at + p)) r.0;
      calls = leb-true (word_at l (production_calls_at + p)) 8 r.1.0;
      size = leb-true (total (size_at l) (total (word_at l) production_events_at p) (word_at l (production_events_at + p))) 24 r.1.1.0;
    }

-- all that the checks say
pub record CheckFacts (l : List ℕ) : Type 0 where
  pub long : table_length ≤ length l
  pub header : HeaderFacts l
  pub sums : SumFacts l
  pub rests : Rests l capacities (used l) 0
  pub events : (i : ℕ) → i < word_at l 5 → event_ok l i ≡ true
  pub keysyms : (i : ℕ) → i < word_at l 5 → keysyms_ok l i ≡ true
  pub calls : (i : ℕ) → i < word_at l 6 → CallWordFacts l i
  pub parameters : (i : ℕ) → i < word_at l 6 → parameters_ok l i ≡ true
  pub productions : (i : ℕ) → i < word_at l 4 → ProductionWordFacts l i
  pub sizes : total (size_at l) 0 (word_at l 5) ≤ 256

pub check_facts : (l : List ℕ) → checks l ≡ true → CheckFacts l
unfolding checks entries_ok slots_ok
check_facts l e =
    let a = cond_no (ltb (length l) table_length) (cond (header_ok l) (cond (sums_ok l) (unused_ok l && slots_ok l (word_at l 5) && entries_ok l) false) false) e in
    let h = cond_yes (header_ok l) (cond (sums_ok l) (unused_ok l && slots_ok l (word_at l 5) && entries_ok l) false) a.1 in
    let s = cond_yes (sums_ok l) (unused_ok l && slots_ok l (word_at l 5) && entries_ok l) h.1 in
    let u = chain_parts (unused_ok l) (slots_ok l (word_at l 5) ∷ entries_ok l ∷ []) s.1 in
    let k = chain_parts (every (keysyms_ok l) 0 (word_at l 5)) (zero_in l keysym_sections (word_at l 5) 256 ∷ []) u.1.0 in
    let r = chain_parts (every (event_ok l) 0 (word_at l 5)) (every (call_ok l) 0 (word_at l 6) ∷ every (parameters_ok l) 0 (word_at l 6) ∷ every (production_ok l) 0 (word_at l 4) ∷ leb (total (size_at l) 0 (word_at l 5)) 256 ∷ []) u.1.1.0 in
    record {
      long = ltb-false (length l) table_length a.0;
      header = header_facts l h.0;
      sums = sum_facts l s.0;
      rests = rest_facts l (header_facts l h.0) u.0 k.1.0;
      events = λ i q. rw zero-add at (every_at (event_ok l) 0 (word_at l 5) i r.0 q);
      keysyms = λ i q. rw zero-add at (every_at (keysyms_ok l) 0 (word_at l 5) i k.0 q);
      calls = λ i q. call_word_facts l i (rw zero-add at (every_at (call_ok l) 0 (word_at l 6) i r.1.0 q));
      parameters = λ i q. rw zero-add at (every_at (parameters_ok l) 0 (word_at l 6) i r.1.1.0 q);
      productions = λ i q. production_word_facts l i (rw zero-add at (every_at (production_ok l) 0 (word_at l 4) i r.1.1.1.0 q));
      sizes = leb-true (total (size_at l) 0 (word_at l 5)) 256 r.1.1.1.1.0;
    }

-- a production's events, a production's calls and a call's parameters are among all
module _ (l : List ℕ) (sums : SumFacts l) where
  pub events_within_lem : (p : ℕ) → p < word_at l 4 → total (word_at l) production_events_at p + word_at l (production_events_at + p) ≤ word_at l 5
  events_within_lem p h = omega (arith, total_part (word_at l) production_events_at p (word_at l 4) h, sums.events)

  pub calls_within_lem : (p : ℕ) → p < word_at l 4 → total (word_at l) production_calls_at p + word_at l (production_calls_at + p) ≤ word_at l 6
  calls_within_lem p h = omega (arith, total_part (word_at l) production_calls_at p (word_at l 4) h, sums.calls)

  pub parameters_within_lem : (i : ℕ) → i < word_at l 6 → total (word_at l) call_parameters_at i + word_at l (call_parameters_at + i) ≤ word_at l 7
  parameters_within_lem i h = omega (arith, total_part (word_at l) call_parameters_at i (word_at l 6) h, sums.parameters)
