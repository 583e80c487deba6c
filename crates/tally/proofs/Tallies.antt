-- Laws of tallies.
use Prim.Native.Nat.{ℕ, suc, ◌+◌, ◌-◌, ◌≤◌}
use native.Mathlib.Omega.{arith}
use mathlib.Core.Path.{◌≡◌, refl, sym, ap, ◌∙◌}
use mathlib.Core.List.{List, [], ◌∷◌, ◌++◌, map}
use mathlib.Core.Bool.{Bool, true, false, cond, not}
use lib.ListN.{length, length-append, length-map}
use Rattle.model.specs.Lists.{in_all, those}
use Rattle.model.specs.Counts.{sequence}
use Rattle.model.specs.Tables.{Call, Production}
use Rattle.model.specs.Merging.{is_among, without}
use Rattle.tables.specs.Layout.{flat, all_events, all_calls, all_parameters}
use Rattle.tables.specs.Reading.{production_total, decode}
use Rattle.tables.specs.Whole.{whole}
use Rattle.tables.proofs.Lists.{length_flat, in_all_flat}
use Rattle.tables.proofs.Facts.{LimitFacts, events_in_all_lem}
use Rattle.tally.specs.Kept.{first_of, rest_of, kept_from, marked_call, from_text}
use Rattle.tally.specs.Counting.{no_tally, tally_one, tally_all, TallyBelow, TallyRoom}
use Rattle.tally.specs.declared.count.Tally.{Tally}
pub use Rattle.tally.specs.Laws.{one_below, one_room}
use Rattle.tally.proofs.WholeFacts as facts

-- what `Tally::default()` gives
pub none_is : (t : Tally)
    → (t.productions ≡ 0) × ((t.events ≡ 0) × ((t.expanded ≡ 0) × ((t.calls ≡ 0) × (t.parameters ≡ 0)))) → t ≡ no_tally
none_is t z =
    let e : ◌≡◌ {A = Tally} (record { productions = t.productions; events = t.events; expanded = t.expanded; calls = t.calls; parameters = t.parameters }) no_tally =
    rw (z.0, z.1.0, z.1.1.0, z.1.1.1.0, z.1.1.1.1) in
    e

-- ---- Counts only grow

pub all_fewer : (Fits : Tally → Type 0) → ((t : Tally) (p : Production) → Fits (tally_one t p) → Fits t)
    → (t : Tally) (ps : List Production) → Fits (tally_all t ps) → Fits t
unfolding tally_all
all_fewer Fits fewer t [] f = f
all_fewer Fits fewer t (p ∷ ps) f = fewer t p (all_fewer Fits fewer (tally_one t p) ps f)

pub all_below : (b : ℕ) (t : Tally) (ps : List Production) → TallyBelow b (tally_all t ps) → TallyBelow b t
all_below b t ps r = all_fewer (λ (u : Tally). TallyBelow b u) (one_below b) t ps r

pub all_room : (t : Tally) (ps : List Production) → TallyRoom (tally_all t ps) → TallyRoom t
all_room t ps r = all_fewer (λ (u : Tally). TallyRoom u) one_room t ps r

pub first_room : (t : Tally) (p : Production) (ps : List Production) → TallyRoom (tally_all t (p ∷ ps)) → TallyRoom (tally_one t p)
unfolding tally_all
first_room t p ps r = all_room (tally_one t p) ps r

pub tail_room : (t : Tally) (p : Production) (ps : List Production) → TallyRoom (tally_all t (p ∷ ps)) → TallyRoom (tally_all (tally_one t p) ps)
unfolding tally_all
tail_room t p ps r = r

pub room_below : (t : Tally) → TallyRoom t → TallyBelow 10000 t
room_below t r =
    record {
      productions = omega (arith, r.productions);
      events = omega (arith, r.events);
      expanded = omega (arith, r.expanded);
      calls = omega (arith, r.calls);
      parameters = omega (arith, r.parameters);
    }

-- ---- A tally is a sum

pub record TallySums (t : Tally) (ps : List Production) : Type 0 where
  pub productions : (tally_all t ps).productions ≡ t.productions + length ps
  pub events : (tally_all t ps).events ≡ t.events + length (all_events ps)
  pub expanded : (tally_all t ps).expanded ≡ t.expanded + in_all (λ (p : Production). length (sequence p)) ps
  pub calls : (tally_all t ps).calls ≡ t.calls + length (all_calls ps)
  pub parameters : (tally_all t ps).parameters ≡ t.parameters + length (all_parameters (all_calls ps))

parameters_append : (cs ds : List Call) → length (all_parameters (cs ++ ds)) ≡ length (all_parameters cs) + length (all_parameters ds)
unfolding flat
parameters_append [] ds = omega arith
parameters_append (c ∷ cs) ds =
    omega (
      arith,
      parameters_append cs ds,
      length-append c.parameters (all_parameters (cs ++ ds)),
      length-append c.parameters (all_parameters cs),
    )

pub tally_sums : (t : Tally) (ps : List Production) → TallySums t ps
unfolding tally_all tally_one flat
tally_sums t [] = record { productions = omega arith; events = omega arith; expanded = omega arith; calls = omega arith; parameters = omega arith }
tally_sums t (p ∷ ps) =
    let r : TallySums (tally_one t p) ps = tally_sums (tally_one t p) ps in
    record {
      productions = omega (arith, r.productions);
      events = omega (arith, r.events, length-append p.events (all_events ps));
      expanded = omega (arith, r.expanded);
      calls = omega (arith, r.calls, length-append p.calls (all_calls ps));
      parameters = omega (arith, r.parameters, parameters_append p.calls (all_calls ps));
    }

pub tally_append : (t : Tally) (ps qs : List Production) → tally_all t (ps ++ qs) ≡ tally_all (tally_all t ps) qs
unfolding tally_all
tally_append t [] qs = refl
tally_append t (p ∷ ps) qs = tally_append (tally_one t p) ps qs

-- ---- Marks play no part

pub parameters_marked : (b : Bool) (cs : List Call) → all_parameters (map (marked_call b) cs) ≡ all_parameters cs
unfolding flat
parameters_marked b [] = refl
parameters_marked b (c ∷ cs) = rw (parameters_marked b cs)

one_marked : (b : Bool) (t : Tally) (p : Production) → tally_one t (from_text b p) ≡ tally_one t p
unfolding tally_one sequence
one_marked b t p = rw (length-map p.calls (marked_call b), parameters_marked b p.calls)

pub tally_marked : (b : Bool) (t : Tally) (ps : List Production) → tally_all t (map (from_text b) ps) ≡ tally_all t ps
unfolding tally_all
tally_marked b t [] = refl
tally_marked b t (p ∷ ps) =
    ap (λ (s : Tally). tally_all s (map (from_text b) ps)) (one_marked b t p) ∙ tally_marked b (tally_one t p) ps

-- one production after others
pub one_after : (b : Bool) (ps : List Production) (q : Production) → tally_one (tally_all no_tally ps) q ≡ tally_all no_tally (ps ++ (from_text b q ∷ []))
unfolding tally_all
one_after b ps q = sym (tally_append no_tally ps (from_text b q ∷ []) ∙ one_marked b (tally_all no_tally ps) q)

-- ---- What is kept of a table has at most the table's counts

module _ {A : Type 0} (keep : A → Bool) where
  those_sum : (m : A → ℕ) (xs : List A) → in_all m (those keep xs) ≤ in_all m xs
  those_sum m [] = omega arith
  those_sum m (x ∷ xs) = go (keep x) refl (those_sum m xs)
    where
      go : (k : Bool) → keep x ≡ k → in_all m (those keep xs) ≤ in_all m xs
          → in_all m (cond (keep x) (x ∷ those keep xs) (those keep xs)) ≤ m x + in_all m xs
      go true q h = rw q (omega arith)
      go false q h = rw q (omega arith)

  those_length : (xs : List A) → length (those keep xs) ≤ length xs
  those_length [] = omega arith
  those_length (x ∷ xs) = go (keep x) refl (those_length xs)
    where
      go : (k : Bool) → keep x ≡ k → length (those keep xs) ≤ length xs
          → length (cond (keep x) (x ∷ those keep xs) (those keep xs)) ≤ suc (length xs)
      go true q h = rw q (omega arith)
      go false q h = rw q (omega arith)

all_parameters_lem : (ps : List Production) → length (all_parameters (all_calls ps)) ≡ in_all (λ (p : Production). in_all (λ (c : Call). length c.parameters) p.calls) ps
all_parameters_lem ps = length_flat (λ (c : Call). c.parameters) (all_calls ps) ∙ in_all_flat (λ (c : Call). length c.parameters) (λ (p : Production). p.calls) ps

pub all_productions : (l : List ℕ) → rest_of l 0 ≡ (decode l).productions
unfolding rest_of decode
all_productions l = let e : production_total l - 0 ≡ production_total l = omega arith in rw e

module _ (l : List ℕ) (w : whole l ≡ true) (other : List ℕ) (n b : ℕ) (t : Tally) (r : TallyBelow b t) where
  abbrev ps : List Production
  ps = (decode l).productions

  abbrev keep : Production → Bool
  keep p = not (is_among (first_of other n) p)

  those_below : TallyBelow (b + 256) (tally_all t (those (λ p. not (is_among (first_of other n) p)) (decode l).productions))
  those_below =
      let s : TallySums t (those keep ps) = tally_sums t (those keep ps) in
      let k : LimitFacts ps = facts.limits l w in
      record {
        productions = omega (arith, s.productions, r.productions, those_length keep ps, k.productions);
        events =
            omega (
              arith,
              s.events,
              r.events,
              length_flat (λ (p : Production). p.events) (those keep ps),
              those_sum keep (λ (p : Production). length p.events) ps,
              length_flat (λ (p : Production). p.events) ps,
              events_in_all_lem ps k,
            );
        expanded = omega (arith, s.expanded, r.expanded, those_sum keep (λ (p : Production). length (sequence p)) ps, k.events);
        calls =
            omega (
              arith,
              s.calls,
              r.calls,
              length_flat (λ (p : Production). p.calls) (those keep ps),
              those_sum keep (λ (p : Production). length p.calls) ps,
              k.calls,
            );
        parameters =
            omega (
              arith,
              s.parameters,
              r.parameters,
              all_parameters_lem (those keep ps),
              those_sum keep (λ (p : Production). in_all (λ (c : Call). length c.parameters) p.calls) ps,
              k.parameters,
            );
      }

  pub kept_below : TallyBelow (b + 256) (tally_all t (kept_from l 0 other n))
  unfolding kept_from without
  kept_below = rw all_productions those_below
