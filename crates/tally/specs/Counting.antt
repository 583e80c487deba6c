-- How many productions, events, calls and parameters productions have.
use Rattle.std.specs.Prelude.{ℕ, ◌+◌, ◌-◌, ◌≤◌, Bool, ◌||◌, List, [], ◌∷◌, ltb, length}
use Rattle.model.specs.Counts.{sequence}
use Rattle.model.specs.Tables.{Production}
use Rattle.model.specs.declared.events.Directive.{Directive}
use Rattle.tables.specs.Layout.{all_parameters}
use Rattle.tables.specs.Reading.{production_total, production_events, production_calls, first_event, first_call, first_parameter, directive_in}
use Rattle.tally.specs.Kept.{kept_from}
use Rattle.tally.specs.declared.count.Tally.{Tally}
use Rattle.tally.specs.declared.count.Extent.{Extent}

-- where the entries of production p stand, and how many they are
unfoldable pub extent_at : List ℕ → ℕ → Extent
extent_at l p =
    record {
      event = first_event l p;
      events = production_events l p;
      call = first_call l p;
      calls = production_calls l p;
      parameter = first_parameter l (first_call l p);
      parameters = first_parameter l (first_call l p + production_calls l p) - first_parameter l (first_call l p);
    }

abbrev pub no_tally : Tally
no_tally = record { productions = 0; events = 0; expanded = 0; calls = 0; parameters = 0 }

-- one production more
unfoldable pub tally_one : Tally → Production → Tally
tally_one t p =
    record {
      productions = t.productions + 1;
      events = t.events + length p.events;
      expanded = t.expanded + length (sequence p);
      calls = t.calls + length p.calls;
      parameters = t.parameters + length (all_parameters p.calls);
    }

unfoldable pub tally_all : Tally → List Production → Tally
tally_all t [] = t
tally_all t (p ∷ ps) = tally_all (tally_one t p) ps

-- the productions of a merge, by the new table's directive
unfoldable pub tally_by : Directive → (old new : List ℕ) → Tally
tally_by Directive.Replace old new = tally_all no_tally (kept_from new 0 old 0)
tally_by Directive.Override old new =
    tally_all (tally_all no_tally (kept_from new 0 old 0)) (kept_from old 0 new (production_total new))
tally_by Directive.Augment old new =
    tally_all (tally_all no_tally (kept_from old 0 new 0)) (kept_from new 0 old (production_total old))

unfoldable pub tally_merged : (old new : List ℕ) → Tally
tally_merged old new = tally_by (directive_in new) old new

module _ (put : Bool → List ℕ → Tally → Production → List ℕ) where
  -- bytes with each production put after those before it
  unfoldable pub put_kept : List ℕ → Tally → List (Bool × Production) → List ℕ
  put_kept l t [] = l
  put_kept l t (k ∷ ks) = put_kept (put k.0 l t k.1) (tally_one t k.1) ks

-- a limit in all is passed
unfoldable pub tally_passes : Tally → Bool
tally_passes t = ltb 64 t.productions || ltb 256 t.expanded || ltb 128 t.calls || ltb 256 t.parameters

-- no count above a bound
pub record TallyBelow (bound : ℕ) (t : Tally) : Type 0 where
  pub productions : t.productions ≤ bound
  pub events : t.events ≤ bound
  pub expanded : t.expanded ≤ bound
  pub calls : t.calls ≤ bound
  pub parameters : t.parameters ≤ bound

-- as many as a table has room for
pub record TallyRoom (t : Tally) : Type 0 where
  pub productions : t.productions ≤ 64
  pub events : t.events ≤ 256
  pub expanded : t.expanded ≤ 256
  pub calls : t.calls ≤ 128
  pub parameters : t.parameters ≤ 256
