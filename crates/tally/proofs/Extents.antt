-- A production by the places of its entries.
use Prim.Native.Nat.{ℕ, ◌+◌, ◌≤◌, ◌<◌}
use native.Mathlib.Omega.{arith}
use mathlib.Core.Path.{◌≡◌, refl, ap, ◌∙◌}
use mathlib.Core.Bool.{true}
use mathlib.Core.List.{List}
use lib.ListN.{length}
use Rattle.words.specs.Runs.{run}
use Rattle.words.proofs.RunLaws.{length_run}
use Rattle.model.specs.Lists.{all}
use Rattle.model.specs.Counts.{expanded, sequence}
use Rattle.tables.specs.Layout.{all_parameters}
use Rattle.tables.specs.Reading.{production_total, call_total, parameter_total, parameter_entry, call_entry, event_entry, production_calls, first_call, production_entry}
use Rattle.tables.specs.Fitting.{event_in_range}
use Rattle.tables.specs.Whole.{whole}
use Rattle.tally.specs.Counting.{extent_at, tally_one}
use Rattle.tally.specs.declared.count.Tally.{Tally}
use Rattle.tally.specs.declared.count.Extent.{Extent}
use Rattle.tally.proofs.WholeFacts as facts

module _ (l : List ℕ) (p : ℕ) where
  abbrev x : Extent
  x = extent_at l p

  pub events_list : (production_entry l p).events ≡ run (event_entry l) (extent_at l p).event (extent_at l p).events
  unfolding production_entry extent_at
  events_list = refl

  pub calls_list : (production_entry l p).calls ≡ run (call_entry l) (extent_at l p).call (extent_at l p).calls
  unfolding production_entry extent_at
  calls_list = refl

  pub parameters_list : all_parameters (production_entry l p).calls ≡ run (parameter_entry l) (extent_at l p).parameter (extent_at l p).parameters
  unfolding production_entry extent_at
  parameters_list = facts.parameters_run l (first_call l p) (production_calls l p)

  pub events_count : length (production_entry l p).events ≡ (extent_at l p).events
  events_count = ap length events_list ∙ length_run (event_entry l) x.event x.events

  pub calls_count : length (production_entry l p).calls ≡ (extent_at l p).calls
  calls_count = ap length calls_list ∙ length_run (call_entry l) x.call x.calls

  pub parameters_count : length (all_parameters (production_entry l p).calls) ≡ (extent_at l p).parameters
  parameters_count = ap length parameters_list ∙ length_run (parameter_entry l) x.parameter x.parameters

  -- ---- What the code makes of it

  pub tally_by_lem : (t : Tally) (y : Extent) (n : ℕ) → y ≡ extent_at l p → n ≡ length (expanded (run (event_entry l) y.event y.events))
      → ◌≡◌ {A = Tally} (record { productions = t.productions + 1; events = t.events + y.events; expanded = t.expanded + n; calls = t.calls + y.calls; parameters = t.parameters + y.parameters })
      (tally_one t (production_entry l p))
  unfolding tally_one sequence
  tally_by_lem t y n e f = rw (f, e, events_count, calls_count, parameters_count, events_list)

  -- ---- Bounds

  pub record Within (y : Extent) : Type 0 where
    pub events : y.event + y.events ≤ 256
    pub calls : y.call + y.calls ≤ call_total l
    pub few_calls : y.calls ≤ 128
    pub parameters : y.parameter + y.parameters ≤ parameter_total l
    pub few_parameters : y.parameters ≤ 256
    pub range : all event_in_range (run (event_entry l) y.event y.events) ≡ true

  pub within : whole l ≡ true → p < production_total l → (y : Extent) → y ≡ extent_at l p → Within y
  unfolding extent_at
  within w h y e =
      let c = facts.calls_in l w p h in
      let q = facts.parameters_in l w (first_call l p + production_calls l p) c in
      let m = facts.from_mono l (first_call l p) (first_call l p + production_calls l p) (omega arith) in
      let a = facts.few_calls l w in
      let b = facts.few_parameters l w in
      rw e
      (record {
        events = facts.events_in l w p h;
        calls = c;
        few_calls = omega arith;
        parameters = omega arith;
        few_parameters = omega arith;
        range = facts.events_range l w p h;
      })
