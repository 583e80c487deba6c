-- A production put by the places of its entries, and that there is room for it.
use Prim.Native.Nat.{ℕ, ◌+◌, ◌≤◌, ◌<◌}
use native.Mathlib.Omega.{arith}
use mathlib.Core.Path.{◌≡◌}
use mathlib.Core.Bool.{Bool}
use mathlib.Core.List.{List}
use Rattle.words.specs.Runs.{run}
use Rattle.tables.specs.Reading.{parameter_entry, call_entry, event_entry, production_entry}
use Rattle.tables.specs.Writing.{put_event, put_parameter, put_production}
use Rattle.tally.specs.Counting.{extent_at, tally_one, TallyRoom}
use Rattle.tally.specs.declared.count.Tally.{Tally}
use Rattle.tally.specs.declared.count.Extent.{Extent}
use Rattle.tally.proofs.Extents as ext
use Rattle.copying.specs.Copying.{puts, put_call_in, put_one}

module _ (l : List ℕ) (p : ℕ) where
  pub put_by_lem : (second : Bool) (t : Tally) (out : List ℕ) (y : Extent) → y ≡ extent_at l p
      → put_production
      (puts put_parameter
      (puts (put_call_in second) (puts put_event out t.events (run (event_entry l) y.event y.events)) t.calls (run (call_entry l) y.call y.calls))
      t.parameters (run (parameter_entry l) y.parameter y.parameters))
      t.productions y.events y.calls
      ≡ put_one second out t (production_entry l p)
  unfolding put_one
  put_by_lem second t out y e = rw (e, ext.events_count l p, ext.calls_count l p, ext.parameters_list l p, ext.calls_list l p, ext.events_list l p)

  pub record Room (t : Tally) (y : Extent) : Type 0 where
    pub productions : t.productions < 64
    pub events : t.events + y.events ≤ 256
    pub calls : t.calls + y.calls ≤ 128
    pub parameters : t.parameters + y.parameters ≤ 256

  pub room_by : (t : Tally) (y : Extent) → y ≡ extent_at l p → TallyRoom (tally_one t (production_entry l p)) → Room t y
  unfolding tally_one
  room_by t y e r =
      rw e
      (record {
        productions = omega (arith, r.productions);
        events = omega (arith, r.events, ext.events_count l p);
        calls = omega (arith, r.calls, ext.calls_count l p);
        parameters = omega (arith, r.parameters, ext.parameters_count l p);
      })
