-- `sequence_check::productions_tally` meets its contract.
use Rattle.std.proofs.Common.{◌≡◌, ◌*◌, ◌≤◌, eqb}
use Rattle.words.specs.Runs.{every, total, low_at}
use Rattle.tables.specs.Layout.{production_events_at, production_calls_at}
use Rattle.sequence_check.specs.Sequences.{plain_ok}
use Rattle.sequence_check.proofs.productions_tally.Given as goal

abbrev pub invariant-loop-p : goal.invariant-loop-p
invariant-loop-p l = record {
  ok : eqb l.faults 0 ≡ every (plain_ok l.l l.most) 0 l.p;
  events_below : l.events ≤ 255 * l.p;
  calls_below : l.calls ≤ 255 * l.p;
  events : l.events ≡ total (low_at l.l) production_events_at l.p;
  calls : l.calls ≡ total (low_at l.l) production_calls_at l.p;
}
