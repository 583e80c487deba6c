-- `event_check::events_tally` meets its contract.
use Rattle.std.proofs.Common.{◌≡◌, ◌*◌, ◌≤◌, ltb}
use Rattle.words.specs.Runs.{every, total, low_at}
use Rattle.tables.specs.Layout.{counts_at}
use Rattle.event_check.specs.Events.{event_ok, few_at}
use Rattle.event_check.proofs.events_tally.Given as goal

abbrev pub invariant-loop-i : goal.invariant-loop-i
invariant-loop-i l = record {
  ok : l.ok ≡ every (event_ok l.l) 0 l.i;
  bound : l.counts ≤ 255 * l.i;
  counts : l.counts ≡ total (low_at l.l) counts_at l.i;
  few : ltb l.joined 4 ≡ every (few_at l.l) 0 l.i;
}
