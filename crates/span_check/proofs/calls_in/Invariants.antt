-- `span_check::calls_in` meets its contract.
use Rattle.std.proofs.Common.{◌≡◌, ◌*◌, ◌≤◌, eqb}
use Rattle.words.specs.Runs.{every, total, low_at}
use Rattle.tables.specs.Layout.{call_parameters_at}
use Rattle.span_check.specs.Spans.{call_ok}
use Rattle.span_check.proofs.calls_in.Given as goal

abbrev pub invariant-loop-i : goal.invariant-loop-i
invariant-loop-i g l = record {
  ok : eqb l.faults 0 ≡ every (call_ok l.l) 0 l.i;
  bound : l.total ≤ 255 * l.i;
  total : l.total ≡ total (low_at l.l) call_parameters_at l.i;
}
