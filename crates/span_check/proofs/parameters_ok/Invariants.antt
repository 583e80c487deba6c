-- `span_check::parameters_ok` meets its contract.
use Rattle.std.proofs.Common.{◌≡◌}
use Rattle.words.specs.Words.{word_at}
use Rattle.words.specs.Runs.{every, total}
use Rattle.tables.specs.Layout.{call_parameters_at}
use Rattle.span_check.specs.Spans.{parameters_ok}
use Rattle.span_check.proofs.parameters_ok.Given as goal

abbrev pub invariant-loop-i : goal.invariant-loop-i
invariant-loop-i l = record {
  from : l.from ≡ total (word_at l.l) call_parameters_at l.i;
  ok : l.ok ≡ every (parameters_ok l.l) 0 l.i;
}
