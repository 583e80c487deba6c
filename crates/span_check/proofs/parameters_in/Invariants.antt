-- `span_check::parameters_in` meets its contract.
use Rattle.std.proofs.Common.{◌≡◌, eqb}
use Rattle.words.specs.Runs.{every}
use Rattle.span_check.specs.Spans.{parameter_ok}
use Rattle.span_check.proofs.parameters_in.Given as goal

abbrev pub invariant-loop-i : goal.invariant-loop-i
invariant-loop-i l = eqb l.faults 0 ≡ every (parameter_ok l.l l.text) l.from l.i
