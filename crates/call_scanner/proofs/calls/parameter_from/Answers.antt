use Rattle.model.specs.Calls.{parameter_from, unquoted_from}
use Rattle.model.specs.declared.scan.Class.{Class}
use Rattle.scanner.proofs.Runs.{run_in, test_in, test_is, test_not}
use native.Mathlib.Omega.{arith}
use Rattle.call_scanner.proofs.calls.parameter_from.Goals as goal

pub run_end-close-requires : goal.run_end-close-requires
run_end-close-requires c = omega (arith, test_in c.args.l.now c.args.at 34 (omega arith) c.byte_at.ensures c.if-byte_at-eq34.true)

pub returns-then-byte_at-eq34 : goal.returns-then-byte_at-eq34
unfolding parameter_from unquoted_from
returns-then-byte_at-eq34 c = rw (c.quoted_from.ensures, c.run_end-close.ensures, test_is c.byte_at.ensures c.if-byte_at-eq34.true)

pub skip-after-requires : goal.skip-after-requires
skip-after-requires c = omega (arith, run_in Class.Unquoted c.args.l.now c.args.at c.requires)

pub returns : goal.returns
unfolding parameter_from unquoted_from
returns c = rw (c.parameter_end.ensures, c.skip-after.ensures, c.run_end-end.ensures, test_not c.byte_at.ensures c.if-byte_at-eq34.false)
