use Prim.Native.Nat.{◌+◌}
use Rattle.model.specs.Events.{type_at, type_name, type_run}
use Rattle.model.specs.declared.scan.Class.{Class}
use Rattle.scanner.proofs.Runs.{run_in, skip_in}
use native.Mathlib.Omega.{arith}
use Rattle.event_scanner.proofs.types.type_at.Goals as goal

pub run_end-end-requires : goal.run_end-end-requires
run_end-end-requires c = omega (arith, skip_in c.args.l.now (c.args.at + 1) (omega arith))

pub skip-close-requires : goal.skip-close-requires
skip-close-requires c =
    let h = skip_in c.args.l.now (c.args.at + 1) (omega arith) in
    omega (arith, run_in Class.Name c.args.l.now c.skip-start.result (omega arith))

pub returns : goal.returns
unfolding type_at type_name type_run
returns c = rw (c.type_from.ensures, c.skip-close.ensures, c.run_end-end.ensures, c.skip-start.ensures)
