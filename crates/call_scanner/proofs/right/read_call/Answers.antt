use Rattle.scanner.proofs.Ranges.{CallIn, call_in_lem}
use Rattle.scanner.proofs.Runs.{told}
use Rattle.call_scanner.specs.RightSide.{call_counted, call_spans}
use lib.ListN.{length}
use mathlib.Core.Path.{◌∙◌, ap, sym}
use native.Mathlib.Omega.{arith}
use Rattle.call_scanner.proofs.right.read_call.Goals as goal

pub overflow_add-end : goal.overflow_add-end
overflow_add-end c =
    let b = told (CallIn (length c.args.l.now) c.args.at) c.call_at.ensures c.in-Name.is (call_in_lem c.args.l.now c.args.at) in
    omega (arith, b.2)

pub read_parameters-requires : goal.read_parameters-requires
read_parameters-requires c =
    let b = told (CallIn (length c.args.l.now) c.args.at) c.call_at.ensures c.in-Name.is (call_in_lem c.args.l.now c.args.at) in
    omega (arith, b.2)

pub returns-in-Broken : goal.returns-in-Broken
returns-in-Broken c = ap (call_spans c.args.l.now) (sym c.in-Broken.is ∙ c.call_at.ensures)

pub returns-in-End : goal.returns-in-End
returns-in-End c = ap (call_spans c.args.l.now) (sym c.in-End.is ∙ c.call_at.ensures)

pub returns-in-Broken-read_parameters : goal.returns-in-Broken-read_parameters
returns-in-Broken-read_parameters c =
    ap (call_counted c.in-Name.start c.in-Name.end) (sym c.in-Broken-read_parameters.is ∙ c.read_parameters.ensures)
    ∙ ap (call_spans c.args.l.now) (sym c.in-Name.is ∙ c.call_at.ensures)

pub returns-in-Parameters : goal.returns-in-Parameters
returns-in-Parameters c =
    ap (call_counted c.in-Name.start c.in-Name.end) (sym c.in-Parameters.is ∙ c.read_parameters.ensures)
    ∙ ap (call_spans c.args.l.now) (sym c.in-Name.is ∙ c.call_at.ensures)
