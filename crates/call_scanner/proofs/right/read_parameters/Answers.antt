use Rattle.call_scanner.proofs.RightSide.{OpenIn, open_in, opened, opened_is}
use Rattle.scanner.proofs.Runs.{told}
use Rattle.call_scanner.specs.RightSide.{parameters_counted}
use Rattle.call_scanner.specs.declared.right.ParametersOpen.{ParametersOpen}
use lib.ListN.{length}
use mathlib.Core.Path.{◌∙◌, ap, sym}
use Rattle.call_scanner.proofs.right.read_parameters.Goals as goal

pub count_parameters-requires : goal.count_parameters-requires
count_parameters-requires c =
    let b = told (OpenIn (length c.args.l.now) c.args.at) c.open_parameters.ensures c.in-First.is (open_in c.args.l.now c.args.at c.requires) in
    b.1

pub returns-in-Empty : goal.returns-in-Empty
returns-in-Empty c = ap (λ (r : ParametersOpen). parameters_counted (opened c.args.l.now r)) (sym c.in-Empty.is ∙ c.open_parameters.ensures) ∙ ap parameters_counted (opened_is c.args.l.now c.args.at)

pub returns-in-First : goal.returns-in-First
returns-in-First c =
    c.count_parameters.ensures
    ∙ ap (λ (r : ParametersOpen). parameters_counted (opened c.args.l.now r)) (sym c.in-First.is ∙ c.open_parameters.ensures)
    ∙ ap parameters_counted (opened_is c.args.l.now c.args.at)
