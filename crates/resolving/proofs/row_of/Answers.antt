-- `resolving::row_of` meets its contract.
use native.Mathlib.Omega.{arith}
use borrow.Author.Rules.{rules}
use mathlib.Core.Path.{◌∙◌, ap}
use Rattle.model.specs.Lists.{any}
use Rattle.resolving.specs.Gathering.{is_low_entry}
use Rattle.resolving.proofs.Rows.{maps_long, row_in, row_at, row_known}
use Rattle.resolving.proofs.row_of.Goals as goal

pub overflow_sub-width : goal.overflow_sub-width
overflow_sub-width c = maps_long _ c.requires.0

pub slice_bounds-result-end : goal.slice_bounds-result-end
slice_bounds-result-end c =
    let r = row_in c.args.maps.now c.requires.0 c.args.k c.requires.1 in
    search rules

pub returns-clause-row : goal.returns-clause-row
returns-clause-row c = row_at c.args.maps.now c.requires.0 c.args.k _ _ (omega arith) (omega arith)

pub returns-clause-known : goal.returns-clause-known
returns-clause-known c =
    let a = c.args in
    ap (any is_low_entry) (row_at a.maps.now c.requires.0 a.k _ _ (omega arith) (omega arith)) ∙ row_known a.maps.now c.requires.0 a.k
