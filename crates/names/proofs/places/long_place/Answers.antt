-- `names::places::long_place` meets its contract: the row is the one that the rules' entries compute to. Assumes nothing.
use native.Mathlib.Nat.{zero-add}
use mathlib.Core.Path.{◌≡◌, ap, ◌∙◌}
use Rattle.words.specs.Runs.{run}
use Rattle.words.proofs.RunLaws.{get_d_run}
use Rattle.model.specs.Names.{modifier_entries}
use Rattle.model.specs.Canonical.{long_name}
use Rattle.names.specs.Groups.{modifier_groups, modifier_table}
use Rattle.names.specs.Writing.{long_place}
use Rattle.names.proofs.Written.{long_place_lem}
use borrow.Author.Rules.{rules}
use Rattle.names.proofs.places.long_place.Goals as goal

pub returns : goal.returns
unfolding run long_place long_name modifier_table modifier_groups modifier_entries
returns c =
    let a = c.args.n in
    let r : c.wide.result ≡ long_place a = c.wide.ensures ∙ get_d_run long_place 0 4 a 0 (search rules) ∙ ap long_place (zero-add a) in
    (r, rw r (long_place_lem a (search rules)))
