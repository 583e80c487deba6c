-- `names::places::bit_place` meets its contract: the row is the one that the rules' entries compute to. Assumes nothing.
use native.Mathlib.Nat.{zero-add}
use mathlib.Core.Path.{◌≡◌, ap, ◌∙◌}
use Rattle.words.specs.Runs.{run}
use Rattle.words.proofs.RunLaws.{get_d_run}
use Rattle.model.specs.Names.{modifier_entries}
use Rattle.model.specs.Canonical.{bit_name}
use Rattle.names.specs.Groups.{modifier_groups, modifier_table}
use Rattle.names.specs.Writing.{bit_place}
use Rattle.names.proofs.Written.{bit_place_lem}
use borrow.Author.Rules.{rules}
use Rattle.names.proofs.places.bit_place.Goals as goal

pub returns : goal.returns
unfolding run bit_place bit_name modifier_table modifier_groups modifier_entries
returns c =
    let a = c.args.k in
    let r : c.wide.result ≡ bit_place a = c.wide.ensures ∙ get_d_run bit_place 0 13 a 0 (search rules) ∙ ap bit_place (zero-add a) in
    (r, rw r (bit_place_lem a (search rules)))
