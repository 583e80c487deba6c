-- `names::places::type_place` meets its contract: the row is the one that the rules' entries compute to. Assumes nothing.
use Prim.Native.Nat.{◌+◌, ◌-◌}
use native.Mathlib.Omega.{arith}
use mathlib.Core.Path.{◌≡◌, ap, ◌∙◌}
use Rattle.words.specs.Runs.{run}
use Rattle.words.proofs.RunLaws.{get_d_run}
use Rattle.model.specs.Names.{type_entries, protocol_entries, synonym_entries, abbreviation_entries}
use Rattle.names.specs.Groups.{type_groups, type_table}
use Rattle.names.specs.Writing.{type_place}
use Rattle.names.proofs.Written.{type_place_lem}
use borrow.Author.Rules.{rules}
use Rattle.names.proofs.places.type_place.Goals as goal

pub returns : goal.returns
unfolding run type_place type_table type_groups type_entries protocol_entries synonym_entries abbreviation_entries
returns c =
    let a = c.args.code in
    let e : 2 + (a - 2) ≡ a = omega arith in
    let r : c.wide.result ≡ type_place a = c.wide.ensures ∙ get_d_run type_place 2 33 (a - 2) 0 (omega arith) ∙ ap type_place e in
    (r, rw r (type_place_lem a (search rules) (search rules)))
