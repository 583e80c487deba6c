-- `keysyms::search::latin1_named` meets its contract. The constants are what the rules' list computes to: one test over the whole table. Assumes nothing.
use mathlib.Core.Path.{refl, sym, ap, ◌∙◌}
use Rattle.model.specs.Latin1.{latin1_entries}
use Rattle.model.specs.declared.names.DetailRead.{DetailRead}
use Rattle.keysyms.specs.Table.{run_together, starts_from, name_bytes, name_starts}
use Rattle.keysyms.specs.Rule.{Placed}
use Rattle.keysyms.specs.declared.search.NamePlace.{NamePlace}
use Rattle.keysyms.proofs.Held.{value_held, none_held}
use Rattle.keysyms.proofs.search.latin1_named.Goals as goal

pub place_of-requires : goal.place_of-requires
unfolding run_together starts_from name_bytes name_starts latin1_entries
place_of-requires c = (refl, refl)

pub value_at-requires : goal.value_at-requires
value_at-requires c =
    let p : Placed c.args.w.now (NamePlace.At c.in-At.place) = rw c.in-At.is at c.place_of.ensures in p.0

pub returns-in-At : goal.returns-in-At
returns-in-At c =
    let w = c.args.w.now in
    let i = c.in-At.place in
    let p : Placed w (NamePlace.At i) = rw c.in-At.is at c.place_of.ensures in
    ap DetailRead.Value c.value_at.ensures ∙ value_held w i p

pub returns-in-Nowhere : goal.returns-in-Nowhere
returns-in-Nowhere c =
    let w = c.args.w.now in
    let p : Placed w NamePlace.Nowhere = rw c.in-Nowhere.is at c.place_of.ensures in
    sym (none_held w p)
