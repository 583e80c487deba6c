-- `follow::event_meets` meets its contract.
use mathlib.Core.Path.{sym, ◌∙◌}
use Rattle.keyboard.specs.Maps.{lent_setting}
use Rattle.tables.specs.Reading.{event_entry}
use Rattle.fields.proofs.TableFacts.{table_facts}
use Rattle.follow.proofs.EventLaws.{meets_plain}
use Rattle.follow.proofs.event_meets.Goals as goal

pub returns : goal.returns
returns c limit =
    let a = c.args in
    let p = c.requires in
    let f = (table_facts _ p.0.0).entry a.i p.0.1 in
    let e = event_entry a.table.now a.i in
    let m = meets_plain (lent_setting a.maps.now limit) e a.x p.1.1 f.set_below f.clear_below f.keysyms (sym c.names_at.ensures ∙ c.if-names_at.false) in
    rw (c.test_meets.ensures, c.set_at-set.ensures, c.clear_at-clear.ensures, m)
