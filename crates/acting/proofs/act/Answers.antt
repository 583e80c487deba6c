-- `acting::act` meets its contract.
use mathlib.Core.Path.{sym, ◌∙◌}
use Rattle.model.specs.Demand.{MatchCall}
use Rattle.records.proofs.Ranges.{read_ranges}
use Rattle.tables.specs.Reading.{decode}
use Rattle.fields.proofs.TableFacts.{table_facts}
use Rattle.keyboard.specs.Maps.{lent_setting}
use Rattle.acting.proofs.ActLaws.{refused_record, dropped_event, heard_event_lem}
use Rattle.acting.proofs.act.Goals as goal

pub returns-in_default : goal.returns-in_default
returns-in_default c =
    let setting = lent_setting c.args.maps.now c.args.limit in
    let call : MatchCall = record { bytes = c.args.«record».now; order = c.args.order } in
    let within = (table_facts c.args.table.now c.requires.0.0).limit in
    let p = c.requires in
    c.refused.ensures
    ∙ refused_record (decode c.args.table.now) within setting p.0.1.mapped p.0.1.good call c.args.state p.1
    c.in_default.field-0 (sym c.in_default.ensures.answer)

pub has_type-requires : goal.has_type-requires
has_type-requires c = c.requires.0.0

pub returns-then-not-has_type : goal.returns-then-not-has_type
returns-then-not-has_type c =
    let setting = lent_setting c.args.maps.now c.args.limit in
    let call : MatchCall = record { bytes = c.args.«record».now; order = c.args.order } in
    let within = (table_facts c.args.table.now c.requires.0.0).limit in
    let p = c.requires in
    dropped_event (decode c.args.table.now) within setting p.0.1.mapped p.0.1.good call c.args.state p.1
    c.in-Event.x (sym c.in-Event.ensures.answer) (sym c.has_type.ensures ∙ c.if-not-has_type.true)

pub heard-requires : goal.heard-requires
heard-requires c =
    (c.requires.0, (c.requires.1, read_ranges c.args.«record».now c.args.order c.in-Event.x (sym c.in-Event.ensures.answer)))

pub returns : goal.returns
returns c =
    let setting = lent_setting c.args.maps.now c.args.limit in
    let call : MatchCall = record { bytes = c.args.«record».now; order = c.args.order } in
    let within = (table_facts c.args.table.now c.requires.0.0).limit in
    let p = c.requires in
    c.heard.ensures
    ∙ heard_event_lem (decode c.args.table.now) within setting p.0.1.mapped p.0.1.good call c.args.state p.1
    c.in-Event.x (sym c.in-Event.ensures.answer) (sym c.has_type.ensures ∙ c.if-not-has_type.false)
