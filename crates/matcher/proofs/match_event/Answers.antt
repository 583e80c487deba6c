-- `matcher::match_event` meets its contract.
use mathlib.Core.Path.{sym, ◌∙◌}
use Rattle.model.specs.Demand.{MatchCall}
use Rattle.keyboard.specs.Maps.{lent_setting}
use Rattle.matcher.proofs.MatchLaws.{past, refused_first, call_is}
use Rattle.matcher.proofs.AnswerLaws.{answered}
use Rattle.matcher.proofs.match_event.Goals as goal

pub returns-then-number-ne0 : goal.returns-then-number-ne0
returns-then-number-ne0 c =
    let setting = lent_setting c.args.maps.now c.args.limit in
    let call : MatchCall = record { bytes = c.args.«record».now; order = c.args.order } in
    let r =
    answered c.args.table.now setting c.args.state call c.refused.result
    (c.refused.ensures
    ∙ refused_first c.args.table.now setting c.args.state call c.refusal-number.result c.refusal-number.ensures c.if-number-ne0.true) in
    record { answer = r.0; number = r.1.0; selection = r.1.1 }

pub act-requires : goal.act-requires
act-requires c =
    let setting = lent_setting c.args.maps.now c.args.limit in
    let call : MatchCall = record { bytes = c.args.«record».now; order = c.args.order } in
    -- what holds past the refusals
    let passed = past c.args.table.now setting c.args.state call (sym c.refusal-number.ensures ∙ c.if-number-ne0.false) in
    ((passed.is_whole, record { mapped = passed.map_long; good = passed.modifiers_good }), passed.state_whole)

pub returns : goal.returns
returns c =
    let setting = lent_setting c.args.maps.now c.args.limit in
    let call : MatchCall = record { bytes = c.args.«record».now; order = c.args.order } in
    -- what holds past the refusals
    let passed = past c.args.table.now setting c.args.state call (sym c.refusal-number.ensures ∙ c.if-number-ne0.false) in
    let r =
    answered c.args.table.now setting c.args.state call c.act.result
    (c.act.ensures ∙ call_is c.args.table.now setting c.args.state call passed) in
    record { answer = r.0; number = r.1.0; selection = r.1.1 }
