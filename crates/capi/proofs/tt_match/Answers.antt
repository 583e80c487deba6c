-- `capi::tt_match` meets its contract.
use Rattle.capi.proofs.Matches.{match_short, match_long, matched_few}
use Rattle.keyboard.specs.Maps.{lent_setting}
use Rattle.capi.proofs.tt_match.Goals as goal

pub returns-then-state-lt-STATE_LENGTH : goal.returns-then-state-lt-STATE_LENGTH
returns-then-state-lt-STATE_LENGTH c =
    let a = c.args in
    let h = match_short a.table.now (lent_setting a.maps.now a.time) a.state.now a.«record».now a.order c.if-state-lt-STATE_LENGTH.true in
    record { value = h.0; state_after = h.1 }

pub matched_word-requires : goal.matched_word-requires
matched_word-requires c =
    let a = c.args in
    matched_few a.table.now (lent_setting a.maps.now a.time) c.load_state.result a.«record».now a.order c.match_event-answer.result c.match_event-answer.ensures.answer

pub returns : goal.returns
returns c =
    let a = c.args in
    let h =
    match_long a.table.now (lent_setting a.maps.now a.time) a.state.now a.«record».now a.order c.if-state-lt-STATE_LENGTH.false
    c.load_state.result c.load_state.ensures c.match_event-answer.result c.match_event-answer.ensures.answer
    c.matched_word.result c.keep.new.out c.matched_word.ensures c.keep.ensures in
    record { value = h.0; state_after = h.1 }
