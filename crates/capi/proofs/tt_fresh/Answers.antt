-- `capi::tt_fresh` meets its contract.
use mathlib.Core.Path.{◌∙◌}
use Rattle.capi.proofs.Matches.{fresh_short, fresh_long}
use Rattle.capi.proofs.tt_fresh.Goals as goal

pub returns-then-state-lt-STATE_LENGTH : goal.returns-then-state-lt-STATE_LENGTH
returns-then-state-lt-STATE_LENGTH c =
    let h = fresh_short c.args.state.now c.if-state-lt-STATE_LENGTH.true in
    record { value = h.0; state_after = h.1 }

pub returns : goal.returns
returns c =
    let h = fresh_long c.args.state.now c.if-state-lt-STATE_LENGTH.false in
    record { value = h.0; state_after = c.clear.ensures ∙ h.1 }
