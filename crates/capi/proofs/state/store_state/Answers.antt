-- `capi::state::store_state` meets its contract.
use Rattle.capi.proofs.StateBytes.{state_stored}
use Rattle.capi.proofs.state.store_state.Goals as goal

pub returns : goal.returns
returns c =
    let a = c.args in
    state_stored a.s a.out.now _ _ c.store_marks.ensures c.store_events.ensures
