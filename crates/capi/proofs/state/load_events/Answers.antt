-- `capi::state::load_events` meets its contract.
use Rattle.capi.proofs.StateBytes.{events_loaded}
use Rattle.capi.proofs.state.load_events.Goals as goal

pub returns : goal.returns
returns c = events_loaded c.args.state.now c.copy_from_slice.new.self c.copy_from_slice.ensures.after
