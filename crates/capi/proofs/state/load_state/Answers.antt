-- `capi::state::load_state` meets its contract.
use mathlib.Core.Path.{ap, ◌∙◌}
use Prim.Native.Nat.{ℕ}
use lib.Dec.{eqb}
use Rattle.capi.proofs.StateBytes.{loaded}
use Rattle.capi.proofs.state.load_state.Goals as goal

pub returns : goal.returns
returns c = loaded c.args.state.now _ c.load_kept.ensures (c.from.ensures ∙ c.word_at.ensures) (ap (λ (n : ℕ). eqb n 1) c.word_at-2.ensures) c.load_events.ensures
