-- `capi::state::marks_read` meets its contract.
use lib.Dec.{eqb, leb}
use mathlib.Core.Path.{ap₂}
use mathlib.Core.Bool.{◌&&◌}
use Prim.Native.Nat.{ℕ}
use Rattle.capi.specs.State.{marks_read}
use Rattle.capi.proofs.state.marks_read.Goals as goal

pub returns : goal.returns
unfolding marks_read
returns c = ap₂ (λ (a b : ℕ). leb a 1 && eqb b 0) c.word_at.ensures c.word_at-2.ensures
