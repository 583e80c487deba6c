-- `judge::events::lists_standard` meets its contract.
use mathlib.Core.Path.{ap₂}
use mathlib.Core.Bool.{◌||◌}
use Rattle.judge.specs.Judged.{has_standard_bits}
use Rattle.judge.proofs.events.lists_standard.Goals as goal

pub returns : goal.returns
unfolding has_standard_bits
returns c =
    ap₂ ◌||◌ (ap₂ ◌||◌ c.bit-shift_set.ensures c.bit-shift_clear.ensures)
    (ap₂ ◌||◌ c.bit-lock_set.ensures c.bit-lock_clear.ensures)
