-- `judge::events::colon_misplaced` meets its contract.
use mathlib.Core.Path.{ap₂}
use mathlib.Core.Bool.{Bool, not, ◌&&◌, ◌||◌}
use Rattle.judge.specs.Judged.{colon_misplaced}
use Rattle.judge.proofs.events.colon_misplaced.Goals as goal

pub returns : goal.returns
unfolding colon_misplaced
returns c =
    ap₂ (λ (a b : Bool). c.args.s.colon && (not a || b))
    c.is_key-key.ensures
    (ap₂ ◌||◌ c.lists_standard-standard.ensures c.adds_shift-shift.ensures)
