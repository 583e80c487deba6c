-- `judge::events::is_one_digit` meets its contract.
use mathlib.Core.Path.{ap}
use Prim.Native.Nat.{ℕ}
use mathlib.Core.Bool.{◌&&◌}
use lib.Dec.{eqb, leb}
use lib.ListN.{length}
use Rattle.judge.proofs.events.is_one_digit.Goals as goal

pub returns : goal.returns
returns c =
    ap (λ (b : ℕ). eqb (length c.args.digits.now) 1 && (leb 49 b && leb b 57))
    c.first_byte-b.ensures
