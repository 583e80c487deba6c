-- `judge::events::first_byte` meets its contract.
use mathlib.Core.Path.{◌≡◌, refl, sym}
use mathlib.Core.List.{List, [], ◌∷◌}
use Prim.Native.Nat.{ℕ}
use native.Mathlib.Omega.{arith}
use lib.ListN.{length, get_or}
use Rattle.judge.proofs.events.first_byte.Goals as goal

empty : (l : List ℕ) → length l ≡ 0 → get_or l 0 0 ≡ 0
empty [] e = refl
empty (b ∷ bs) e = absurd (omega arith)

pub returns-then-digits-eq0 : goal.returns-then-digits-eq0
returns-then-digits-eq0 c = sym (empty c.args.digits.now c.if-digits-eq0.true)
