-- `acting::moves::shortened` meets its contract.
use Prim.Native.Nat.{ℕ}
use mathlib.Core.Bool.{Bool}
use Rattle.acting.specs.declared.moves.Left.{Left}

abbrev marks : (kept selected : ℕ) → (is_open : Bool) → Left
marks kept selected is_open = record { kept = kept; selected = selected; «open» = is_open }
