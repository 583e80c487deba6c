-- `walk::sixteen` meets its contract.
use Prim.Native.Nat.{◌≤◌}
use mathlib.Core.Path.{◌≡◌}
use Rattle.words.specs.Runs.{total}
use Rattle.tables.specs.Reading.{production_events}
use Rattle.walk.proofs.sixteen.Given as goal

abbrev pub invariant-loop-i : goal.invariant-loop-i
invariant-loop-i l = (l.sum ≤ 256) × (l.sum ≡ total (production_events l.table) l.p l.i)
