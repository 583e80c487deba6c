-- `tally::count::expanded_of` meets its contract. The invariant: the sum and what the events that are left stand for make up the whole.
use Prim.Native.Nat.{◌+◌, ◌-◌, ◌*◌, ◌≤◌}
use mathlib.Core.Path.{◌≡◌}
use lib.ListN.{length}
use Rattle.words.specs.Runs.{run}
use Rattle.tables.specs.Reading.{event_entry}
use Rattle.model.specs.Counts.{expanded}
use Rattle.tally.proofs.count.expanded_of.Given as goal

abbrev pub invariant-loop-i : goal.invariant-loop-i
invariant-loop-i l =
    (l.s ≤ 18 * l.i)
    × (length (expanded (run (event_entry l.l) l.from l.n)) ≡ l.s + length (expanded (run (event_entry l.l) (l.from + l.i) (l.n - l.i))))
