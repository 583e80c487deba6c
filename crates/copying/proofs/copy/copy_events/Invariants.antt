-- `copying::copy::copy_events` meets its contract. The invariant: putting what is left gives the whole.
use Prim.Native.Nat.{◌+◌, ◌-◌}
use mathlib.Core.Path.{◌≡◌}
use Rattle.words.specs.Runs.{run}
use Rattle.tables.specs.Reading.{event_entry}
use Rattle.copying.specs.Copying.{puts}
use Rattle.tables.specs.Writing.{put_event}
use Rattle.copying.proofs.copy.copy_events.Given as goal

abbrev pub invariant-loop-i : goal.invariant-loop-i
invariant-loop-i l =
    puts put_event l.initial.out l.at (run (event_entry l.l) l.from l.n)
    ≡ puts put_event l.out (l.at + l.i) (run (event_entry l.l) (l.from + l.i) (l.n - l.i))
