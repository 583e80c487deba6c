-- `copying::copy::copy_calls` meets its contract. The invariant: putting what is left gives the whole.
use Prim.Native.Nat.{◌+◌, ◌-◌}
use mathlib.Core.Path.{◌≡◌}
use Rattle.words.specs.Runs.{run}
use Rattle.tables.specs.Reading.{call_entry}
use Rattle.copying.specs.Copying.{puts, put_call_in}
use Rattle.copying.proofs.copy.copy_calls.Given as goal

abbrev pub invariant-loop-i : goal.invariant-loop-i
invariant-loop-i l =
    puts (put_call_in l.second) l.initial.out l.at (run (call_entry l.l) l.from l.n)
    ≡ puts (put_call_in l.second) l.out (l.at + l.i) (run (call_entry l.l) (l.from + l.i) (l.n - l.i))
