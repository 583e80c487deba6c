-- `copying::copy::copy_parameters` meets its contract. The invariant: putting what is left gives the whole.
use Prim.Native.Nat.{◌+◌, ◌-◌}
use mathlib.Core.Path.{◌≡◌}
use Rattle.words.specs.Runs.{run}
use Rattle.tables.specs.Reading.{parameter_entry}
use Rattle.copying.specs.Copying.{puts}
use Rattle.tables.specs.Writing.{put_parameter}
use Rattle.copying.proofs.copy.copy_parameters.Given as goal

abbrev pub invariant-loop-i : goal.invariant-loop-i
invariant-loop-i l =
    puts put_parameter l.initial.out l.at (run (parameter_entry l.l) l.from l.n)
    ≡ puts put_parameter l.out (l.at + l.i) (run (parameter_entry l.l) (l.from + l.i) (l.n - l.i))
