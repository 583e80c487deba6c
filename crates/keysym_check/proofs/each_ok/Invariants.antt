-- `keysym_check::each_ok` meets its contract.
use Rattle.std.proofs.Common.{◌≡◌}
use Rattle.words.specs.Runs.{every}
use Rattle.keysym_check.specs.Slots.{keysyms_ok}
use Rattle.keysym_check.proofs.each_ok.Given as goal

abbrev pub invariant-loop-i : goal.invariant-loop-i
invariant-loop-i l = l.ok ≡ every (keysyms_ok l.l) 0 l.i
