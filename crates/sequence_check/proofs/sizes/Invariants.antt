-- `sequence_check::sizes` meets its contract.
use Rattle.std.proofs.Common.{◌≡◌, ◌*◌, ◌≤◌}
use Rattle.words.specs.Runs.{total}
use Rattle.sequence_check.specs.Sequences.{size_at}
use Rattle.sequence_check.proofs.sizes.Given as goal

abbrev pub invariant-loop-i : goal.invariant-loop-i
invariant-loop-i l = (l.s ≤ 18 * l.i) × (l.s ≡ total (size_at l.l) l.from l.i)
