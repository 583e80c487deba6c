-- `span_check::low_sum` meets its contract.
use Rattle.std.proofs.Common.{◌≡◌, ◌*◌, ◌≤◌}
use Rattle.words.specs.Runs.{total, low_at}
use Rattle.span_check.proofs.low_sum.Given as goal

abbrev pub invariant-loop-i : goal.invariant-loop-i
invariant-loop-i l = (l.s ≤ 255 * l.i) × (l.s ≡ total (low_at l.l) l.k l.i)
