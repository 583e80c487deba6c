-- `words::sum` meets its contract.
use Rattle.std.proofs.Common.{◌≡◌, ◌*◌, ◌≤◌}
use Rattle.words.specs.Words.{word_at}
use Rattle.words.specs.Runs.{total}
use Rattle.words.proofs.sum.Given as goal

abbrev pub invariant-loop-i : goal.invariant-loop-i
invariant-loop-i l = (l.s ≤ 65535 * l.i) × (l.s ≡ total (word_at l.l) l.k l.i)
