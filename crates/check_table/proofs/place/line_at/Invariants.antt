-- `check_table::place::line_at` meets its contract.
use Rattle.std.proofs.Common.{◌≡◌, ◌+◌, ◌≤◌, ◌==◌, take, count_by}
use Rattle.check_table.proofs.place.line_at.Given as goal

abbrev pub invariant-loop-b : goal.invariant-loop-b
invariant-loop-b l =
    record {
      counted : l.line ≡ count_by (λ b. b == 10) (take l.b-index l.b-items) + 1;
      few : l.line ≤ l.b-index + 1;
    }
