-- `words::zero_in` meets its contract.
use Rattle.std.proofs.Common.{◌≡◌, ◌&&◌, take, eqb, length}
use Rattle.std.specs.List.{list_all}
use Rattle.words.specs.Runs.{every}
use Rattle.words.proofs.Zeros.{both_zero}
use Rattle.words.proofs.zero_in.Given as goal

abbrev pub invariant-loop-i : goal.invariant-loop-i
invariant-loop-i g l = eqb l.joined 0 ≡ every (λ i. list_all (both_zero l.l l.from l.back i) l.places) 0 l.i

abbrev pub invariant-loop-p : goal.invariant-loop-p
invariant-loop-p g l =
    (length l.places ≡ g.row.N)
    × (eqb l.joined 0
    ≡ (every (λ i. list_all (both_zero l.l l.from l.back i) l.places) 0 l.i && list_all (both_zero l.l l.from l.back l.i) (take l.p-index l.places)))
