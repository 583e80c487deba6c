-- `tally::kept::take_kept` meets its contract. The invariant: the tally and the productions that are left come to the whole tally,
-- and so with the bytes.
use mathlib.Core.Path.{◌≡◌}
use Rattle.tally.specs.Counting.{tally_all, put_kept}
use Rattle.tally.specs.Kept.{each_marked, kept_from}
use Rattle.tally.proofs.kept.take_kept.Given as goal

abbrev pub invariant-loop-p : goal.invariant-loop-p
invariant-loop-p g l =
    (tally_all l.initial.t (kept_from l.l 0 l.other l.n) ≡ tally_all l.t (kept_from l.l l.p l.other l.n))
    × (put_kept g.S.Step.put l.initial.out l.initial.t (each_marked l.second (kept_from l.l 0 l.other l.n))
    ≡ put_kept g.S.Step.put l.out l.t (each_marked l.second (kept_from l.l l.p l.other l.n)))
