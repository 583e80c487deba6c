-- `tally::compare::is_among` meets its contract. The invariant: the productions that are left decide, and `b` is the place of the next one's first event.
use Prim.Native.Nat.{◌-◌}
use mathlib.Core.Path.{◌≡◌}
use Rattle.model.specs.Merging.{is_among}
use Rattle.words.specs.Runs.{run}
use Rattle.tables.specs.Reading.{production_entry, first_event}
use Rattle.tally.specs.Kept.{first_of}
use Rattle.tally.proofs.compare.is_among.Given as goal

abbrev pub invariant-loop-q : goal.invariant-loop-q
invariant-loop-q l =
    (l.b ≡ first_event l.other l.q)
    × (is_among (first_of l.other l.n) (production_entry l.l l.p) ≡ is_among (run (production_entry l.other) l.q (l.n - l.q)) (production_entry l.l l.p))
