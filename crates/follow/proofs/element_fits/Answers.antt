-- `follow::element_fits` meets its contract.
use native.Mathlib.Omega.{arith}
use Rattle.std.proofs.lemmas.Bool.Decides.{nat_tests}
use Rattle.follow.specs.Follow.{element_of, fits_after}
use Rattle.follow.proofs.element_fits.Goals as goal

pub returns-then-not-event_meets : goal.returns-then-not-event_meets
unfolding fits_after element_of
returns-then-not-event_meets c = let m = c.event_meets.ensures c.args.limit in grind (arith, nat_tests)

pub returns-then-not-is_timed : goal.returns-then-not-is_timed
unfolding fits_after element_of
returns-then-not-is_timed c = let m = c.event_meets.ensures c.args.limit in grind (arith, nat_tests)

pub returns : goal.returns
unfolding fits_after element_of
returns c = let m = c.event_meets.ensures c.args.limit in grind (arith, nat_tests)
