-- `judge::spans::count_at` meets its contract.
use mathlib.Core.Path.{subst}
use native.Mathlib.Omega.{arith}
use lib.ListN.{length}
use Rattle.judge.specs.Judged.{count_of, count_summary}
use Rattle.judge.specs.Spans.{CountSpanIn}
use Rattle.judge.proofs.spans.count_at.Goals as goal

-- where the digits stand
pub slice_bounds-count_of-count : goal.slice_bounds-count_of-count
slice_bounds-count_of-count c =
    let f = subst (CountSpanIn (length c.args.l.now)) c.in-Digits.is c.requires in f.0

pub slice_bounds-count_of-start : goal.slice_bounds-count_of-start
slice_bounds-count_of-start c =
    let f = subst (CountSpanIn (length c.args.l.now)) c.in-Digits.is c.requires in omega (arith, f.0, f.1)

pub slice_bounds-count_of-end : goal.slice_bounds-count_of-end
slice_bounds-count_of-end c =
    let f = subst (CountSpanIn (length c.args.l.now)) c.in-Digits.is c.requires in omega (arith, f.0, f.1)

pub returns-in-Absent : goal.returns-in-Absent
unfolding count_summary
returns-in-Absent c = rw c.in-Absent.is

pub returns-in-Digits : goal.returns-in-Digits
unfolding count_of
returns-in-Digits c = rw c.in-Digits.is c.count_of.ensures
