-- `event_text::put_count` meets its contract.
use Rattle.std.proofs.Common.{rules, arith, ap}
use borrow.Author.Tests.{lt-ltb, le-ltb}
use Rattle.model.specs.Canonical.{count_text, decimal}
use Rattle.writing.proofs.Laws.{put_none, put_then, put_as}
use Rattle.event_text.proofs.put_count.Goals as goal

pub returns-then-n-le1 : goal.returns-then-n-le1
unfolding count_text
returns-then-n-le1 c = (rw (le-ltb 1 c.args.n (omega arith)) (put_none _ _), search rules)

pub returns : goal.returns
unfolding count_text
returns c =
    let p = c.put_byte-next.ensures in
    let q = c.put_decimal-next.ensures in
    let r = c.put_byte.ensures in
    (rw (lt-ltb 1 _ c.if-n-le1.false) (put_then p (put_then (put_as (ap decimal c.from.ensures) q.0) r)), omega (arith, p.next, q.1, r.next))
