-- `event_text::put_counted` meets its contract.
use native.Mathlib.Omega.{arith}
use Rattle.writing.proofs.Laws.{put_then}
use Rattle.event_text.proofs.put_counted.Goals as goal

pub returns : goal.returns
returns c =
    let p = c.put_byte-next.ensures in
    let q = c.put_type-next.ensures in
    let r = c.put_byte-next-2.ensures in
    let s = c.put_count.ensures in
    (put_then p (put_then q.0 (put_then r s.0)), omega (arith, p.next, q.1, r.next, s.1))
