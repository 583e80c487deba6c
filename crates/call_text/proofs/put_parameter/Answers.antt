-- `call_text::put_parameter` meets its contract.
use Rattle.std.proofs.Common.{arith}
use Rattle.writing.proofs.Laws.{put_then}
use Rattle.call_text.proofs.put_parameter.Goals as goal

pub returns : goal.returns
returns c =
    let p = c.put_byte-next.ensures in
    let q = c.put_part-next.ensures in
    let r = c.put_byte.ensures in
    (put_then p (put_then q.0 r), omega (arith, p.next, q.1, r.next))
