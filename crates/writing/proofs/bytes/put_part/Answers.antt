-- `writing::bytes::put_part` meets its contract.
use Rattle.std.proofs.Common.{rules, arith, sym}
use Rattle.std.proofs.lemmas.List.{take_more}
use Rattle.writing.proofs.Laws.{put_none, put_then, put_as}
use Rattle.writing.proofs.bytes.put_part.Goals as goal

pub loop-b-init : goal.loop-b-init
loop-b-init c = (search rules, put_none _ _)

pub loop-b-preserved : goal.loop-b-preserved
loop-b-preserved c =
    let w = c.loop-b in
    let p = c.put_byte-next.ensures in
    (omega (arith, p.next), put_as (sym (take_more _ _ 0 c.loop-b-test.true)) (put_then w.invariant.1 p))
