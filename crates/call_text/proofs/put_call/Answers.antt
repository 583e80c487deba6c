-- `call_text::put_call` meets its contract.
use Rattle.std.proofs.Common.{arith}
use Rattle.model.specs.Canonical.{call_text}
use Rattle.tables.specs.Reading.{call_entry}
use Rattle.writing.proofs.Laws.{put_then, put_as}
use Rattle.call_text.proofs.LentFacts.{name_is}
use Rattle.call_text.proofs.put_call.Goals as goal

pub returns : goal.returns
unfolding call_text call_entry
returns c =
    let e = name_is c.args.lent.now c.args.i _ _ _ c.call_mark.ensures c.text-text.ensures c.call_name-name.ensures in
    let o = c.put_part-next.ensures in
    let p = c.put_byte-next.ensures in
    let q = c.put_parameters-next.ensures in
    let r = c.put_byte.ensures in
    (put_then (put_as e o.0) (put_then p (put_then q.0 r)), omega (arith, o.1, p.next, q.1, r.next))
