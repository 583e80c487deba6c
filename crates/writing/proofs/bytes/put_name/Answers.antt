-- `writing::bytes::put_name` meets its contract.
use Rattle.std.proofs.Common.{arith}
use Rattle.names.proofs.Spelled.{row_length}
use Rattle.writing.proofs.Laws.{put_then, put_as}
use Rattle.writing.proofs.Unpacked.{spelled_length, spelled_bytes}
use Rattle.writing.proofs.bytes.put_name.Goals as goal

pub put_part-requires : goal.put_part-requires
put_part-requires c =
    let l = spelled_length _ _ c.spelling_at-len.ensures in
    (omega (arith, c.put_part-next.ensures.0.next), rw c.to_le_bytes-2.ensures (omega arith), omega arith)

pub returns : goal.returns
returns c =
    let e = spelled_bytes _ _ c.spelling_at-len.ensures c.min.ensures c.saturating_sub.ensures c.to_le_bytes.ensures c.to_le_bytes-2.ensures in
    let p = put_as e (put_then c.put_part-next.ensures.0 c.put_part.ensures.0) in
    (p, omega (arith, p.next, row_length c.args.place))
