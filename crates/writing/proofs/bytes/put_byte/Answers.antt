-- `writing::bytes::put_byte` meets its contract.
use Rattle.std.proofs.Common.{rules}
use Rattle.writing.proofs.Laws.{put_one, put_out}
use Rattle.writing.proofs.bytes.put_byte.Goals as goal
use Rattle.writing.proofs.bytes.put_byte.Goals.{then-at-out, else-at-out}

pub returns : goal.returns
returns c = elim c.if-at-out.branch [ then-at-out w ↦ rw w.out-is (put_one _ _ _) | else-at-out w ↦ rw w.out-is (put_out _ _ _ (search rules)) ]
