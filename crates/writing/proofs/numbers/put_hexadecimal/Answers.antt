-- `writing::numbers::put_hexadecimal` meets its contract.
use native.Mathlib.Omega.{arith}
use Rattle.writing.proofs.Laws.{put_then}
use Rattle.model.specs.Canonical.{hexadecimal}
use Rattle.writing.proofs.numbers.put_hexadecimal.Goals as goal

pub returns : goal.returns
unfolding hexadecimal
returns c =
    let p = c.put_byte-next.ensures in
    let q = c.put_byte-next-2.ensures in
    let r = c.put_digits.ensures in
    (put_then p (put_then q r.0), omega (arith, p.next, q.next, r.1))
