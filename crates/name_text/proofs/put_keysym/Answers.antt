-- `name_text::put_keysym` meets its contract.
use native.Mathlib.Omega.{arith}
use Rattle.writing.proofs.Laws.{put_then}
use Rattle.name_text.proofs.put_keysym.Goals as goal

pub returns : goal.returns
returns c =
    let p = c.put_byte-next.ensures in
    let q = c.put_hexadecimal.ensures in
    (put_then p q.0, omega (arith, p.next, q.1))
