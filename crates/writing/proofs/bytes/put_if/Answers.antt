-- `writing::bytes::put_if` meets its contract.
use borrow.Author.Rules.{rules}
use native.Mathlib.Omega.{arith}
use Rattle.writing.proofs.Laws.{put_none}
use Rattle.writing.proofs.bytes.put_if.Goals as goal

pub returns-then-is : goal.returns-then-is
returns-then-is c = (rw c.if-is.true c.put_byte.ensures, omega (arith, c.put_byte.ensures.next))

pub returns : goal.returns
returns c = (rw c.if-is.false (put_none _ _), search rules)
