use mathlib.Core.Path.{refl, sym}
use lib.ListN.{get_or-eq_default}
use Rattle.scanner.proofs.bytes.byte_at.Goals as goal

pub returns-then-at-l : goal.returns-then-at-l
returns-then-at-l c = refl

pub returns : goal.returns
returns c = sym (get_or-eq_default c.args.l.now 0 c.if-at-l.false)
