use mathlib.Core.Path.{◌≡◌}
use mathlib.Core.Bool.{true, and-true}
use lib.Dec.{leb}
use native.Mathlib.Omega.{arith}
use borrow.Author.Tests.{le-leb}
use Rattle.model.specs.Bytes.{is_allowed}
use Rattle.scanner.proofs.bytes.is_allowed.Goals as goal

pub returns : goal.returns
unfolding is_allowed
returns c =
    let h : leb c.args.b 255 ≡ true = le-leb c.args.b 255 (omega arith) in
    rw (h, and-true)
