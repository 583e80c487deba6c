-- `printer::text_length` meets its contract.
use Rattle.std.proofs.Common.{arith, ap, length}
use Rattle.printer.proofs.Outcome.{text_is}
use Rattle.printer.proofs.text_length.Goals as goal

pub returns : goal.returns
returns c =
    let t = c.args.lent.now in
    let q = c.put_productions.ensures in
    (omega (arith, q.0.next, ap length (text_is t.table.now t.first.now t.second.now)), q.1)
