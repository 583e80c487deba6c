-- `printer::write` meets its contract.
use Rattle.std.proofs.Common.{rules, arith, ◌≡◌, ◌≤◌, ◌∙◌, length}
use Rattle.model.specs.Numbers.{no_refusal}
use Rattle.tables.specs.Reading.{decode}
use Rattle.printer.specs.Write.{text_written, write_number, write_not_whole, written_bytes}
use Rattle.printer.proofs.Outcome.{bytes_put}
use Rattle.printer.proofs.write.Goals as goal

pub returns-clause-bytes : goal.returns-clause-bytes
unfolding written_bytes write_number write_not_whole decode
returns-clause-bytes c =
    let a = c.args in
    let fit : length (text_written a.table.now a.first.now a.second.now) ≤ length a.out.now = omega (arith, c.text_length-n.ensures.0) in
    let b = bytes_put a.table.now a.first.now a.second.now fit c.put_productions.ensures.0 in
    let n : write_number a.table.now a.first.now a.second.now a.out.now ≡ no_refusal = search rules in
    b ∙ rw n
