-- `printer::productions::put_productions` meets its contract.
use Rattle.std.proofs.Common.{◌*◌, ◌≤◌}
use Rattle.words.specs.Runs.{run}
use Rattle.model.specs.Canonical.{productions_text}
use Rattle.tables.specs.Reading.{production_entry}
use Rattle.writing.specs.Overlay.{Put}
use Rattle.printer.proofs.productions.put_productions.Given as goal

abbrev pub invariant-loop-p : goal.invariant-loop-p
invariant-loop-p l =
    (l.next ≤ 5900000 * l.p)
    × Put l.initial.out l.out 0 l.next (productions_text l.lent.first.now l.lent.second.now (run (production_entry l.lent.table.now) 0 l.p))
