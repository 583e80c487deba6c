use Rattle.scanner.proofs.Ranges.{TypeIn, type_in_lem}
use Rattle.scanner.proofs.Runs.{told}
use Rattle.event_scanner.specs.Spans.{type_spans}
use lib.ListN.{length}
use mathlib.Core.Path.{◌∙◌, ap, sym}
use Rattle.event_scanner.proofs.events.with_type.Goals as goal

pub with_count-requires : goal.with_count-requires
with_count-requires c =
    let b = told (TypeIn (length c.args.l.now) c.args.at) c.type_at.ensures c.in-Type.is (type_in_lem c.args.l.now c.args.at c.requires) in
    b.3

pub returns-in-Broken : goal.returns-in-Broken
returns-in-Broken c = ap (type_spans c.args.l.now c.args.list) (sym c.in-Broken.is ∙ c.type_at.ensures)

pub returns-in-Type : goal.returns-in-Type
returns-in-Type c = c.with_count.ensures ∙ ap (type_spans c.args.l.now c.args.list) (sym c.in-Type.is ∙ c.type_at.ensures)
