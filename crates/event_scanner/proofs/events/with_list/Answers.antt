use Rattle.list_scanner.proofs.ListSteps.{ListIn, list_in_lem}
use Rattle.scanner.proofs.Runs.{told}
use Rattle.event_scanner.specs.Spans.{list_spans, with_list_read}
use lib.ListN.{length}
use mathlib.Core.Path.{◌∙◌, ap, sym}
use Rattle.event_scanner.proofs.events.with_list.Goals as goal

pub with_type-requires : goal.with_type-requires
with_type-requires c =
    let b = told (ListIn (length c.args.l.now) c.args.at) c.read_list.ensures c.in-List.is (list_in_lem c.args.l.now c.args.bang c.args.colon c.args.at c.requires) in
    b.1

pub returns-in-Broken : goal.returns-in-Broken
unfolding list_spans
returns-in-Broken c = ap (with_list_read c.args.l.now c.args.bang c.args.colon c.args.at) (sym c.in-Broken.is ∙ c.read_list.ensures)

pub returns-in-List : goal.returns-in-List
unfolding list_spans
returns-in-List c = c.with_type.ensures ∙ ap (with_list_read c.args.l.now c.args.bang c.args.colon c.args.at) (sym c.in-List.is ∙ c.read_list.ensures)
