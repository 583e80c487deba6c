use Rattle.model.specs.declared.scan.Lead.{Lead}
use Rattle.scanner.proofs.Ranges.{lead_in}
use Rattle.event_scanner.specs.Spans.{list_spans, plain_spans}
use mathlib.Core.Path.{◌∙◌, ap}
use native.Mathlib.Omega.{arith}
use Rattle.event_scanner.proofs.events.read_plain.Goals as goal

pub with_list-requires : goal.with_list-requires
with_list-requires c =
    let e = ap (λ (r : Lead). r.next) c.lead_at-lead.ensures in
    let b = lead_in c.args.l.now c.args.at c.requires in
    omega (arith, e, b.1)

pub returns : goal.returns
unfolding plain_spans
returns c = c.with_list.ensures ∙ ap (λ (r : Lead). list_spans c.args.l.now r.bang r.colon r.next) c.lead_at-lead.ensures
