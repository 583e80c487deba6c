use Rattle.scanner.proofs.Ranges.{CountIn, count_in_lem}
use Rattle.scanner.proofs.Runs.{told}
use Rattle.event_scanner.specs.Spans.{count_spans}
use lib.ListN.{length}
use mathlib.Core.Path.{◌∙◌, ap, sym}
use Rattle.event_scanner.proofs.events.with_count.Goals as goal

pub with_detail-requires : goal.with_detail-requires
with_detail-requires c =
    let b = told (CountIn (length c.args.l.now) c.args.at) c.count_at.ensures c.in-Absent.is (count_in_lem c.args.l.now c.args.at c.requires) in
    b.1

pub with_detail-requires-in-Digits : goal.with_detail-requires-in-Digits
with_detail-requires-in-Digits c =
    let b = told (CountIn (length c.args.l.now) c.args.at) c.count_at.ensures c.in-Digits.is (count_in_lem c.args.l.now c.args.at c.requires) in
    b.3

pub returns-in-Broken : goal.returns-in-Broken
returns-in-Broken c = ap (count_spans c.args.l.now c.args.list c.args.name) (sym c.in-Broken.is ∙ c.count_at.ensures)

pub returns-in-Absent : goal.returns-in-Absent
returns-in-Absent c = c.with_detail.ensures ∙ ap (count_spans c.args.l.now c.args.list c.args.name) (sym c.in-Absent.is ∙ c.count_at.ensures)

pub returns-in-Digits : goal.returns-in-Digits
returns-in-Digits c = c.with_detail-in-Digits.ensures ∙ ap (count_spans c.args.l.now c.args.list c.args.name) (sym c.in-Digits.is ∙ c.count_at.ensures)
