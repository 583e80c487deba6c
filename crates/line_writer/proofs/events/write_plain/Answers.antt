use native.Mathlib.Omega.{arith}
use mathlib.Core.Path.{sym, ◌∙◌}
use Rattle.model.specs.declared.answers.Judged.{Judged}
use Rattle.judge.proofs.SpanRanges.{spans_kept}
use Rattle.lines.proofs.Kept.{plain_refused, plain_crowded, plain_kept}
use Rattle.line_writer.proofs.EventHere.{put_one, put_crowded, put_refused}
use Rattle.line_writer.proofs.events.write_plain.Goals as goal

pub element_count-requires : goal.element_count-requires
element_count-requires c =
    let a = c.args in
    let h =
    spans_kept a.l.now a.spans c.in-Keep.e (λ i. omega (arith, c.type_inv.l i))
    (sym c.judge_event.ensures.answer ∙ c.in-Keep.is) in
    omega (arith, h.count_to)

pub returns-in-Refuse : goal.returns-in-Refuse
returns-in-Refuse c =
    let a = c.args in
    let n = c.in-Refuse.n in
    let e = sym c.judge_event.ensures.answer ∙ c.in-Refuse.is in
    (plain_refused a.l.now a.spans a.spans.detail.end n e, put_refused a.out.now a.k a.l.now a.spans n e)

pub returns-in-Crowded : goal.returns-in-Crowded
returns-in-Crowded c =
    let a = c.args in
    let e = sym c.judge_event.ensures.answer ∙ c.in-Crowded.is in
    (plain_crowded a.l.now a.spans a.spans.detail.end e, put_crowded a.out.now a.k a.l.now a.spans e)

pub returns-in-Keep : goal.returns-in-Keep
returns-in-Keep c =
    let a = c.args in
    let k = c.in-Keep.e in
    let e = sym c.judge_event.ensures.answer ∙ c.in-Keep.is in
    (plain_kept a.l.now a.spans a.spans.detail.end k c.element_count.result c.element_count.ensures e, c.write_kept.ensures ∙ put_one a.out.now a.k a.l.now a.spans (Judged.Keep k) e)
