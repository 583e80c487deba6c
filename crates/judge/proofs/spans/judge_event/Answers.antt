-- `judge::spans::judge_event` meets its contract.
use native.Mathlib.Omega.{arith}
use mathlib.Core.Path.{sym, ap, ◌∙◌}
use Rattle.model.specs.Judging.{judged_as, judged_written}
use Rattle.event_scanner.specs.Spans.{list_in}
use Rattle.judge.specs.Spans.{written_in}
use Rattle.list_masks.proofs.Listed.{summary_in}
use Rattle.judge.proofs.NameRanges.{type_in_lem}
use Rattle.judge.proofs.Words.{spans_rising}
use Rattle.judge.proofs.Same.{judged_from, with_number}
use Rattle.model.specs.declared.answers.Judged.{Judged}
use Rattle.judge.proofs.spans.judge_event.Goals as goal

pub judge_parts-requires : goal.judge_parts-requires
judge_parts-requires c = (
  rw c.list_of-s.ensures
      (summary_in (list_in c.args.l.now c.args.e.list)
      (spans_rising c.args.l.now (λ i. omega (arith, c.type_inv.l i)) c.args.e.list)),
  (type_in_lem _ _ (sym c.type_named.ensures
      ∙ c.in-Known.is)).added,
)

pub returns-in-Unknown : goal.returns-in-Unknown
unfolding judged_written
returns-in-Unknown c =
    let t =
    with_number (written_in c.args.l.now c.args.e) (Judged.Refuse 5)
    (sym (ap (judged_as (written_in c.args.l.now c.args.e)) (sym c.type_named.ensures ∙ c.in-Unknown.is))) in
    record { answer = t.0; number = t.1 }

pub returns-in-Known : goal.returns-in-Known
returns-in-Known c =
    let known = sym c.type_named.ensures ∙ c.in-Known.is in
    let w = written_in c.args.l.now c.args.e in
    let t =
    with_number w c.judge_parts.result
    (c.judge_parts.ensures
    ∙ judged_from w _ _ _ _
    (spans_rising c.args.l.now (λ i. omega (arith, c.type_inv.l i)) c.args.e.list)
    known
    c.list_of-s.ensures c.count_at-c.ensures
    c.detail_of-d.ensures) in
    record { answer = t.0; number = t.1 }
