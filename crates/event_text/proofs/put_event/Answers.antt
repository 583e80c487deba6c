-- `event_text::put_event` meets its contract.
use native.Mathlib.Omega.{arith}
use Rattle.writing.proofs.Laws.{put_then, put_as}
use Rattle.model.specs.Canonical.{type_text, count_text, detail_text, event_text}
use Rattle.tables.proofs.EventWords.{RangeFacts, range_facts}
use Rattle.event_text.proofs.Values.{then_detail}
use Rattle.event_text.proofs.put_event.Goals as goal

pub put_counted-next-requires : goal.put_counted-next-requires
put_counted-next-requires c =
    let f : RangeFacts c.args.e = range_facts c.args.e c.requires.1 in
    (omega (arith, c.put_modifiers-next.ensures.1, c.requires.0), f.code_low, f.code_high)

pub put_detail-requires : goal.put_detail-requires
put_detail-requires c =
    let f : RangeFacts c.args.e = range_facts c.args.e c.requires.1 in
    (omega (arith, c.put_modifiers-next.ensures.1, c.put_counted-next.ensures.1, c.requires.0), f.code_low)

pub returns : goal.returns
unfolding event_text
returns c =
    let e = c.args.e in
    let p = c.put_modifiers-next.ensures in
    let q = c.put_counted-next.ensures in
    let r = c.put_detail.ensures in (
      put_then p.0 (put_as (then_detail (type_text e) (count_text e.count) (detail_text e.code e.detail)) (put_then q.0 r.0)),
      omega (arith, p.1, q.1, r.1),
    )
