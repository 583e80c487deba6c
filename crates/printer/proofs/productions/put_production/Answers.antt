-- `printer::productions::put_production` meets its contract.
use Rattle.std.proofs.Common.{arith}
use Rattle.model.specs.Canonical.{production_text}
use Rattle.tables.specs.Reading.{production_entry}
use Rattle.writing.proofs.Laws.{put_then, put_as}
use Rattle.printer.proofs.productions.put_production.Goals as goal

pub returns : goal.returns
unfolding production_text production_entry
returns c =
    let o = c.put_events-next.ensures in
    let p = c.put_byte-next.ensures in
    let q = c.put_calls-next.ensures in
    let r = c.put_byte.ensures in
    (put_then (put_as (rw (c.events_from.ensures, c.production_events-events.ensures)) o.0) (put_then p (put_then (put_as (rw (c.calls_from.ensures, c.production_calls-calls.ensures)) q.0) r)), omega (arith, o.1, p.next, q.1, r.next))
