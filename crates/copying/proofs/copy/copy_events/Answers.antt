-- `copying::copy::copy_events` meets its contract. The invariant: putting what is left gives the whole.
use native.Mathlib.Omega.{arith}
use mathlib.Core.Path.{sym, ◌∙◌}
use Rattle.tables.specs.Reading.{event_entry}
use Rattle.tables.specs.Writing.{put_event}
use Rattle.copying.proofs.Puts.{puts_next, puts_done}
use Rattle.copying.proofs.copy.copy_events.Goals as goal

pub loop-i-preserved : goal.loop-i-preserved
loop-i-preserved c =
    c.loop-i.invariant
    ∙ puts_next put_event (event_entry c.args.l.now) c.args.from c.args.at c.args.n c.loop-i.out c.loop-i.i c.loop-i-test.true
    ∙ rw (c.put_event.ensures, c.event_at-e.ensures)

pub returns : goal.returns
returns c = sym (c.loop-i.invariant ∙ puts_done put_event (event_entry c.args.l.now) c.args.from c.args.at c.args.n c.loop-i.out c.loop-i.i (omega arith))
