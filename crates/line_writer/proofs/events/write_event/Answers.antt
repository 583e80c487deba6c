use native.Mathlib.Omega.{arith}
use mathlib.Core.Path.{ap, ◌∙◌}
use Rattle.model.specs.Events.{EventsRead}
use Rattle.event_scanner.specs.Spans.{events_in}
use Rattle.lines.specs.Left.{step_judged}
use Rattle.line_writer.specs.Puts.{put_fitting}
use Rattle.line_writer.proofs.EventHere.{put_nothing, read_told}
use Rattle.line_writer.proofs.events.write_event.Goals as goal

pub write_plain-requires : goal.write_plain-requires
write_plain-requires c =
    let h = read_told c.args.l.now c.args.at c.requires.0 c.read_event.ensures c.in-Plain.is in
    (h.spans, c.requires.2)

pub write_sequence-requires : goal.write_sequence-requires
write_sequence-requires c =
    let h = read_told c.args.l.now c.args.at c.requires.0 c.read_event.ensures c.in-Keys.is in
    ((h.inside, c.requires.2), (h.read, h.counted, omega (arith, h.few, c.requires.1, c.requires.3)))

pub returns-in-Broken : goal.returns-in-Broken
returns-in-Broken c =
    let e = read_told c.args.l.now c.args.at c.requires.0 c.read_event.ensures c.in-Broken.is in
    (ap step_judged e, put_nothing c.args.out.now c.args.k ∙ ap (λ (r : EventsRead). put_fitting c.args.out.now c.args.k (events_in r)) e)

pub returns-in-Plain : goal.returns-in-Plain
returns-in-Plain c =
    let h = read_told c.args.l.now c.args.at c.requires.0 c.read_event.ensures c.in-Plain.is in
    let w = c.write_plain.ensures in
    (w.0 ∙ ap step_judged h.is, w.1 ∙ ap (λ (r : EventsRead). put_fitting c.args.out.now c.args.k (events_in r)) h.is)

pub returns-in-Keys : goal.returns-in-Keys
returns-in-Keys c =
    let h = read_told c.args.l.now c.args.at c.requires.0 c.read_event.ensures c.in-Keys.is in
    (h.step, c.write_sequence.ensures ∙ ap (put_fitting c.args.out.now c.args.k) h.are)
