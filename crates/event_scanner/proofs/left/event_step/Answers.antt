use Rattle.event_scanner.proofs.EventRanges.{EventIn, spans_in_lem}
use Rattle.scanner.proofs.Runs.{told}
use Rattle.event_scanner.specs.LeftSide.{event_step, step_of}
use Rattle.event_scanner.specs.Spans.{read_of}
use Rattle.event_scanner.specs.declared.events.EventRead.{EventRead}
use lib.ListN.{length}
use mathlib.Core.Path.{◌∙◌, ap, sym}
use Rattle.event_scanner.proofs.left.event_step.Goals as goal

pub after_event_at-requires : goal.after_event_at-requires
after_event_at-requires c =
    let b = told (EventIn (length c.args.l.now) c.args.at) c.read_event.ensures.0 c.in-Plain.is (spans_in_lem c.args.l.now c.args.at c.requires) in
    b.within

pub after_event_at-requires-in-Keys : goal.after_event_at-requires-in-Keys
after_event_at-requires-in-Keys c =
    let b = told (EventIn (length c.args.l.now) c.args.at) c.read_event.ensures.0 c.in-Keys.is (spans_in_lem c.args.l.now c.args.at c.requires) in
    b.2

pub returns-in-Broken : goal.returns-in-Broken
unfolding event_step
returns-in-Broken c = ap (λ (r : EventRead). step_of c.args.l.now (read_of c.args.l.now r)) (sym c.in-Broken.is) ∙ ap (step_of c.args.l.now) c.read_event.ensures.1

pub returns-in-Plain : goal.returns-in-Plain
unfolding event_step
returns-in-Plain c =
    c.after_event_at.ensures
    ∙ ap (λ (r : EventRead). step_of c.args.l.now (read_of c.args.l.now r)) (sym c.in-Plain.is)
    ∙ ap (step_of c.args.l.now) c.read_event.ensures.1

pub returns-in-Keys : goal.returns-in-Keys
unfolding event_step
returns-in-Keys c =
    c.after_event_at-in-Keys.ensures
    ∙ ap (λ (r : EventRead). step_of c.args.l.now (read_of c.args.l.now r)) (sym c.in-Keys.is)
    ∙ ap (step_of c.args.l.now) c.read_event.ensures.1
