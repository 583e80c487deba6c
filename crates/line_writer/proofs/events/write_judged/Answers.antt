use mathlib.Core.Path.{sym, ap, ◌∙◌}
use Rattle.line_writer.specs.Puts.{put_judged}
use Rattle.line_writer.proofs.events.write_judged.Goals as goal

pub returns-in-Keep : goal.returns-in-Keep
returns-in-Keep c = c.put_event.ensures ∙ ap (put_judged c.args.out.now c.args.k) (sym c.in-Keep.is)

pub returns-in-Crowded : goal.returns-in-Crowded
returns-in-Crowded c = ap (put_judged c.args.out.now c.args.k) (sym c.in-Crowded.is)

pub returns-in-Refuse : goal.returns-in-Refuse
returns-in-Refuse c = ap (put_judged c.args.out.now c.args.k) (sym c.in-Refuse.is)
