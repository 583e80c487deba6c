use mathlib.Core.Path.{sym, ap, ◌∙◌}
use Rattle.lines.specs.Line.{left_verdict, right_verdict}
use Rattle.lines.proofs.line.judge_right.Goals as goal

pub returns-in-Broken : goal.returns-in-Broken
returns-in-Broken c =
    let a = c.args in
    ap (right_verdict a.t a.next a.left) (sym c.in-Broken.is)

pub returns-in-Refuse : goal.returns-in-Refuse
returns-in-Refuse c =
    let a = c.args in
    let r = c.in-Right in
    ap (left_verdict a.t a.next r.calls r.parameters r.most) (sym c.in-Refuse.is)
    ∙ ap (right_verdict a.t a.next a.left) (sym r.is)

pub returns-in-Crowded : goal.returns-in-Crowded
returns-in-Crowded c =
    let a = c.args in
    let r = c.in-Right in
    ap (left_verdict a.t a.next r.calls r.parameters r.most) (sym c.in-Crowded.is)
    ∙ ap (right_verdict a.t a.next a.left) (sym r.is)

pub returns-in-Keep : goal.returns-in-Keep
returns-in-Keep c =
    let a = c.args in
    let r = c.in-Right in
    c.limit.ensures
    ∙ ap (left_verdict a.t a.next r.calls r.parameters r.most) (sym c.in-Keep.is)
    ∙ ap (right_verdict a.t a.next a.left) (sym r.is)
