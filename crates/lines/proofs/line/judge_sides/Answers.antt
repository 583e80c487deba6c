use mathlib.Core.Path.{sym, ap, ◌∙◌}
use lib.ListN.{length}
use Rattle.event_scanner.proofs.LeftSide.{LeftIn, left_in}
use Rattle.scanner.proofs.Runs.{told}
use Rattle.lines.specs.Line.{right_verdict, sides_verdict}
use Rattle.lines.proofs.line.judge_sides.Goals as goal

pub right_side-right-requires : goal.right_side-right-requires
right_side-right-requires c =
    let l = c.args.l.now in
    (told (LeftIn (length l) 0) c.left_side.ensures c.in-Left.is (left_in l)).1

pub returns-in-Broken : goal.returns-in-Broken
returns-in-Broken c =
    let a = c.args in
    ap (sides_verdict a.t a.l.now a.left) (sym c.in-Broken.is ∙ c.left_side.ensures)

pub returns-in-Left : goal.returns-in-Left
returns-in-Left c =
    let a = c.args in
    c.judge_right.ensures
    ∙ ap (right_verdict a.t c.in-Left.next a.left) c.right_side-right.ensures
    ∙ ap (sides_verdict a.t a.l.now a.left) (sym c.in-Left.is ∙ c.left_side.ensures)
