use native.Mathlib.Omega.{arith}
use mathlib.Core.Path.{subst, ap, ◌∙◌}
use lib.ListN.{length}
use Rattle.event_scanner.proofs.LeftSide.{LeftIn, left_in}
use Rattle.lines.specs.declared.left.LeftJudged.{LeftJudged}
use Rattle.lines.specs.Line.{right_verdict}
use Rattle.lines.proofs.Verdict.{no_left, with_left, without_left}
use Rattle.line_writer.specs.Reads.{LeftDone}
use Rattle.compiler.proofs.LineSteps.{none_put, sides_put}
use Rattle.compiler.proofs.line.judge_line.Goals as goal

pub write_right-right-requires : goal.write_right-right-requires
write_right-right-requires c =
    let a = c.args in
    -- the left side was read to its end
    let d = subst (LeftDone a.l.now a.t.events a.out.now c.write_left.new.out) c.in-Read.is c.write_left.ensures in
    let l = a.l.now in
    (((subst (LeftIn (length l) 0) d.0 (left_in l)).1, c.requires.0.0), (omega (arith, c.requires.0.1, c.write_left.auto.out), c.requires.1.calls, c.requires.1.parameters))

pub returns-in-Broken : goal.returns-in-Broken
returns-in-Broken c =
    let a = c.args in
    let d = subst (LeftDone a.l.now a.t.events a.out.now c.write_left.new.out) c.in-Broken.is c.write_left.ensures in
    (no_left a.l.now a.t d, tt)

pub returns-in-Refuse : goal.returns-in-Refuse
returns-in-Refuse c =
    let a = c.args in
    let l = a.l.now in
    let n = c.in-Refuse.n in
    let out = c.write_left.new.out in
    let d = subst (LeftDone l a.t.events a.out.now out) c.in-Refuse.is c.write_left.ensures in
    let r = c.judge_sides in
    (without_left l a.t (LeftJudged.Refuse n) r.result d r.ensures, none_put a.base l a.t a.out.now out n r.result r.ensures)

pub returns-in-Read : goal.returns-in-Read
returns-in-Read c =
    let a = c.args in
    -- the left side was read to its end
    let d = subst (LeftDone a.l.now a.t.events a.out.now c.write_left.new.out) c.in-Read.is c.write_left.ensures in
    let l = a.l.now in
    let w = c.write_right-right in
    let r = c.judge_right in
    let left = c.in-Read.left in
    let next = c.in-Read.next in (
      with_left l a.t next left r.result d.0 d.1 (r.ensures ∙ ap (right_verdict a.t next left) w.ensures.0),
      sides_put a.base l a.t a.out.now w.new.out r.result next c.write_left.new.out d.0 d.2 w.ensures.1,
    )
