use borrow.Author.Rules.{rules}
use mathlib.Core.Path.{refl, sym, ◌∙◌}
use Rattle.scanner.proofs.Runs.{run_more, run_stop, run_last}
use Rattle.scanner.proofs.bytes.run_end.Goals as goal

pub loop-i-init : goal.loop-i-init
loop-i-init c = (search rules, refl)

pub returns-then-not-belongs : goal.returns-then-not-belongs
returns-then-not-belongs c =
    let l = c.args.l.now in
    let i = c.loop-i.i in
    sym (c.loop-i.invariant.1 ∙ run_stop c.args.c l i (search rules) (sym c.belongs.ensures ∙ c.if-not-belongs.true))

pub loop-i-preserved : goal.loop-i-preserved
loop-i-preserved c =
    let l = c.args.l.now in
    let i = c.loop-i.i in
    (search rules, c.loop-i.invariant.1 ∙ run_more c.args.c l i (search rules) (sym c.belongs.ensures ∙ c.if-not-belongs.false))

pub returns : goal.returns
returns c = sym (c.loop-i.invariant.1 ∙ run_last c.args.c c.args.l.now c.loop-i.i (search rules))
