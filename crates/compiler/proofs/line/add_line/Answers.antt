use native.Mathlib.Omega.{arith}
use mathlib.Core.Path.{refl, sym, ap, ◌∙◌, subst}
use Rattle.lines.specs.declared.totals.Totals.{Totals}
use Rattle.compiler.specs.declared.line.LineDone.{LineDone}
use Rattle.compiler.specs.WholeLine.{AddedPut}
use Rattle.compiler.proofs.LineSteps.{plain_blank, plain_refused, plain_added, stepped, underway_length, underway_in, outcome_refused, outcome_added, added_fits, added_totals, added_in, added_held}
use Rattle.compiler.proofs.line.add_line.Goals as goal

pub returns-then-is_blank_line : goal.returns-then-is_blank_line
returns-then-is_blank_line c u =
    let a = c.args in
    stepped u.rest _ _ (plain_blank a.s.directive u.ps a.base a.l.now (sym c.is_blank_line.ensures ∙ c.if-is_blank_line.true))
    (ap (λ (t : Totals). LineDone.Done (record { directive = a.s.directive; totals = t })) u.totals, u.bytes)

pub judge_line-requires : goal.judge_line-requires
judge_line-requires c =
    let t = c.args.s.totals in
    let u = c.requires.1 in
    ((c.requires.0, omega (arith, underway_length t c.args.out.now u)), underway_in t c.args.out.now u)

pub put_production-requires : goal.put_production-requires
put_production-requires c =
    let t = c.args.s.totals in
    let out = c.args.out.now in
    let u = c.requires.1 in
    -- the line adds a production
    let x =
    outcome_added c.args.s.totals c.args.out.now u c.args.base c.args.l.now c.in-Add.line
    (sym c.in-Add.is ∙ c.judge_line.ensures.0 u.ps c.args.base u.totals u.kept) in
    let f = added_fits t out u c.args.base c.args.l.now c.in-Add.line x in
    ((omega (arith, underway_length t out u, c.judge_line.auto.out), f.production), (omega (arith, f.few_events), omega (arith, f.few_calls)))

pub with_line-more-requires : goal.with_line-more-requires
with_line-more-requires c =
    let u = c.requires.1 in
    -- the line adds a production
    let x =
    outcome_added c.args.s.totals c.args.out.now u c.args.base c.args.l.now c.in-Add.line
    (sym c.in-Add.is ∙ c.judge_line.ensures.0 u.ps c.args.base u.totals u.kept) in
    added_in c.args.s.totals c.args.out.now u c.args.base c.args.l.now c.in-Add.line x

pub returns-in-Refuse : goal.returns-in-Refuse
returns-in-Refuse c u =
    let a = c.args in
    let n = c.in-Refuse.n in
    let e = sym c.in-Refuse.is ∙ c.judge_line.ensures.0 u.ps a.base u.totals u.kept in
    let q = outcome_refused a.s.totals a.out.now u n _ a.base a.l.now e in
    stepped u.rest _ _ (plain_refused a.s.directive u.ps a.base a.l.now n (sym c.is_blank_line.ensures ∙ c.if-is_blank_line.false) q) (refl, tt)

pub returns-in-Add : goal.returns-in-Add
returns-in-Add c u =
    let a = c.args in
    let t = a.s.totals in
    let l = a.l.now in
    let line = c.in-Add.line in
    -- the line adds a production
    let x =
    outcome_added c.args.s.totals c.args.out.now u c.args.base c.args.l.now c.in-Add.line
    (sym c.in-Add.is ∙ c.judge_line.ensures.0 u.ps c.args.base u.totals u.kept) in
    let w = subst (AddedPut a.base l t a.out.now c.judge_line.new.out) c.in-Add.is c.judge_line.ensures.1 in
    stepped u.rest _ _ (plain_added a.s.directive u.ps a.base l x.p (sym c.is_blank_line.ensures ∙ c.if-is_blank_line.false) x.outcome)
    (ap (λ (n : Totals). LineDone.Done (record { directive = a.s.directive; totals = n })) (c.with_line-more.ensures ∙ added_totals t a.out.now u a.base l line x), added_held t a.out.now u a.base l line x c.judge_line.new.out c.put_production.new.out w c.put_production.ensures)
