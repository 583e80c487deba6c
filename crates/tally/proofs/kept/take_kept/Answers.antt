-- `tally::kept::take_kept` meets its contract.
use native.Mathlib.Omega.{arith}
use Prim.Native.Nat.{ℕ, ◌<◌}
use mathlib.Core.Path.{sym, ◌∙◌, subst}
use lib.ListN.{length}
use Rattle.tables.specs.Reading.{production_total}
use Rattle.tally.specs.Kept.{kept_from}
use Rattle.tally.specs.Counting.{tally_all}
use Rattle.tally.proofs.WholeFacts as facts
use Rattle.tally.proofs.KeptSteps as steps
use Rattle.tally.proofs.kept.take_kept.Goals as goal
use Rattle.tally.proofs.kept.take_kept.Goals.{then-not-is_among, else-not-is_among}

pub production_count-p-end-requires : goal.production_count-p-end-requires
production_count-p-end-requires g c = facts.long c.args.l.now c.requires.0

pub step-t-requires : goal.step-t-requires
step-t-requires g c =
    let l = c.args.l.now in
    let h : c.loop-p.p < production_total l = omega arith in
    let o = c.args.other.now in
    let n = c.args.n in
    let all = subst (λ (k : ℕ). g.S.Step.Fits k (tally_all c.args.before (kept_from l 0 o n))) (sym c.loop-p.auto.out) c.requires.2 in
    let rest = subst (g.S.Step.Fits (length c.loop-p.out)) c.loop-p.invariant.0 all in (
      c.requires.0,
      h,
      steps.room_next l c.loop-p.p o n h (g.S.Step.Fits (length c.loop-p.out)) (g.met.S.Step.fewer (length c.loop-p.out)) (sym c.is_among.ensures ∙ c.if-not-is_among.true) c.loop-p.t rest,
    )

pub loop-p-preserved : goal.loop-p-preserved
loop-p-preserved g c =
    let l = c.args.l.now in
    let h : c.loop-p.p < production_total l = omega arith in
    let put = g.S.Step.put in
    elim c.if-not-is_among.branch [
      | then-not-is_among w ↦
          let s = steps.taken l c.loop-p.p c.args.other.now c.args.n h put c.args.second c.loop-p.out c.loop-p.t c.if-not-is_among.out c.if-not-is_among.t
          (sym c.is_among.ensures ∙ w.if-not-is_among.true) (w.t-is ∙ w.step-t.ensures.0) (w.out-is ∙ w.step-t.ensures.1) in
          (c.loop-p.invariant.0 ∙ s.0, c.loop-p.invariant.1 ∙ s.1)
      | else-not-is_among w ↦
          let s = steps.passed l c.loop-p.p c.args.other.now c.args.n h put c.args.second c.loop-p.out c.loop-p.t
          (sym c.is_among.ensures ∙ w.if-not-is_among.false) in
          rw (w.t-is, w.out-is) (c.loop-p.invariant.0 ∙ s.0, c.loop-p.invariant.1 ∙ s.1)
    ]

pub returns : goal.returns
returns g c =
    let s = steps.none_left c.args.l.now c.loop-p.p c.args.other.now c.args.n (omega arith) g.S.Step.put c.args.second c.loop-p.out c.loop-p.t in
    (s.0 ∙ sym c.loop-p.invariant.0, s.1 ∙ sym c.loop-p.invariant.1)
