use Prim.Native.Nat.{◌+◌, pred}
use Rattle.model.specs.Events.{left_side}
use Rattle.model.specs.declared.scan.AfterEvent.{AfterEvent}
use Rattle.event_scanner.proofs.LeftSide.{event_step_in, left_step_lem}
use Rattle.scanner.proofs.Ranges.{AfterIn}
use Rattle.scanner.proofs.Runs.{told}
use Rattle.event_scanner.specs.LeftSide.{event_step}
use borrow.Author.Rules.{rules}
use lib.ListN.{length}
use mathlib.Core.Path.{◌∙◌, ◌≡◌, refl, sym}
use native.Mathlib.Omega.{arith}
use Rattle.event_scanner.proofs.left.left_side.Goals as goal

pub loop-next-init : goal.loop-next-init
unfolding left_side
loop-next-init c = (length c.args.l.now + 1, omega arith, search rules, refl)

pub returns-in-Broken : goal.returns-in-Broken
returns-in-Broken c =
    let s = c.loop-next in
    let q : event_step c.args.l.now s.at ≡ AfterEvent.Broken = sym c.event_step.ensures ∙ c.in-Broken.is in
    sym (s.invariant.3 ∙ left_step_lem s.invariant.0 c.args.l.now s.at AfterEvent.Broken (omega arith) q)

pub loop-next-smaller : goal.loop-next-smaller
loop-next-smaller c =
    let b = told (AfterIn (length c.args.l.now) c.loop-next.at) c.event_step.ensures c.in-Comma.is (event_step_in c.args.l.now c.loop-next.at (search rules)) in
    omega (arith, b.0, b.1)

pub loop-next-preserved : goal.loop-next-preserved
loop-next-preserved c =
    let l = c.args.l.now in
    let s = c.loop-next in
    let f = s.invariant.0 in
    let p = c.in-Comma.next in
    let q : event_step l s.at ≡ AfterEvent.Comma p = sym c.event_step.ensures ∙ c.in-Comma.is in
    let b = told (AfterIn (length l) s.at) c.event_step.ensures c.in-Comma.is (event_step_in l s.at (search rules)) in
    (pred f, omega (arith, b.0), b.1, s.invariant.3 ∙ left_step_lem f l s.at (AfterEvent.Comma p) (omega arith) q)

pub returns-in-Colon : goal.returns-in-Colon
returns-in-Colon c =
    let s = c.loop-next in
    let p = c.in-Colon.next in
    let q : event_step c.args.l.now s.at ≡ AfterEvent.Colon p = sym c.event_step.ensures ∙ c.in-Colon.is in
    sym (s.invariant.3 ∙ left_step_lem s.invariant.0 c.args.l.now s.at (AfterEvent.Colon p) (omega arith) q)
