-- `acting::moves::replaces` meets its contract.
use native.Mathlib.Omega.{arith}
use Prim.Native.Nat.{◌<◌}
use mathlib.Core.Path.{◌≡◌, sym, ◌∙◌}
use mathlib.Core.Logic.{inl, inr}
use borrow.Author.Tests.{eq-eqb, ne_eqb}
use Rattle.model.specs.Codes.{is_motion}
use Rattle.states.specs.State.{slots_of}
use Rattle.states.proofs.StateLaws.{ends_slot}
use Rattle.acting.proofs.MoveLaws.{replaces_none}
use Rattle.acting.proofs.moves.replaces.Goals as goal
use Rattle.acting.proofs.moves.replaces.Goals.{then-x-eq-MOTION, else-x-eq-MOTION}

pub returns-then-kept-ne0 : goal.returns-then-kept-ne0
returns-then-kept-ne0 c =
    let a = c.args in
    let some : 0 < a.kept = let z = c.if-kept-ne0.true.1 in omega arith in
    rw (eq-eqb a.x.code 6 c.if-kept-ne0.true.0)
    (c.motion_at.ensures ∙ sym (ends_slot a.events.now a.kept some (omega arith)))

pub returns-else-kept-ne0 : goal.returns-else-kept-ne0
returns-else-kept-ne0 c =
    let a = c.args in
    elim c.if-x-eq-MOTION.branch [
      | then-x-eq-MOTION w ↦
          let none : a.kept ≡ 0 = elim c.if-kept-ne0.either [ inl p ↦ p.1 | inr q ↦ absurd (q w.if-x-eq-MOTION.true) ] in
          w.t-5-is ∙ rw (eq-eqb a.kept 0 none) (replaces_none (is_motion a.x.code) a.kept (slots_of a.events.now) none)
      | else-x-eq-MOTION w ↦ w.t-5-is ∙ rw (ne_eqb a.x.code 6 w.if-x-eq-MOTION.false)
    ]
