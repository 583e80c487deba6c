use native.Mathlib.Omega.{arith}
use mathlib.Core.Path.{refl, sym, ◌∙◌}
use Rattle.lines.proofs.Turns.{left_refused, left_broken, after_broken, left_colon, step_bounds, comma_bounds}
use Rattle.line_writer.proofs.EventWalk.{walking_start, walking_colon, walking_comma}
use Rattle.line_writer.proofs.events.write_left.Goals as goal

pub loop-n-init : goal.loop-n-init
loop-n-init c =
    let a = c.args in
    (walking_start a.l.now a.out.now a.first, refl)

pub overflow_add-first : goal.overflow_add-first
overflow_add-first c =
    let g = c.loop-n.invariant.0.left in
    omega (arith, g.events, g.inside, c.requires.0, c.requires.2)

pub write_event-requires : goal.write_event-requires
write_event-requires c =
    let x = c.loop-n in
    let g = x.invariant.0.left in
    (g.inside, c.requires.0, omega (arith, c.requires.1, x.invariant.1), omega (arith, g.events, g.inside, c.requires.0, c.requires.2))

pub shape_of-out-in-Broken : goal.shape_of-out-in-Broken
shape_of-out-in-Broken c = c.write_event.auto.out ∙ c.loop-n.invariant.1

pub returns-in-Broken : goal.returns-in-Broken
returns-in-Broken c =
    let x = c.loop-n in
    left_broken c.args.l.now x.at x.crowded x.kept x.expanded x.invariant.0.left (sym c.write_event.ensures.0 ∙ c.in-Broken.is)

pub shape_of-out-in-Refuse : goal.shape_of-out-in-Refuse
shape_of-out-in-Refuse c = c.write_event.auto.out ∙ c.loop-n.invariant.1

pub returns-in-Refuse : goal.returns-in-Refuse
returns-in-Refuse c =
    let x = c.loop-n in
    left_refused c.args.l.now x.at x.crowded x.kept x.expanded x.invariant.0.left c.in-Refuse.n
    (sym c.write_event.ensures.0 ∙ c.in-Refuse.is)

-- ---- The turn at which something is kept

pub overflow_add-kept : goal.overflow_add-kept
overflow_add-kept c =
    let x = c.loop-n in
    let b =
    step_bounds c.args.l.now x.at x.crowded x.kept x.expanded x.invariant.0.left _ _ _ _ (sym c.write_event.ensures.0 ∙ c.in-Keep.is) (λ k. omega (arith, c.type_inv.l k)) in
    omega (arith, b.0, b.2, c.loop-n.invariant.0.left.events, c.requires.0)

pub overflow_add-expanded : goal.overflow_add-expanded
overflow_add-expanded c =
    let x = c.loop-n in
    let b =
    step_bounds c.args.l.now x.at x.crowded x.kept x.expanded x.invariant.0.left _ _ _ _ (sym c.write_event.ensures.0 ∙ c.in-Keep.is) (λ k. omega (arith, c.type_inv.l k)) in
    omega (arith, b.0, b.1, b.2, c.loop-n.invariant.0.left.elements, c.requires.0)

pub after_event_at-requires : goal.after_event_at-requires
after_event_at-requires c =
    let x = c.loop-n in
    let b =
    step_bounds c.args.l.now x.at x.crowded x.kept x.expanded x.invariant.0.left _ _ _ _ (sym c.write_event.ensures.0 ∙ c.in-Keep.is) (λ k. omega (arith, c.type_inv.l k)) in
    b.2

pub shape_of-out-in-Broken-after_event_at : goal.shape_of-out-in-Broken-after_event_at
shape_of-out-in-Broken-after_event_at c = c.write_event.auto.out ∙ c.loop-n.invariant.1

pub returns-in-Broken-after_event_at : goal.returns-in-Broken-after_event_at
returns-in-Broken-after_event_at c =
    let x = c.loop-n in
    after_broken c.args.l.now x.at x.crowded x.kept x.expanded x.invariant.0.left _ _ _ _ (sym c.write_event.ensures.0 ∙ c.in-Keep.is) (sym c.after_event_at.ensures ∙ c.in-Broken-after_event_at.is)

pub loop-n-smaller : goal.loop-n-smaller
loop-n-smaller c =
    let x = c.loop-n in
    let b =
    step_bounds c.args.l.now x.at x.crowded x.kept x.expanded x.invariant.0.left _ _ _ _ (sym c.write_event.ensures.0 ∙ c.in-Keep.is) (λ k. omega (arith, c.type_inv.l k)) in
    let t =
    comma_bounds c.args.l.now x.at x.crowded x.kept x.expanded x.invariant.0.left _ _ _ _ (sym c.write_event.ensures.0 ∙ c.in-Keep.is) (λ k. omega (arith, c.type_inv.l k)) c.in-Comma.next
    (sym c.after_event_at.ensures ∙ c.in-Comma.is) in
    omega (arith, b.0, t.0, t.1)

pub loop-n-preserved : goal.loop-n-preserved
loop-n-preserved c =
    let x = c.loop-n in (
      walking_comma x.invariant.0 (sym c.write_event.ensures.0 ∙ c.in-Keep.is) c.write_event.ensures.1 c.in-Comma.next
          (sym c.after_event_at.ensures ∙ c.in-Comma.is)
          (λ k. omega (arith, c.type_inv.l k)),
      c.write_event.auto.out ∙ x.invariant.1,
    )

pub shape_of-out-in-Colon : goal.shape_of-out-in-Colon
shape_of-out-in-Colon c = c.write_event.auto.out ∙ c.loop-n.invariant.1

pub returns-in-Colon : goal.returns-in-Colon
returns-in-Colon c =
    let x = c.loop-n in
    let p = c.in-Colon.next in
    let q = sym c.after_event_at.ensures ∙ c.in-Colon.is in
    let s = left_colon c.args.l.now x.at x.crowded x.kept x.expanded x.invariant.0.left _ _ _ _ (sym c.write_event.ensures.0 ∙ c.in-Keep.is) p q in
    (s.0, s.1 ∙ sym c.finish-left.ensures, walking_colon x.invariant.0 (sym c.write_event.ensures.0 ∙ c.in-Keep.is) c.write_event.ensures.1 p q)
