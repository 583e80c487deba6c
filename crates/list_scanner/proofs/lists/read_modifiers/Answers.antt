use Prim.Native.Nat.{◌+◌, pred}
use Rattle.model.specs.Events.{Modifier, modifier_at, modifiers_at, modifiers_from}
use Rattle.model.specs.Lists.{bytes, part, same}
use Rattle.model.specs.declared.scan.ModifierRead.{ModifierRead}
use Rattle.list_scanner.proofs.ListSteps.{modifiers_step, summed_end, summed_keysym, summed_more, summed_start}
use Rattle.scanner.proofs.Ranges.{ModifierIn, modifier_in_lem}
use Rattle.scanner.proofs.Runs.{told}
use Rattle.list_scanner.specs.ModifierLists.{summed_from}
use borrow.Author.Rules.{rules}
use lib.ListN.{length}
use mathlib.Core.Bool.{◌||◌}
use mathlib.Core.Path.{◌∙◌, ◌≡◌, ap, sym}
use native.Mathlib.Omega.{arith}
use Rattle.list_scanner.proofs.lists.read_modifiers.Goals as goal

pub loop-end-init : goal.loop-end-init
loop-end-init c = (length c.args.l.now + 1, omega arith, search rules, omega arith, summed_start (modifiers_at c.args.l.now c.args.at))

pub returns-in-Broken : goal.returns-in-Broken
returns-in-Broken c =
    let inv = c.loop-end.invariant in
    let q : modifier_at c.args.l.now c.loop-end.i ≡ ModifierRead.Broken = sym c.modifier_at.ensures ∙ c.in-Broken.is in
    sym (inv.4 ∙ ap (summed_from c.loop-end.count c.loop-end.tilde c.loop-end.none c.loop-end.lone) (modifiers_step inv.0 c.args.l.now c.loop-end.i ModifierRead.Broken (omega arith) q))

pub returns-in-End : goal.returns-in-End
returns-in-End c =
    let inv = c.loop-end.invariant in
    let e = c.in-End.end in
    let q : modifier_at c.args.l.now c.loop-end.i ≡ ModifierRead.End e = sym c.modifier_at.ensures ∙ c.in-End.is in
    sym
    (inv.4
    ∙ ap (summed_from c.loop-end.count c.loop-end.tilde c.loop-end.none c.loop-end.lone) (modifiers_step inv.0 c.args.l.now c.loop-end.i (ModifierRead.End e) (omega arith) q)
    ∙ summed_end c.loop-end.count c.loop-end.tilde c.loop-end.none c.loop-end.lone e)

pub slice_bounds-word-count : goal.slice_bounds-word-count
slice_bounds-word-count c =
    let b = told (ModifierIn (length c.args.l.now) c.loop-end.i) c.modifier_at.ensures c.in-Name.is (modifier_in_lem c.args.l.now c.loop-end.i (search rules)) in
    omega (arith, b.1)

pub slice_bounds-word-start : goal.slice_bounds-word-start
slice_bounds-word-start c =
    let b = told (ModifierIn (length c.args.l.now) c.loop-end.i) c.modifier_at.ensures c.in-Name.is (modifier_in_lem c.args.l.now c.loop-end.i (search rules)) in
    omega (arith, b.1)

pub slice_bounds-word-end : goal.slice_bounds-word-end
slice_bounds-word-end c =
    let b = told (ModifierIn (length c.args.l.now) c.loop-end.i) c.modifier_at.ensures c.in-Name.is (modifier_in_lem c.args.l.now c.loop-end.i (search rules)) in
    omega (arith, b.2)

pub overflow_add-count : goal.overflow_add-count
overflow_add-count c = omega arith

pub loop-end-smaller-in-Name : goal.loop-end-smaller-in-Name
loop-end-smaller-in-Name c =
    let b = told (ModifierIn (length c.args.l.now) c.loop-end.i) c.modifier_at.ensures c.in-Name.is (modifier_in_lem c.args.l.now c.loop-end.i (search rules)) in
    omega (arith, b.0, b.1, b.2)

pub loop-end-preserved-in-Name : goal.loop-end-preserved-in-Name
loop-end-preserved-in-Name c =
    let l = c.args.l.now in
    let i = c.loop-end.i in
    let n = c.loop-end.count in
    let tilde = c.loop-end.tilde in
    let none = c.loop-end.none in
    let lone = c.loop-end.lone in
    let inv = c.loop-end.invariant in
    let f = inv.0 in
    let marked = c.in-Name.marked in
    let start = c.in-Name.start in
    let end = c.in-Name.end in
    let q : modifier_at l i ≡ ModifierRead.Name marked start end = sym c.modifier_at.ensures ∙ c.in-Name.is in
    let b = told (ModifierIn (length l) i) c.modifier_at.ensures c.in-Name.is (modifier_in_lem l i (search rules)) in
    let en : same (part l start end) (bytes "None") ≡ c.is_none-as_none.result = sym c.is_none-as_none.ensures in
    let ea : same (part l start end) (bytes "Any") ≡ c.is_any-as_any.result = sym c.is_any-as_any.ensures in (
      pred f,
      omega (arith, b.0, b.1),
      b.2,
      omega (arith, b.0, b.1),
      inv.4 ∙ ap (summed_from n tilde none lone) (modifiers_step f l i (ModifierRead.Name marked start end) (omega arith) q)
          ∙ summed_more n tilde none lone (Modifier.name marked (part l start end)) (modifiers_from (pred f) l end)
          ∙ (λ j. summed_from (n + 1) (tilde || marked) (none || en j) (lone || (en j || ea j)) (modifiers_from (pred f) l end)),
    )

pub overflow_add-count-in-Keysym : goal.overflow_add-count-in-Keysym
overflow_add-count-in-Keysym c = omega arith

pub loop-end-smaller : goal.loop-end-smaller
loop-end-smaller c =
    let b = told (ModifierIn (length c.args.l.now) c.loop-end.i) c.modifier_at.ensures c.in-Keysym.is (modifier_in_lem c.args.l.now c.loop-end.i (search rules)) in
    omega (arith, b.0, b.1, b.2)

pub loop-end-preserved : goal.loop-end-preserved
loop-end-preserved c =
    let l = c.args.l.now in
    let i = c.loop-end.i in
    let n = c.loop-end.count in
    let tilde = c.loop-end.tilde in
    let none = c.loop-end.none in
    let lone = c.loop-end.lone in
    let inv = c.loop-end.invariant in
    let f = inv.0 in
    let marked = c.in-Keysym.marked in
    let start = c.in-Keysym.start in
    let end = c.in-Keysym.end in
    let q : modifier_at l i ≡ ModifierRead.Keysym marked start end = sym c.modifier_at.ensures ∙ c.in-Keysym.is in
    let b = told (ModifierIn (length l) i) c.modifier_at.ensures c.in-Keysym.is (modifier_in_lem l i (search rules)) in (
      pred f,
      omega (arith, b.0, b.1),
      b.2,
      omega (arith, b.0, b.1),
      inv.4 ∙ ap (summed_from n tilde none lone) (modifiers_step f l i (ModifierRead.Keysym marked start end) (omega arith) q)
          ∙ summed_keysym n tilde none lone marked (part l start end) (modifiers_from (pred f) l end),
    )
