-- `keysyms::search::rank` meets its contract. The loop's invariant: the names up to `low` stand before the word, those from `high` on do not. Assumes nothing.
use Prim.Native.Nat.{ℕ, ◌+◌, ◌/◌, ◌≤◌, ◌<◌}
use native.Mathlib.Omega.{arith}
use mathlib.Core.Path.{◌≡◌, sym, ap, ◌∙◌}
use mathlib.Core.Bool.{true, false}
use mathlib.Core.List.{List}
use Rattle.model.specs.Lists.{is_before}
use Rattle.keysyms.specs.Table.{keysym_total, keysym_name}
use Rattle.keysyms.proofs.Order.{earlier_before, later_not_before}
use borrow.Author.Rules.{rules}
use Rattle.keysyms.proofs.search.rank.Goals as goal

pub loop-low-init : goal.loop-low-init
loop-low-init c = (search rules, search rules, λ i h. absurd (omega arith), λ i h k. absurd (omega arith))

-- the name in the middle is one of the table
middle : (low high : ℕ) → low < high → high ≤ keysym_total → (low + high) / 2 < keysym_total
middle low high h k = omega (arith, h, k)

pub name_at-requires : goal.name_at-requires
name_at-requires c = (c.requires.0, c.requires.1, middle c.loop-low.low c.loop-low.high c.loop-low-test.true c.loop-low.invariant.1)

pub loop-low-preserved-then-is_before : goal.loop-low-preserved-then-is_before
loop-low-preserved-then-is_before c =
    let l = c.loop-low in
    let w = c.args.w.now in
    let e : is_before (keysym_name ((l.low + l.high) / 2)) w ≡ true =
    ap (λ (n : List ℕ). is_before n w) (sym c.name_at.ensures) ∙ sym c.is_before.ensures ∙ c.if-is_before.true
    in (
      omega (arith, c.loop-low-test.true),
      l.invariant.1,
      λ i h. earlier_before w ((l.low + l.high) / 2) (middle l.low l.high c.loop-low-test.true l.invariant.1) e i (omega arith),
      l.invariant.3,
    )

pub loop-low-preserved : goal.loop-low-preserved
loop-low-preserved c =
    let l = c.loop-low in
    let w = c.args.w.now in
    let e : is_before (keysym_name ((l.low + l.high) / 2)) w ≡ false =
    ap (λ (n : List ℕ). is_before n w) (sym c.name_at.ensures) ∙ sym c.is_before.ensures ∙ c.if-is_before.false
    in (
      omega (arith, c.loop-low-test.true),
      omega (arith, c.loop-low-test.true, l.invariant.1),
      l.invariant.2,
      later_not_before w ((l.low + l.high) / 2) (middle l.low l.high c.loop-low-test.true l.invariant.1) e,
    )

pub returns : goal.returns
returns c =
    let l = c.loop-low in
    record {
      within = omega (arith, l.invariant.0, l.invariant.1);
      before = l.invariant.2;
      rest = λ i h k. l.invariant.3 i (omega (arith, c.loop-low-test.false)) k;
    }
