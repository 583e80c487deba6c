-- `walk::leap` meets its contract.
use Prim.Native.Nat.{◌+◌, ◌*◌, ◌≤◌}
use native.Mathlib.Omega.{arith}
use mathlib.Core.Path.{◌≡◌}
use Rattle.tables.specs.Reading.{production_total}
use Rattle.fields.proofs.TableFacts.{table_facts}
use Rattle.walk.proofs.PassLaws.{skipped_start, skipped_leap, past_most}
use Rattle.walk.proofs.leap.Goals as goal

pub loop-i-init : goal.loop-i-init
loop-i-init c = skipped_start c.args.table.now c.args.low

pub overflow_add-next : goal.overflow_add-next
overflow_add-next c =
    let among : 16 * c.loop-i.i + 16 ≤ production_total c.args.table.now = omega arith in
    let l = c.args.table.now in
    let v = c.loop-i in
    omega (arith, past_most l (table_facts l c.requires.0) v.at (16 * v.i) 16 c.sixteen.result v.invariant.place among c.sixteen.ensures)

pub loop-i-preserved : goal.loop-i-preserved
loop-i-preserved c =
    let among : 16 * c.loop-i.i + 16 ≤ production_total c.args.table.now = omega arith in
    let a = c.args in
    let l = a.table.now in
    let v = c.loop-i in
    let more : 16 * (v.i + 1) ≡ 16 * v.i + 16 = omega arith in
    rw more
    (skipped_leap l (table_facts l c.requires.0) a.low v.at (16 * v.i) 16 c.sixteen.result v.invariant
    among c.sixteen.ensures (omega (arith, c.if-low-next.false)))
