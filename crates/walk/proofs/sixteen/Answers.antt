-- `walk::sixteen` meets its contract.
use Prim.Native.Nat.{◌+◌, ◌≤◌, ◌<◌}
use native.Mathlib.Omega.{arith}
use mathlib.Core.Path.{◌≡◌, refl, sym, ap₂, ◌∙◌}
use Rattle.words.specs.Runs.{total}
use Rattle.words.proofs.RunLaws.{total_more}
use Rattle.tables.specs.Reading.{production_total, production_events}
use Rattle.fields.proofs.TableFacts.{table_facts}
use Rattle.walk.proofs.PassLaws.{span_most}
use Rattle.walk.proofs.sixteen.Goals as goal

pub loop-i-init : goal.loop-i-init
unfolding total
loop-i-init c = (omega arith, refl)

pub overflow_add-p : goal.overflow_add-p
overflow_add-p c =
    let few : c.args.p + c.loop-i.i < 64 = omega (arith, c.requires.1, (table_facts _ c.requires.0).productions, c.loop-i-test.true) in
    omega (arith, few)

pub overflow_add-p-in-loop-i : goal.overflow_add-p-in-loop-i
overflow_add-p-in-loop-i c =
    let few : c.args.p + c.loop-i.i < 64 = omega (arith, c.requires.1, (table_facts _ c.requires.0).productions, c.loop-i-test.true) in
    omega (arith, few)

pub word_at-sum-requires : goal.word_at-sum-requires
word_at-sum-requires c =
    let few : c.args.p + c.loop-i.i < 64 = omega (arith, c.requires.1, (table_facts _ c.requires.0).productions, c.loop-i-test.true) in
    omega (arith, few, (table_facts _ c.requires.0).long)

pub overflow_add-sum : goal.overflow_add-sum
unfolding production_events
overflow_add-sum c =
    let word : c.word_at-sum.result ≡ production_events c.args.table.now (c.args.p + c.loop-i.i) = c.word_at-sum.ensures in
    let small : c.loop-i.sum + c.word_at-sum.result ≤ 256 =
    let l = c.args.table.now in
    let h : c.args.p + c.loop-i.i < production_total l = omega (arith, c.requires.1, c.loop-i-test.true) in
    omega (arith, span_most l (table_facts l c.requires.0) c.args.p c.loop-i.i h, c.loop-i.invariant.1, word) in
    omega (arith, small)

pub loop-i-preserved : goal.loop-i-preserved
unfolding production_events
loop-i-preserved c =
    let word : c.word_at-sum.result ≡ production_events c.args.table.now (c.args.p + c.loop-i.i) = c.word_at-sum.ensures in
    let small : c.loop-i.sum + c.word_at-sum.result ≤ 256 =
    let l = c.args.table.now in
    let h : c.args.p + c.loop-i.i < production_total l = omega (arith, c.requires.1, c.loop-i-test.true) in
    omega (arith, span_most l (table_facts l c.requires.0) c.args.p c.loop-i.i h, c.loop-i.invariant.1, word) in
    let a = c.args in
    let v = c.loop-i in
    (small, ap₂ ◌+◌ v.invariant.1 word ∙ sym (total_more (production_events a.table.now) a.p v.i))
