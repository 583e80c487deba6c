-- `merger::merge` meets its contract.
use borrow.Author.Rules.{rules}
use native.Mathlib.Omega.{arith}
use Prim.Native.Nat.{◌≤◌}
use mathlib.Core.Path.{◌≡◌, sym, ap, ◌∙◌}
use mathlib.Core.Bool.{true, false, not}
use lib.ListN.{length}
use Rattle.tables.specs.Whole.{whole}
use Rattle.tables.specs.Reading.{decode}
use Rattle.model.specs.Merging.{merge_passes_limit}
use Rattle.copying.specs.Copying.{put_merged}
use Rattle.merger.proofs.Totals.{merge_room}
use Rattle.merger.proofs.Result.{result_bytes}
use Rattle.merger.proofs.Answer as answer
use Rattle.model.specs.Numbers.{merge_order}
use Rattle.tables.specs.Layout.{table_length}
use Rattle.merger.proofs.merge.Goals as goal

pub returns-then-old-lt-TABLE_LENGTH : goal.returns-then-old-lt-TABLE_LENGTH
returns-then-old-lt-TABLE_LENGTH c =
    let o = c.args.old.now in
    let n = c.args.new.now in
    let u = c.args.out.now in
    answer.numbered o n u (answer.short_old_lem o n u c.if-old-lt-TABLE_LENGTH.true)

pub returns-then-new-lt-TABLE_LENGTH : goal.returns-then-new-lt-TABLE_LENGTH
returns-then-new-lt-TABLE_LENGTH c =
    let o = c.args.old.now in
    let n = c.args.new.now in
    let u = c.args.out.now in
    answer.numbered o n u (answer.short_new_lem o n u (omega arith) c.if-new-lt-TABLE_LENGTH.true)

pub returns-then-out-lt-TABLE_LENGTH : goal.returns-then-out-lt-TABLE_LENGTH
returns-then-out-lt-TABLE_LENGTH c =
    let o = c.args.old.now in
    let n = c.args.new.now in
    let u = c.args.out.now in
    answer.numbered o n u (answer.short_out o n u (omega arith) (omega arith) c.if-out-lt-TABLE_LENGTH.true)

pub returns-then-number-ne0 : goal.returns-then-number-ne0
returns-then-number-ne0 c =
    let o = c.args.old.now in
    let n = c.args.new.now in
    let u = c.args.out.now in
    let r = answer.refused o n u (omega arith) (omega arith) (omega arith) c.judged-number.result c.judged-number.ensures c.if-number-ne0.true in
    answer.numbered o n u (r.0, c.clear.ensures ∙ r.1)

pub put_merged-requires : goal.put_merged-requires
put_merged-requires c =
    let o = c.args.old.now in
    let n = c.args.new.now in
    let u = c.args.out.now in
    let lo : table_length ≤ length o = omega arith in
    let ln : table_length ≤ length n = omega arith in
    let lu : table_length ≤ length u = omega arith in
    let z : 0 ≡ merge_order false false false (not (whole o)) (not (whole n)) (decode o).merged (decode n).merged (merge_passes_limit (decode o) (decode n)) = sym c.if-number-ne0.false ∙ c.judged-number.ensures in
    let N = answer.none o n u lo ln lu z in
    let wo : whole o ≡ true = answer.not_no (whole o) N.old_not_whole in
    let wn : whole n ≡ true = answer.not_no (whole n) N.new_not_whole in
    ((wo, wn), (search rules, merge_room o n wo wn N.old_merged N.past))

pub returns : goal.returns
returns c =
    let o = c.args.old.now in
    let n = c.args.new.now in
    let u = c.args.out.now in
    let lo : table_length ≤ length o = omega arith in
    let ln : table_length ≤ length n = omega arith in
    let lu : table_length ≤ length u = omega arith in
    let z : 0 ≡ merge_order false false false (not (whole o)) (not (whole n)) (decode o).merged (decode n).merged (merge_passes_limit (decode o) (decode n)) = sym c.if-number-ne0.false ∙ c.judged-number.ensures in
    let N = answer.none o n u lo ln lu z in
    let wo : whole o ≡ true = answer.not_no (whole o) N.old_not_whole in
    let wn : whole n ≡ true = answer.not_no (whole n) N.new_not_whole in
    let r = answer.accepted o n u lo ln lu z in
    answer.numbered o n u (r.0, c.put_merged.ensures ∙ ap (put_merged o n) c.clear.ensures ∙ result_bytes o n wo wn N.old_merged N.new_merged N.past u ∙ r.1)
