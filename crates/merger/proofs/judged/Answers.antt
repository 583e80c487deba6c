-- `merger::judged` meets its contract.
use mathlib.Core.Path.{◌≡◌, sym, ap, ◌∙◌}
use mathlib.Core.Bool.{true, false}
use Rattle.tables.specs.Whole.{whole}
use Rattle.tables.specs.Reading.{decode}
use Rattle.model.specs.Merging.{merge_passes_limit}
use Rattle.tally.specs.Counting.{tally_passes}
use Rattle.merger.proofs.Totals.{merge_passes}
use Rattle.merger.proofs.Answer.{merged_there}
use Rattle.merger.proofs.judged.Goals as goal

pub returns-then-not-whole : goal.returns-then-not-whole
returns-then-not-whole c =
    let o = c.args.old.now in
    let n = c.args.new.now in
    let ow : whole o ≡ false = sym c.whole.ensures ∙ c.if-not-whole.true in
    rw ow

pub returns-then-not-whole-2 : goal.returns-then-not-whole-2
returns-then-not-whole-2 c =
    let o = c.args.old.now in
    let n = c.args.new.now in
    let ow : whole o ≡ true = sym c.whole.ensures ∙ c.if-not-whole.false in
    let nw : whole n ≡ false = sym c.whole-2.ensures ∙ c.if-not-whole-2.true in
    rw (ow, nw)

pub returns-then-merged : goal.returns-then-merged
returns-then-merged c =
    let o = c.args.old.now in
    let n = c.args.new.now in
    let ow : whole o ≡ true = sym c.whole.ensures ∙ c.if-not-whole.false in
    let nw : whole n ≡ true = sym c.whole-2.ensures ∙ c.if-not-whole-2.false in
    let om : (decode o).merged ≡ true = merged_there o ∙ sym c.merged.ensures ∙ c.if-merged.true in
    rw (ow, nw, om)

pub returns-then-merged-2 : goal.returns-then-merged-2
returns-then-merged-2 c =
    let o = c.args.old.now in
    let n = c.args.new.now in
    let ow : whole o ≡ true = sym c.whole.ensures ∙ c.if-not-whole.false in
    let nw : whole n ≡ true = sym c.whole-2.ensures ∙ c.if-not-whole-2.false in
    let om : (decode o).merged ≡ false = merged_there o ∙ sym c.merged.ensures ∙ c.if-merged.false in
    let nm : (decode n).merged ≡ true = merged_there n ∙ sym c.merged-2.ensures ∙ c.if-merged-2.true in
    rw (ow, nw, om, nm)

pub tally_merged-requires : goal.tally_merged-requires
tally_merged-requires c =
    let o = c.args.old.now in
    let n = c.args.new.now in
    let ow : whole o ≡ true = sym c.whole.ensures ∙ c.if-not-whole.false in
    let nw : whole n ≡ true = sym c.whole-2.ensures ∙ c.if-not-whole-2.false in
    (ow, nw)

pub returns-then-tally_passes : goal.returns-then-tally_passes
returns-then-tally_passes c =
    let o = c.args.old.now in
    let n = c.args.new.now in
    let ow : whole o ≡ true = sym c.whole.ensures ∙ c.if-not-whole.false in
    let nw : whole n ≡ true = sym c.whole-2.ensures ∙ c.if-not-whole-2.false in
    let om : (decode o).merged ≡ false = merged_there o ∙ sym c.merged.ensures ∙ c.if-merged.false in
    let nm : (decode n).merged ≡ false = merged_there n ∙ sym c.merged-2.ensures ∙ c.if-merged-2.false in
    let lm : merge_passes_limit (decode o) (decode n) ≡ true = merge_passes o n ow nw om ∙ ap tally_passes (sym c.tally_merged.ensures) ∙ sym c.tally_passes.ensures ∙ c.if-tally_passes.true in
    rw (lm, ow, nw, om, nm)

pub returns : goal.returns
returns c =
    let o = c.args.old.now in
    let n = c.args.new.now in
    let ow : whole o ≡ true = sym c.whole.ensures ∙ c.if-not-whole.false in
    let nw : whole n ≡ true = sym c.whole-2.ensures ∙ c.if-not-whole-2.false in
    let om : (decode o).merged ≡ false = merged_there o ∙ sym c.merged.ensures ∙ c.if-merged.false in
    let nm : (decode n).merged ≡ false = merged_there n ∙ sym c.merged-2.ensures ∙ c.if-merged-2.false in
    let lm : merge_passes_limit (decode o) (decode n) ≡ false = merge_passes o n ow nw om ∙ ap tally_passes (sym c.tally_merged.ensures) ∙ sym c.tally_passes.ensures ∙ c.if-tally_passes.false in
    rw (lm, ow, nw, om, nm)
