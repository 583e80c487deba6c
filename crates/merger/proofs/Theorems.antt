-- What the output then is, as specs/Results states it.
use Prim.Native.Nat.{ℕ}
use native.Mathlib.Omega.{arith}
use mathlib.Core.Path.{◌≡◌, refl, ap, ◌∙◌}
use mathlib.Core.Bool.{Bool, true, false, not}
use mathlib.Core.List.{List, ◌++◌}
use lib.Dec.{eqb, ltb}
use lib.ListN.{length, drop}
use borrow.Author.Tests.{eqb-true, ne_eqb}
use Rattle.words.specs.Words.{cleared}
use Rattle.model.specs.Numbers.{merge_order}
use Rattle.model.specs.Compiling.{passes_limit, totals_pass}
use Rattle.model.specs.Tables.{empty_table}
use Rattle.model.specs.Merging.{merged_table, merge_passes_limit}
use Rattle.model.specs.Demand.{by_merging}
use Rattle.model.specs.declared.answers.Merged.{Merged}
use Rattle.tables.specs.Layout.{encode, table_length, flat}
use Rattle.tables.specs.Reading.{decode}
use Rattle.tables.specs.Fitting.{texts_in_range, fitting}
use Rattle.tables.specs.Whole.{whole}
use Rattle.tables.proofs.Theorems.{whole_encode, decode_encode, encode_empty}
use Rattle.merger.specs.Merge.{merge_number, number_answer, merge_answer, merged_bytes}
use Rattle.merger.specs.Results.{MergeIsWhole, MergeReadsAs, MergeIsAccepted, RefusedMergeIsEmpty}
use Rattle.merger.proofs.Answer.{not_no}
use Rattle.merger.proofs.Result.{result_whole, result_decode}

-- no check applies
record Clear (a b c d e f g h : Bool) : Type 0 where
  old_not_whole : d ≡ false
  new_not_whole : e ≡ false
  old_merged : f ≡ false
  new_merged : g ≡ false
  past : h ≡ false

clear_order : (a b c d e f g h : Bool) → merge_order a b c d e f g h ≡ 0 → Clear a b c d e f g h
clear_order true b c d e f g h z = absurd (omega arith)
clear_order false true c d e f g h z = absurd (omega arith)
clear_order false false true d e f g h z = absurd (omega arith)
clear_order false false false true e f g h z = absurd (omega arith)
clear_order false false false false true f g h z = absurd (omega arith)
clear_order false false false false false true g h z = absurd (omega arith)
clear_order false false false false false false true h z = absurd (omega arith)
clear_order false false false false false false false true z = absurd (omega arith)
clear_order false false false false false false false false z =
    record { old_not_whole = refl; new_not_whole = refl; old_merged = refl; new_merged = refl; past = refl }

answer_zero : (n : ℕ) → number_answer n ≡ Merged.Accepted → n ≡ 0
answer_zero n e = go (eqb n 0) refl
  where
    go : (t : Bool) → eqb n 0 ≡ t → n ≡ 0
    go true q = eqb-true n 0 q
    go false q =
        let f : Merged.Refused n ≡ Merged.Accepted = rw q at e in
        let z : ◌≡◌ {A = ℕ} 0 1 = cc in
        absurd (omega arith)

empty_fits : fitting empty_table ≡ true
unfolding fitting texts_in_range flat passes_limit totals_pass
empty_fits = refl

module _ (old new out : List ℕ) (ne : merge_number old new out ≡ 0 → ⊥) (nl : merge_number old new out ≡ 1 → ⊥) where
  bytes_left : merged_bytes old new out ≡ encode empty_table ++ drop table_length out
  unfolding merged_bytes cleared
  bytes_left = rw (ne_eqb (merge_number old new out) 0 ne, ne_eqb (merge_number old new out) 1 nl, encode_empty)

pub refused_empty : RefusedMergeIsEmpty
refused_empty old new out ne nl =
    let e = bytes_left old new out ne nl in (
      rw e (whole_encode empty_table empty_fits (drop table_length out)),
      ap decode e ∙ decode_encode empty_table empty_fits (drop table_length out),
    )

module _ (old new out : List ℕ) (yes : merge_answer old new out ≡ Merged.Accepted) where
  zero : merge_number old new out ≡ 0
  unfolding merge_answer
  zero = answer_zero (merge_number old new out) yes

  clear : Clear (ltb (length old) table_length) (ltb (length new) table_length) (ltb (length out) table_length) (not (whole old)) (not (whole new)) (decode old).merged (decode new).merged (merge_passes_limit (decode old) (decode new))
  unfolding merge_number
  clear =
      clear_order (ltb (length old) table_length) (ltb (length new) table_length) (ltb (length out) table_length) (not (whole old)) (not (whole new)) (decode old).merged (decode new).merged (merge_passes_limit (decode old) (decode new)) zero

  bytes_there : merged_bytes old new out ≡ encode (merged_table (decode old) (decode new)) ++ drop table_length out
  unfolding merged_bytes
  bytes_there = rw zero

pub accepted_whole : MergeIsWhole
accepted_whole old new out e =
    let c = clear old new out e in
    rw (bytes_there old new out e)
    (result_whole old new (not_no (whole old) c.old_not_whole) (not_no (whole new) c.new_not_whole) c.old_merged c.new_merged c.past (drop table_length out))

pub accepted_decode : MergeReadsAs
accepted_decode old new out e =
    let c = clear old new out e in
    ap decode (bytes_there old new out e)
    ∙ result_decode old new (not_no (whole old) c.old_not_whole) (not_no (whole new) c.new_not_whole) c.old_merged c.new_merged c.past (drop table_length out)

pub accepted_accepted : MergeIsAccepted
accepted_accepted old new out e a b =
    let c = clear old new out e in
    rw (accepted_decode old new out e) (by_merging a b c.old_merged c.new_merged c.past)
