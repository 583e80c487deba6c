-- The merger's answer and bytes, by where its checks stop; and what an accepted merge gives.
use Prim.Native.Nat.{ℕ, ◌≤◌, ◌<◌}
use native.Mathlib.Omega.{arith}
use mathlib.Core.Path.{◌≡◌, refl, sym, ap, ◌∙◌}
use mathlib.Core.Bool.{Bool, true, false, not}
use mathlib.Core.List.{List, ◌++◌}
use lib.Dec.{eqb}
use lib.ListN.{length, drop}
use borrow.Author.Tests.{lt-ltb, le-ltb, eqb-true, ne_eqb}
use Rattle.words.specs.Words.{cleared}
use Rattle.model.specs.Numbers.{merge_order, merged_number}
use Rattle.model.specs.Merging.{merged_table, merge_passes_limit}
use Rattle.model.specs.declared.answers.Merged.{Merged}
use Rattle.tables.specs.Layout.{encode, table_length}
use Rattle.tables.specs.Reading.{merged_in, decode}
use Rattle.tables.specs.Whole.{whole}
use Rattle.merger.specs.Merge.{merge_number, number_answer, merge_answer, merged_bytes}

pub merged_there : (l : List ℕ) → (decode l).merged ≡ merged_in l
unfolding decode
merged_there l = refl

-- ---- The order of the checks

-- past the lengths, 1 is not given
not_one : (a b c d e : Bool) → merge_order false false false a b c d e ≡ 1 → ⊥
not_one true b c d e h = omega arith
not_one false true c d e h = omega arith
not_one false false true d e h = omega arith
not_one false false false true e h = omega arith
not_one false false false false true h = omega arith
not_one false false false false false h = omega arith

pub not_no : (b : Bool) → not b ≡ false → b ≡ true
not_no true e = refl
not_no false e = sym e

-- no check on the tables applies
pub record NoneApply (a b c d e : Bool) : Type 0 where
  pub old_not_whole : a ≡ false
  pub new_not_whole : b ≡ false
  pub old_merged : c ≡ false
  pub new_merged : d ≡ false
  pub past : e ≡ false

none_apply : (a b c d e : Bool) → merge_order false false false a b c d e ≡ 0 → NoneApply a b c d e
none_apply true b c d e h = absurd (omega arith)
none_apply false true c d e h = absurd (omega arith)
none_apply false false true d e h = absurd (omega arith)
none_apply false false false true e h = absurd (omega arith)
none_apply false false false false true h = absurd (omega arith)
none_apply false false false false false h = record { old_not_whole = refl; new_not_whole = refl; old_merged = refl; new_merged = refl; past = refl }

-- the number of an answer is the number that it was made from
answer_of_lem : (n : ℕ) → merged_number (number_answer n) ≡ n
answer_of_lem n = go (eqb n 0) refl
  where
    go : (t : Bool) → eqb n 0 ≡ t → merged_number (number_answer n) ≡ n
    go true q = rw q (sym (eqb-true n 0 q))
    go false q = rw q

module _ (old new out : List ℕ) where
  by_number : (n : ℕ) → merge_number old new out ≡ n → merge_answer old new out ≡ number_answer n
  unfolding merge_answer
  by_number n e = ap number_answer e

  pub answer_number : merged_number (merge_answer old new out) ≡ merge_number old new out
  unfolding merge_answer
  answer_number = answer_of_lem (merge_number old new out)

  -- an answer and bytes, with the number of the answer
  pub numbered : {r : Merged} {b : List ℕ} → (r ≡ merge_answer old new out) × (b ≡ merged_bytes old new out)
      → record { answer : r ≡ merge_answer old new out; number : merged_number r ≡ merge_number old new out; bytes : b ≡ merged_bytes old new out }
  numbered h = record { answer = h.0; number = ap merged_number h.0 ∙ answer_number; bytes = h.1 }

  -- ---- 1

  short_refusal : merge_number old new out ≡ 1 → (Merged.Refused 1 ≡ merge_answer old new out) × (out ≡ merged_bytes old new out)
  unfolding merged_bytes
  short_refusal e = (sym (by_number 1 e), rw e)

  pub short_old_lem : length old < table_length → (Merged.Refused 1 ≡ merge_answer old new out) × (out ≡ merged_bytes old new out)
  unfolding merge_number
  short_old_lem h = short_refusal (rw (lt-ltb (length old) table_length h))

  pub short_new_lem : table_length ≤ length old → length new < table_length → (Merged.Refused 1 ≡ merge_answer old new out) × (out ≡ merged_bytes old new out)
  unfolding merge_number
  short_new_lem g h = short_refusal (rw (le-ltb (length old) table_length g, lt-ltb (length new) table_length h))

  pub short_out : table_length ≤ length old → table_length ≤ length new → length out < table_length → (Merged.Refused 1 ≡ merge_answer old new out) × (out ≡ merged_bytes old new out)
  unfolding merge_number
  short_out f g h =
      short_refusal (rw (le-ltb (length old) table_length f, le-ltb (length new) table_length g, lt-ltb (length out) table_length h))

  -- ---- The checks on the tables

  module _ (lo : table_length ≤ length old) (ln : table_length ≤ length new) (lu : table_length ≤ length out) where
    number_there : merge_number old new out ≡ merge_order false false false (not (whole old)) (not (whole new)) (decode old).merged (decode new).merged (merge_passes_limit (decode old) (decode new))
    unfolding merge_number
    number_there = rw (le-ltb (length old) table_length lo, le-ltb (length new) table_length ln, le-ltb (length out) table_length lu)

    pub refused : (n : ℕ) → n ≡ merge_order false false false (not (whole old)) (not (whole new)) (decode old).merged (decode new).merged (merge_passes_limit (decode old) (decode new))
        → (n ≡ 0 → ⊥) → (Merged.Refused n ≡ merge_answer old new out) × (cleared table_length out ≡ merged_bytes old new out)
    unfolding merged_bytes
    refused n e z =
        let m : merge_number old new out ≡ n = number_there ∙ sym e in
        let o : n ≡ 1 → ⊥ = λ q. not_one (not (whole old)) (not (whole new)) (decode old).merged (decode new).merged (merge_passes_limit (decode old) (decode new)) (sym e ∙ q) in
        let a : eqb n 0 ≡ false = ne_eqb n 0 z in
        let b : eqb n 1 ≡ false = ne_eqb n 1 o in
        (sym (by_number n m ∙ rw a), rw (m, a, b))

    module _ (zero : 0 ≡ merge_order false false false (not (whole old)) (not (whole new)) (decode old).merged (decode new).merged (merge_passes_limit (decode old) (decode new))) where
      pub none : NoneApply (not (whole old)) (not (whole new)) (decode old).merged (decode new).merged (merge_passes_limit (decode old) (decode new))
      none = none_apply (not (whole old)) (not (whole new)) (decode old).merged (decode new).merged (merge_passes_limit (decode old) (decode new)) (sym zero)

      pub accepted : (Merged.Accepted ≡ merge_answer old new out)
          × (encode (merged_table (decode old) (decode new)) ++ drop table_length out ≡ merged_bytes old new out)
      unfolding merged_bytes
      accepted = let m : merge_number old new out ≡ 0 = number_there ∙ sym zero in (sym (by_number 0 m), rw m)
