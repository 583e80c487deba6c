-- Demand 3 of the calls that follow an accepted `tt_compile` or `tt_merge`.
use Prim.Native.Nat.{ℕ}
use native.Mathlib.Omega.{arith}
use borrow.Author.Tests.{ltb-false}
use mathlib.Core.Path.{◌≡◌, refl, sym, ap, ◌∙◌}
use mathlib.Core.Bool.{Bool, true, false}
use mathlib.Core.List.{List}
use lib.Dec.{ltb}
use lib.ListN.{length}
use Rattle.model.specs.Tables.{Table}
use Rattle.model.specs.Compiling.{Outcome, accepted, refused, compiled, compile_outcome, outcome_answer}
use Rattle.model.specs.Merging.{merged_table}
use Rattle.model.specs.declared.answers.Merged.{Merged}
use Rattle.tables.specs.Layout.{table_length}
use Rattle.tables.specs.Reading.{decode}
use Rattle.compiler.specs.Compile.{compiled_bytes}
use Rattle.merger.specs.Merge.{number_answer, merge_answer, merged_bytes}
use Rattle.merger.proofs.Answer.{answer_number}
use Rattle.claims.proofs.Numbered.{refused_numbered}
use Rattle.claims.proofs.Compiling.{demand3_compiled}
use Rattle.claims.proofs.Merging.{demand3_merged}
use Rattle.capi.specs.Answers.{compiled_word, merged_word}
use Rattle.capi.specs.Demand.{EveryList}
use Rattle.capi.specs.Chain.{AfterCompiling, AfterMerging}
use Rattle.capi.proofs.Demand.{states_demand3}

-- ---- Compiling

module _ (text buffer : List ℕ) where
  abbrev Chain : Type 0
  Chain = (t : Table) × ((compiled text ≡ accepted t) × EveryList (compiled_bytes text buffer) t)

  by_outcome :
      ltb (length buffer) table_length ≡ false → (o : Outcome) → compiled text ≡ o → compiled_word (outcome_answer o) ≡ 0 → Chain
  unfolding compiled_word
  by_outcome h (accepted t) e z =
      (t, (e, states_demand3 (compiled_bytes text buffer) t (demand3_compiled text buffer t (ltb-false (length buffer) table_length h) e)))
  by_outcome h (refused n p) e z = absurd (refused_numbered text n p e (omega arith))

  by_length :
      (b : Bool) → ltb (length buffer) table_length ≡ b → compiled_word (outcome_answer (compile_outcome b text)) ≡ 0 → Chain
  unfolding compile_outcome compiled_word
  by_length true h z = absurd (omega arith)
  by_length false h z = by_outcome h (compiled text) refl z

pub after_compiling : AfterCompiling
after_compiling text buffer z = by_length text buffer (ltb (length buffer) table_length) refl z

-- ---- Merging

module _ (old new out : List ℕ) where
  merge_accepted : merged_word (merge_answer old new out) ≡ 0 → merge_answer old new out ≡ Merged.Accepted
  unfolding merged_word merge_answer
  merge_accepted z = ap number_answer (sym (answer_number old new out) ∙ z)

pub after_merging : AfterMerging
after_merging old new out z =
    states_demand3 (merged_bytes old new out) (merged_table (decode old) (decode new))
    (demand3_merged old new out (merge_accepted old new out z))
