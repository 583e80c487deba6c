-- `capi::tt_compile` meets its contract.
use Prim.Native.Nat.{◌≤◌}
use mathlib.Core.Path.{sym, ap, ◌∙◌, subst}
use Rattle.model.specs.Numbers.{compiled_place}
use Rattle.model.specs.declared.answers.Compiled.{Compiled}
use Rattle.capi.specs.Answers.{compiled_word}
use Rattle.capi.proofs.Bounds.{place_small}
use Rattle.capi.proofs.tt_compile.Goals as goal

pub compiled_word-requires : goal.compiled_word-requires
compiled_word-requires c = subst (λ (a : Compiled). compiled_place a ≤ 8192) (sym c.compile.ensures.answer) (place_small _ _)

pub returns : goal.returns
returns c = record {
  value = c.compiled_word.ensures ∙ ap compiled_word c.compile.ensures.answer;
  table_after = c.compile.ensures.bytes;
}
