-- `capi::tt_parameter` meets its contract.
use Prim.Native.Nat.{◌≤◌, ◌+◌}
use mathlib.Core.Path.{sym, ap, ◌∙◌, subst}
use Rattle.model.specs.Numbers.{located_start, located_length}
use Rattle.model.specs.declared.answers.Located.{Located}
use Rattle.capi.specs.Answers.{located_word}
use Rattle.capi.proofs.Bounds.{parameter_short}
use Rattle.capi.proofs.tt_parameter.Goals as goal

pub located_word-requires : goal.located_word-requires
located_word-requires c = subst (λ (a : Located). located_start a + located_length a ≤ 8192) (sym c.locate_parameter.ensures.answer) (parameter_short _ _ _ _ _ _)

pub returns : goal.returns
returns c = c.located_word.ensures ∙ ap located_word c.locate_parameter.ensures.answer
