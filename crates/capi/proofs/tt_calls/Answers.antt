-- `capi::tt_calls` meets its contract.
use Prim.Native.Nat.{◌≤◌}
use mathlib.Core.Path.{sym, ap, ◌∙◌, subst}
use Rattle.model.specs.Numbers.{counted_count}
use Rattle.model.specs.declared.answers.Counted.{Counted}
use Rattle.capi.specs.Answers.{counted_word}
use Rattle.capi.proofs.Bounds.{calls_small}
use Rattle.capi.proofs.tt_calls.Goals as goal

pub counted_word-requires : goal.counted_word-requires
counted_word-requires c = subst (λ (a : Counted). counted_count a ≤ 64) (sym c.call_count.ensures.answer) (calls_small _ _)

pub returns : goal.returns
returns c = c.counted_word.ensures ∙ ap counted_word c.call_count.ensures.answer
