-- `capi::tt_merge` meets its contract.
use mathlib.Core.Path.{ap, ◌∙◌}
use Rattle.capi.specs.Answers.{merged_word}
use Rattle.capi.proofs.tt_merge.Goals as goal

pub returns : goal.returns
returns c = record {
  value = c.merged_word.ensures ∙ ap merged_word c.merge.ensures.answer;
  out_after = c.merge.ensures.bytes;
}
