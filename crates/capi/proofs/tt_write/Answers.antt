-- `capi::tt_write` meets its contract.
use mathlib.Core.Path.{ap, ◌∙◌}
use Rattle.capi.specs.Answers.{written_word}
use Rattle.capi.proofs.tt_write.Goals as goal

pub returns : goal.returns
returns c = record {
  value = c.written_word.ensures ∙ ap written_word c.write.ensures.answer;
  out_after = c.write.ensures.bytes;
}
