-- `capi::state::load_kept` meets its contract.
use mathlib.Core.Path.{sym, ◌∙◌}
use Rattle.capi.proofs.StateBytes.{kept_read, kept_not_read}
use Rattle.capi.proofs.state.load_kept.Goals as goal

pub returns-then-marks_read : goal.returns-then-marks_read
returns-then-marks_read c = c.from.ensures ∙ c.word_at.ensures ∙ kept_read _ (sym c.marks_read.ensures ∙ c.if-marks_read.true)

pub returns-else-marks_read : goal.returns-else-marks_read
returns-else-marks_read c = kept_not_read _ (sym c.marks_read.ensures ∙ c.if-marks_read.false)
