use Rattle.model.specs.Bytes.{first_bad_byte}
use Rattle.scanner.proofs.BadBytes.{not_given}
use mathlib.Core.Path.{◌∙◌, sym}
use Rattle.scanner.proofs.lines.first_bad_byte.Goals as goal

pub returns : goal.returns
returns c = not_given (first_bad_byte c.args.text.now) (sym c.has_bad_byte.ensures ∙ c.if-has_bad_byte.false)
