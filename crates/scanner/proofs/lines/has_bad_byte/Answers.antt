use Rattle.scanner.proofs.BadBytes.{bad_end, bad_step, given_bad}
use borrow.Author.Rules.{rules}
use mathlib.Core.Path.{◌∙◌, sym}
use Rattle.scanner.proofs.lines.has_bad_byte.Goals as goal

pub loop-i-init : goal.loop-i-init
loop-i-init c = (search rules, given_bad c.args.text.now)

pub loop-i-preserved : goal.loop-i-preserved
loop-i-preserved c = (search rules, c.loop-i.invariant.1 ∙ bad_step c.args.text.now c.loop-i.i c.loop-i.bad c.is_allowed.result (search rules) c.is_allowed.ensures)

pub returns : goal.returns
returns c = sym (c.loop-i.invariant.1 ∙ bad_end c.args.text.now c.loop-i.i c.loop-i.bad (search rules))
