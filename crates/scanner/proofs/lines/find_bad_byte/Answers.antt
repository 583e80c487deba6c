use Rattle.model.specs.Bytes.{first_bad_byte}
use Rattle.scanner.proofs.BadBytes.{bad_here, bad_later, bad_nowhere}
use borrow.Author.Rules.{rules}
use mathlib.Core.Path.{◌∙◌, refl, sym}
use Rattle.scanner.proofs.lines.find_bad_byte.Goals as goal

pub loop-i-init : goal.loop-i-init
unfolding first_bad_byte
loop-i-init c = (search rules, refl)

pub returns-then-not-is_allowed : goal.returns-then-not-is_allowed
returns-then-not-is_allowed c = sym (c.loop-i.invariant.1 ∙ bad_here c.args.text.now c.loop-i.i (search rules) (sym c.is_allowed.ensures ∙ c.if-not-is_allowed.true))

pub loop-i-preserved : goal.loop-i-preserved
loop-i-preserved c = (search rules, c.loop-i.invariant.1 ∙ bad_later c.args.text.now c.loop-i.i (search rules) (sym c.is_allowed.ensures ∙ c.if-not-is_allowed.false))

pub returns : goal.returns
returns c = sym (c.loop-i.invariant.1 ∙ bad_nowhere c.args.text.now c.loop-i.i c.loop-i.i (search rules))
