-- `keyboard::pair_matches` meets its contract.
use borrow.Author.Rules.{rules}
use mathlib.Core.Bool.{false, ◌||◌}
use mathlib.Core.Path.{◌∙◌}
use Rattle.model.specs.Modifiers.{bit}
use Rattle.keyboard.specs.Pairs.{lock_gives}
use Rattle.keyboard.proofs.Pairs.{with_colon, asked_either}
use Rattle.keyboard.proofs.pair_matches.Goals as goal

pub returns-then-test : goal.returns-then-test
returns-then-test c =
    rw (c.if-test.true, with_colon)
    (cc (c.keysym_of.ensures, c.bit-lock.ensures, c.bit-shift.ensures))

pub returns : goal.returns
returns c =
    let p = c.args.pair in
    let t = c.args.test in
    let state = c.args.state in
    rw c.if-test.false
    (c.under_either.ensures (λ s. lock_gives p.first p.second s (bit 1 t.set || bit 1 t.clear) (bit 1 state) t.detail)
    (λ s r h. search rules)
    ∙ cc (asked_either t.set t.clear false p.first p.second state t.detail))
