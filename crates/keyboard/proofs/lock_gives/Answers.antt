-- `keyboard::lock_gives` meets its contract.
use borrow.Author.Rules.{rules}
use lib.Dec.{eqb}
use Rattle.model.specs.Keyboard.{keysym_of}
use Rattle.keyboard.specs.Pairs.{lock_gives}
use Rattle.keyboard.proofs.lock_gives.Goals as goal

pub returns : goal.returns
unfolding lock_gives
returns c =
    let a = c.args in
    c.under_either.ensures (λ l. eqb (keysym_of a.pair.first a.pair.second a.shift l) a.detail) (λ l r p. search rules)
