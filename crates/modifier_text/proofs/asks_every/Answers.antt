-- `modifier_text::asks_every` meets its contract.
use Rattle.std.proofs.Common.{rules, tests, arith, not, ◌||◌, refl}
use Rattle.std.proofs.lemmas.Iterator.Search.{all_from_yields_List}
use Rattle.std.proofs.lemmas.Iterator.{YieldsList-from_range}
use borrow.Author.Tests.{le-leb}
use Rattle.model.specs.Canonical.{asks_every}
use Rattle.model.specs.Modifiers.{is_testable, asks_bit}
use Rattle.modifier_text.proofs.asks_every.Goals as goal

pub returns-in-2-to-8 : goal.returns-in-2-to-8
unfolding asks_every
returns-in-2-to-8 c =
    let e = c.args.e in
    rw (le-leb 2 e.code (omega arith), le-leb e.code 8 (omega arith))
    (all_from_yields_List (λ k. not (is_testable e k) || asks_bit e k) _ _ _ c.all.ensures.ran (YieldsList-from_range 0 13 13 refl refl) (λ x b q k. search (rules, tests)))
