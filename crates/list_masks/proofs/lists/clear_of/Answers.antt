-- `list_masks::lists::clear_of` meets its contract: unlisted bits by `|` and a difference.
use mathlib.Core.Path.{sym}
use native.Mathlib.Omega.{arith}
use borrow.Author.Tests.{not-true, not-false}
use Rattle.list_masks.proofs.Asked.{clear_listed, clear_colon, clear_all, unlisted_fits}
use Rattle.list_masks.proofs.lists.clear_of.Goals as goal

pub returns-then-not-s : goal.returns-then-not-s
returns-then-not-s c = sym (clear_listed c.args.s c.requires (not-true _ c.if-not-s.true))

pub overflow_sub-unlisted : goal.overflow_sub-unlisted
overflow_sub-unlisted c =
    omega (
      arith,
      unlisted_fits c.args.s.set c.args.s.clear
          c.requires.set c.requires.clear,
    )

pub returns-then-s : goal.returns-then-s
returns-then-s c =
    sym (clear_colon c.args.s c.requires
    (not-false _ c.if-not-s.false) c.if-s.true)

pub returns : goal.returns
returns c =
    sym (clear_all c.args.s c.requires
    (not-false _ c.if-not-s.false) c.if-s.false)
