-- `list_masks::lists::clause_of` meets its contract: of 13 bits those from 256 on are the buttons'.
use mathlib.Core.Path.{sym}
use Rattle.list_masks.specs.Summary.{clause_of}
use Rattle.list_masks.proofs.Asked.{clause_buttons}
use borrow.Author.Rules.{rules}
use Rattle.list_masks.proofs.lists.clause_of.Goals as goal

pub returns-in-Nothing : goal.returns-in-Nothing
unfolding clause_of
returns-in-Nothing c = rw c.in-Nothing.is

pub returns-in-Modifier : goal.returns-in-Modifier
unfolding clause_of
returns-in-Modifier c = rw c.in-Modifier.is

pub returns-in-AnyButton : goal.returns-in-AnyButton
returns-in-AnyButton c = rw c.in-AnyButton.is (sym (clause_buttons c.args.set (search rules)))

pub returns-in-Meta : goal.returns-in-Meta
unfolding clause_of
returns-in-Meta c = rw c.in-Meta.is
