-- `list_masks::lists::set_of` meets its contract.
use mathlib.Core.Path.{refl, sym, subst, ◌∙◌}
use Rattle.model.specs.declared.names.Added.{Added}
use Rattle.list_masks.specs.Summary.{AddedIn}
use Rattle.list_masks.proofs.Asked.{set_unchanged, set_added}
use borrow.Author.Rules.{rules}
use Rattle.list_masks.proofs.lists.set_of.Goals as goal

pub with_bit-requires : goal.with_bit-requires
with_bit-requires c = (search rules, subst AddedIn c.in-Modifier.is c.requires.1)

pub returns-in-Nothing : goal.returns-in-Nothing
returns-in-Nothing c =
    rw c.in-Nothing.is
    (sym (set_unchanged c.args.set Added.Nothing (search rules) (λ k. refl)))

pub returns-in-Modifier : goal.returns-in-Modifier
returns-in-Modifier c = rw c.in-Modifier.is (c.with_bit.ensures ∙ sym (set_added _ _))

pub returns-in-AnyButton : goal.returns-in-AnyButton
returns-in-AnyButton c =
    rw c.in-AnyButton.is
    (sym (set_unchanged c.args.set Added.AnyButton (search rules) (λ k. refl)))

pub returns-in-Meta : goal.returns-in-Meta
returns-in-Meta c =
    rw c.in-Meta.is
    (sym (set_unchanged c.args.set Added.Meta (search rules) (λ k. refl)))
