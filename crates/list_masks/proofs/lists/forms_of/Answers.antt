-- `list_masks::lists::forms_of` meets its contract.
use native.Mathlib.Omega.{arith}
use mathlib.Core.Path.{refl, sym, ◌∙◌}
use Rattle.model.specs.declared.names.Added.{Added}
use Rattle.list_masks.proofs.Forms.{forms_unchanged, forms_meta}
use Rattle.list_masks.proofs.lists.forms_of.Goals as goal

pub returns-in-Nothing : goal.returns-in-Nothing
returns-in-Nothing c = rw c.in-Nothing.is (sym (forms_unchanged _ Added.Nothing (omega arith) refl))

pub returns-in-Modifier : goal.returns-in-Modifier
returns-in-Modifier c = rw c.in-Modifier.is (sym (forms_unchanged _ (Added.Modifier _) (omega arith) refl))

pub returns-in-AnyButton : goal.returns-in-AnyButton
returns-in-AnyButton c = rw c.in-AnyButton.is (sym (forms_unchanged _ Added.AnyButton (omega arith) refl))

pub returns-in-Meta : goal.returns-in-Meta
returns-in-Meta c = rw c.in-Meta.is (c.with_form.ensures ∙ sym (forms_meta _))
