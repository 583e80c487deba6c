-- `list_masks::lists::with_form` meets its contract: eight bits are a mask of 13 whose last five are clear.
use native.Mathlib.Omega.{arith}
use mathlib.Core.Path.{◌≡◌, ◌∙◌}
use Rattle.list_masks.specs.Summary.{with_form}
use Rattle.list_masks.proofs.Forms.{with_bit_form, with_form_below}
use Rattle.list_masks.proofs.lists.with_form.Goals as goal

pub overflow_cast-result : goal.overflow_cast-result
overflow_cast-result c =
    let e : c.with_bit.result ≡ with_form c.args.names c.args.k =
    c.with_bit.ensures ∙ with_bit_form c.args.names c.args.k (omega arith) (omega arith) in
    omega (arith, e, with_form_below c.args.names c.args.k)

pub returns : goal.returns
returns c = c.with_bit.ensures ∙ with_bit_form c.args.names c.args.k (omega arith) (omega arith)
