-- `list_masks::lists::with_name` meets its contract.
use native.Mathlib.Omega.{arith}
use mathlib.Core.Path.{subst, ap, ◌∙◌}
use mathlib.Core.Bool.{Bool, true, false}
use Prim.Native.Nat.{ℕ, ◌<◌}
use Rattle.model.specs.Named.{form_bit}
use Rattle.list_masks.specs.Summary.{with_form, with_name, NameIn}
use Rattle.list_masks.proofs.lists.with_name.Goals as goal

form_below : (tilde : Bool) (n : ℕ) → n < 4 → form_bit tilde n < 8
form_below true n h = omega arith
form_below false n h = omega arith

pub form_bit-requires : goal.form_bit-requires
form_bit-requires c = subst NameIn c.in-Named.is c.requires.1

pub with_form-requires : goal.with_form-requires
with_form-requires c =
    rw c.form_bit.ensures
    (form_below c.args.tilde _
    (subst NameIn c.in-Named.is c.requires.1))

pub with_bit-requires : goal.with_bit-requires
with_bit-requires c = (
  c.requires.0.clear,
  subst NameIn c.in-Bit.is
      c.requires.1,
)

pub returns-then-tilde : goal.returns-then-tilde
unfolding with_name
returns-then-tilde c = rw (c.in-Bit.is, c.if-tilde.true, c.with_bit.ensures)

pub with_bit-requires-in-Bit : goal.with_bit-requires-in-Bit
with_bit-requires-in-Bit c = (
  c.requires.0.set,
  subst NameIn c.in-Bit.is
      c.requires.1,
)

pub returns-in-Unknown : goal.returns-in-Unknown
unfolding with_name
returns-in-Unknown c = rw c.in-Unknown.is

pub returns-in-Named : goal.returns-in-Named
unfolding with_name
returns-in-Named c =
    rw (c.in-Named.is, c.with_form.ensures ∙ ap (with_form c.args.s.names) c.form_bit.ensures)

pub returns-else-tilde : goal.returns-else-tilde
unfolding with_name
returns-else-tilde c = rw (c.in-Bit.is, c.if-tilde.false, c.with_bit-in-Bit.ensures)
