-- `keysyms::first::first_place` meets its contract. Assumes nothing.
use native.Mathlib.Omega.{arith}
use mathlib.Core.Path.{sym, ap, ◌∙◌}
use Rattle.keysyms.specs.declared.search.NamePlace.{NamePlace}
use Rattle.keysyms.proofs.FirstPlaces.{none_low, first_low, none_between, first_high, none_high}
use Rattle.keysyms.proofs.first.first_place.Goals as goal

pub returns-then-v-lt32 : goal.returns-then-v-lt32
returns-then-v-lt32 c = sym (none_low c.args.v c.if-v-lt32.true)

pub returns-then-v-le126 : goal.returns-then-v-le126
returns-then-v-le126 c =
    let v = c.args.v in
    ap NamePlace.At c.first_at.ensures ∙ sym (first_low v c.if-v-lt32.false c.if-v-le126.true)

pub returns-then-v-lt160 : goal.returns-then-v-lt160
returns-then-v-lt160 c = sym (none_between c.args.v (omega (arith, c.if-v-le126.false)) c.if-v-lt160.true)

pub returns-then-v-le255 : goal.returns-then-v-le255
returns-then-v-le255 c =
    let v = c.args.v in
    ap NamePlace.At c.first_at-then-v-le255.ensures ∙ sym (first_high v c.if-v-lt160.false c.if-v-le255.true)

pub returns : goal.returns
returns c = sym (none_high c.args.v (omega (arith, c.if-v-le255.false)))
