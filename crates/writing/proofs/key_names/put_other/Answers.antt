-- `writing::key_names::put_other` meets its contract. Assumes nothing.
use native.Mathlib.Omega.{arith}
use mathlib.Core.Path.{◌≡◌, ap, ◌∙◌}
use Rattle.model.specs.Canonical.{keysym_text}
use Rattle.names.specs.Table.{name_row}
use Rattle.writing.proofs.Laws.{put_as}
use Rattle.writing.proofs.KeyNames.{row_written, number_written}
use borrow.Author.Rules.{rules}
use Rattle.writing.proofs.key_names.put_other.Goals as goal

pub put_name-requires : goal.put_name-requires
put_name-requires c = (search rules, omega (arith, c.if-place-lt-BUTTONS.true))

pub returns-then-place-lt-BUTTONS : goal.returns-then-place-lt-BUTTONS
returns-then-place-lt-BUTTONS c =
    let place = c.keysym_place-place in
    let e : name_row place.result ≡ keysym_text c.args.v =
    ap name_row place.ensures ∙ row_written c.args.v (rw place.ensures at c.if-place-lt-BUTTONS.true)
    in
    (put_as e c.put_name.ensures.0, c.put_name.ensures.1)

pub returns : goal.returns
returns c =
    let place = c.keysym_place-place in
    let e = number_written c.args.v c.requires.1 (rw place.ensures at c.if-place-lt-BUTTONS.false) in
    (put_as e c.put_hexadecimal.ensures.0, omega (arith, c.put_hexadecimal.ensures.1))
