-- `name_text::put_word` meets its contract.
use Rattle.std.proofs.Common.{arith, ◌/◌, ◌<◌, ap, ◌∙◌}
use borrow.Author.Tests.{lt-ltb}
use Rattle.names.specs.Table.{name_row}
use Rattle.names.proofs.Written.{long_name_lem}
use Rattle.writing.proofs.Laws.{put_as}
use Rattle.name_text.specs.Forms.{form_word}
use Rattle.name_text.proofs.LongNames.{short_name}
use Rattle.name_text.proofs.put_word.Goals as goal

pub returns-then-j-lt8 : goal.returns-then-j-lt8
unfolding form_word
returns-then-j-lt8 c =
    let j = c.args.j in
    let h : j / 2 < 4 = omega (arith, c.if-j-lt8.true) in
    let p = put_as (ap name_row c.long_place.ensures.0 ∙ long_name_lem (j / 2) h) c.put_name.ensures.0 in
    (rw (lt-ltb _ _ c.if-j-lt8.true) p, omega (arith, p.next, short_name (j / 2) h))
