-- `writing::key_names::put_keysym` meets its contract. Assumes nothing.
use mathlib.Core.Path.{sym, ◌∙◌}
use Rattle.writing.proofs.Laws.{put_as}
use Rattle.writing.proofs.KeyNames.{latin1_place, latin1_written}
use borrow.Author.Rules.{rules}
use Rattle.writing.proofs.key_names.put_keysym.Goals as goal

pub put_latin1-requires : goal.put_latin1-requires
put_latin1-requires c = (search rules, latin1_place c.args.v c.in-At.place (sym c.first_place.ensures ∙ c.in-At.is))

pub put_other-requires : goal.put_other-requires
put_other-requires c = (search rules, sym c.first_place.ensures ∙ c.in-Nowhere.is)

pub returns-in-At : goal.returns-in-At
returns-in-At c =
    let e = latin1_written c.args.v c.in-At.place (sym c.first_place.ensures ∙ c.in-At.is) in
    (put_as e c.put_latin1.ensures.0, c.put_latin1.ensures.1)

pub returns-in-Nowhere : goal.returns-in-Nowhere
returns-in-Nowhere c = c.put_other.ensures
