-- `event_text::put_type` meets its contract.
use Rattle.std.proofs.Common.{◌≡◌, ap, ◌∙◌}
use Rattle.model.specs.Canonical.{type_text}
use Rattle.names.specs.Table.{name_row}
use Rattle.names.proofs.Written.{button_motion, type_name_lem}
use Rattle.writing.proofs.Laws.{put_as}
use Rattle.event_text.proofs.put_type.Goals as goal
use Rattle.event_text.proofs.put_type.Goals.{then-e, else-e}

pub returns : goal.returns
unfolding type_text
returns c =
    let e = c.args.e in
    let n : name_row c.if-e.place ≡ type_text e = elim c.if-e.branch [
      | then-e w ↦ rw w.if-e.true (ap name_row w.place-is ∙ button_motion)
      | else-e w ↦ rw w.if-e.false (ap name_row (w.place-is ∙ w.type_place-place.ensures.0) ∙ type_name_lem e.code c.requires.1 c.requires.2)
    ] in
    (put_as n c.put_name.ensures.0, c.put_name.ensures.1)
