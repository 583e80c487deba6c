-- `acting::moves::restart` meets its contract.
use mathlib.Core.Path.{◌∙◌}
use Rattle.tables.specs.Reading.{decode}
use Rattle.keyboard.specs.Maps.{lent_setting}
use Rattle.states.specs.State.{slots_of}
use Rattle.states.proofs.SlotLaws.{length_slots}
use Rattle.acting.proofs.MoveLaws.{restart_is}
use Rattle.acting.proofs.moves.restart.Goals as goal

pub returns : goal.returns
returns c =
    let a = c.args in
    let p = c.requires in
    let s = c.first_start-start in
    let k = c.kept_from-from in
    c.answered.ensures
    ∙ restart_is (decode a.table.now) (lent_setting a.maps.now a.limit) (slots_of a.events.now) a.to a.used s.result.at a.moving s.result.found
    (length_slots a.events.now) p.0.room s.ensures.0 s.ensures.1 s.ensures.2 k.result c.shifted-slots.result p.1 k.ensures c.shifted-slots.ensures
