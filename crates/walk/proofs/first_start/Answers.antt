-- `walk::first_start` meets its contract.
use native.Mathlib.Omega.{arith}
use mathlib.Core.Path.{◌≡◌, refl, sym, ◌∙◌}
use Rattle.tables.specs.Reading.{decode}
use Rattle.keyboard.specs.Maps.{lent_setting}
use Rattle.states.specs.State.{slots_of}
use Rattle.states.proofs.SlotLaws.{length_slots}
use Rattle.walk.proofs.PassLaws.{some_read, start_no, start_yes, start_in, start_end, start_none}
use Rattle.walk.proofs.first_start.Goals as goal

pub loop-at-init : goal.loop-at-init
loop-at-init c = refl

pub pass-requires : goal.pass-requires
pass-requires c = (c.requires.0, c.loop-at-test.true)

pub loop-at-preserved : goal.loop-at-preserved
loop-at-preserved c =
    let a = c.args in
    let v = c.loop-at in
    v.invariant ∙ start_no (decode a.table.now) (lent_setting a.maps.now a.limit) (slots_of a.events.now) a.to (length_slots a.events.now) c.requires.0.room v.at c.pass.result c.loop-at-test.true c.pass.ensures c.in-No.is

pub returns-in_default : goal.returns-in_default
returns-in_default c =
    let a = c.args in
    let v = c.loop-at in (
      omega arith,
      start_yes (decode a.table.now) (lent_setting a.maps.now a.limit) (slots_of a.events.now) a.to (length_slots a.events.now) c.requires.0.room v.at c.pass.result c.loop-at-test.true c.pass.ensures (some_read c.pass.result c.in_default.not-No)
          ∙ sym v.invariant,
      c.pass.ensures ∙ start_in (decode a.table.now) (lent_setting a.maps.now a.limit) (slots_of a.events.now) a.to (length_slots a.events.now) c.requires.0.room v.at c.loop-at-test.true,
    )

pub returns : goal.returns
returns c =
    let a = c.args in
    let e : c.loop-at.at ≡ a.to = omega arith in
    let left = rw e at c.loop-at.invariant in (
      omega arith,
      start_end (decode a.table.now) (lent_setting a.maps.now a.limit) (slots_of a.events.now) a.to (length_slots a.events.now) c.requires.0.room a.to refl ∙ sym left,
      start_none (decode a.table.now) (lent_setting a.maps.now a.limit) (slots_of a.events.now) a.to (length_slots a.events.now) c.requires.0.room a.to refl,
    )
