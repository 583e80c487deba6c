-- `acting::moves::heard` meets its contract.
use Prim.Native.Nat.{◌+◌, ◌≤◌}
use native.Mathlib.Omega.{arith}
use mathlib.Core.Path.{sym, ◌∙◌}
use borrow.Author.Tests.{not-true, not-false}
use Rattle.tables.specs.Reading.{decode}
use Rattle.walk.proofs.PassLaws.{some_read}
use Rattle.follow.specs.Follow.{WalkReady}
use Rattle.keyboard.specs.Maps.{lent_setting}
use Rattle.states.proofs.StateLaws.{state_facts}
use Rattle.acting.proofs.MoveLaws.{left_room, left_within, left_ready, heard_shut, heard_no, heard_yes}
use Rattle.acting.proofs.moves.heard.Goals as goal

pub slice_bounds-left_for-end : goal.slice_bounds-left_for-end
slice_bounds-left_for-end c =
    let facts = state_facts c.args.state c.requires.1.0 in
    sym facts.long

pub left_for-left-requires : goal.left_for-left-requires
left_for-left-requires c =
    let facts = state_facts c.args.state c.requires.1.0 in
    (facts.long, facts.few)

pub slice_bounds-put_event-end : goal.slice_bounds-put_event-end
slice_bounds-put_event-end c =
    let facts = state_facts c.args.state c.requires.1.0 in
    sym facts.long

pub put_event-requires : goal.put_event-requires
put_event-requires c =
    let facts = state_facts c.args.state c.requires.1.0 in
    let setting = lent_setting c.args.maps.now c.args.limit in
    let left = c.left_for-left in
    -- what is left has room for the event
    let room : left.result.kept ≤ 24 =
    left_room (decode c.args.table.now) setting c.args.state facts c.args.x left.result (left.ensures (decode c.args.table.now) setting) in
    omega (arith, room, facts.long)

pub overflow_add-to : goal.overflow_add-to
overflow_add-to c =
    let facts = state_facts c.args.state c.requires.1.0 in
    let setting = lent_setting c.args.maps.now c.args.limit in
    let left = c.left_for-left in
    -- what is left has room for the event
    let room : left.result.kept ≤ 24 =
    left_room (decode c.args.table.now) setting c.args.state facts c.args.x left.result (left.ensures (decode c.args.table.now) setting) in
    omega (arith, room)

pub slice_bounds-restart-end : goal.slice_bounds-restart-end
slice_bounds-restart-end c =
    let facts = state_facts c.args.state c.requires.1.0 in
    let setting = lent_setting c.args.maps.now c.args.limit in
    let left = c.left_for-left in
    -- the slots with the event are ready to be walked along
    let ready : WalkReady c.args.table.now c.args.maps.now c.put_event.new.out (left.result.kept + 1) =
    let p = c.requires in
    left_ready (decode c.args.table.now) setting c.args.state facts c.args.x left.result (left.ensures (decode c.args.table.now) setting) c.put_event.new.out c.put_event.ensures
    c.args.table.now c.args.maps.now p.0.0 p.0.1 p.1.1 in
    sym ready.long

pub restart-requires : goal.restart-requires
restart-requires c =
    let facts = state_facts c.args.state c.requires.1.0 in
    let setting = lent_setting c.args.maps.now c.args.limit in
    let left = c.left_for-left in
    -- the slots with the event are ready to be walked along
    let ready : WalkReady c.args.table.now c.args.maps.now c.put_event.new.out (left.result.kept + 1) =
    let p = c.requires in
    left_ready (decode c.args.table.now) setting c.args.state facts c.args.x left.result (left.ensures (decode c.args.table.now) setting) c.put_event.new.out c.put_event.ensures
    c.args.table.now c.args.maps.now p.0.0 p.0.1 p.1.1 in
    (ready, omega arith)

pub returns-then-not-left : goal.returns-then-not-left
returns-then-not-left c =
    let facts = state_facts c.args.state c.requires.1.0 in
    let setting = lent_setting c.args.maps.now c.args.limit in
    let l = c.left_for-left in
    c.restart.ensures
    ∙ heard_shut (decode c.args.table.now) setting c.args.state facts c.args.x l.result (l.ensures (decode c.args.table.now) setting) c.put_event.new.out c.put_event.ensures
    (not-true _ c.if-not-left.true)

pub slice_bounds-pass-end : goal.slice_bounds-pass-end
slice_bounds-pass-end c =
    let facts = state_facts c.args.state c.requires.1.0 in
    let setting = lent_setting c.args.maps.now c.args.limit in
    let left = c.left_for-left in
    -- the slots with the event are ready to be walked along
    let ready : WalkReady c.args.table.now c.args.maps.now c.put_event.new.out (left.result.kept + 1) =
    let p = c.requires in
    left_ready (decode c.args.table.now) setting c.args.state facts c.args.x left.result (left.ensures (decode c.args.table.now) setting) c.put_event.new.out c.put_event.ensures
    c.args.table.now c.args.maps.now p.0.0 p.0.1 p.1.1 in
    sym ready.long

pub pass-requires : goal.pass-requires
pass-requires c =
    let facts = state_facts c.args.state c.requires.1.0 in
    let setting = lent_setting c.args.maps.now c.args.limit in
    let left = c.left_for-left in
    -- the slots with the event are ready to be walked along
    let ready : WalkReady c.args.table.now c.args.maps.now c.put_event.new.out (left.result.kept + 1) =
    let p = c.requires in
    left_ready (decode c.args.table.now) setting c.args.state facts c.args.x left.result (left.ensures (decode c.args.table.now) setting) c.put_event.new.out c.put_event.ensures
    c.args.table.now c.args.maps.now p.0.0 p.0.1 p.1.1 in
    (ready, omega arith)

pub slice_bounds-restart-end-in-No : goal.slice_bounds-restart-end-in-No
slice_bounds-restart-end-in-No c =
    let facts = state_facts c.args.state c.requires.1.0 in
    let setting = lent_setting c.args.maps.now c.args.limit in
    let left = c.left_for-left in
    -- the slots with the event are ready to be walked along
    let ready : WalkReady c.args.table.now c.args.maps.now c.put_event.new.out (left.result.kept + 1) =
    let p = c.requires in
    left_ready (decode c.args.table.now) setting c.args.state facts c.args.x left.result (left.ensures (decode c.args.table.now) setting) c.put_event.new.out c.put_event.ensures
    c.args.table.now c.args.maps.now p.0.0 p.0.1 p.1.1 in
    sym ready.long

pub restart-requires-in-No : goal.restart-requires-in-No
restart-requires-in-No c =
    let facts = state_facts c.args.state c.requires.1.0 in
    let setting = lent_setting c.args.maps.now c.args.limit in
    let left = c.left_for-left in
    -- the slots with the event are ready to be walked along
    let ready : WalkReady c.args.table.now c.args.maps.now c.put_event.new.out (left.result.kept + 1) =
    let p = c.requires in
    left_ready (decode c.args.table.now) setting c.args.state facts c.args.x left.result (left.ensures (decode c.args.table.now) setting) c.put_event.new.out c.put_event.ensures
    c.args.table.now c.args.maps.now p.0.0 p.0.1 p.1.1 in
    -- its mark lies within it
    let marked : left.result.selected ≤ left.result.kept =
    left_within (decode c.args.table.now) setting c.args.state facts c.args.x left.result (left.ensures (decode c.args.table.now) setting) in
    (ready, omega (arith, c.max.ensures, marked))

pub returns-in-No : goal.returns-in-No
returns-in-No c =
    let facts = state_facts c.args.state c.requires.1.0 in
    let setting = lent_setting c.args.maps.now c.args.limit in
    let l = c.left_for-left in
    c.restart-in-No.ensures
    ∙ heard_no (decode c.args.table.now) setting c.args.state facts c.args.x l.result (l.ensures (decode c.args.table.now) setting) c.put_event.new.out c.put_event.ensures
    c.pass.result c.max.result (not-false _ c.if-not-left.false) c.pass.ensures c.in-No.is (omega arith)

pub returns-in_default : goal.returns-in_default
returns-in_default c =
    let facts = state_facts c.args.state c.requires.1.0 in
    let setting = lent_setting c.args.maps.now c.args.limit in
    let l = c.left_for-left in
    c.answered.ensures
    ∙ heard_yes (decode c.args.table.now) setting c.args.state facts c.args.x l.result (l.ensures (decode c.args.table.now) setting) c.put_event.new.out c.put_event.ensures
    c.pass.result (not-false _ c.if-not-left.false) c.pass.ensures (some_read c.pass.result c.in_default.not-No)
