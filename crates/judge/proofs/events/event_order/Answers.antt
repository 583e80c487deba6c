-- `judge::events::event_order` meets its contract.
use Rattle.judge.proofs.events.event_order.Goals as goal

pub returns-then-unknown : goal.returns-then-unknown
returns-then-unknown c = rw c.if-unknown.true

pub returns-then-range : goal.returns-then-range
returns-then-range c = rw (c.if-unknown.false, c.if-range.true)

pub returns-then-unbuilt : goal.returns-then-unbuilt
returns-then-unbuilt c = rw (c.if-unknown.false, c.if-range.false, c.if-unbuilt.true)

pub returns-then-list : goal.returns-then-list
returns-then-list c = rw (c.if-unknown.false, c.if-range.false, c.if-unbuilt.false, c.if-list.true)

pub returns-then-colon : goal.returns-then-colon
returns-then-colon c =
    rw (c.if-unknown.false, c.if-range.false, c.if-unbuilt.false, c.if-list.false, c.if-colon.true)

pub returns-then-impossible : goal.returns-then-impossible
returns-then-impossible c =
    rw
    (c.if-unknown.false, c.if-range.false, c.if-unbuilt.false, c.if-list.false, c.if-colon.false, c.if-impossible.true)

pub returns : goal.returns
returns c =
    rw
    (c.if-unknown.false, c.if-range.false, c.if-unbuilt.false, c.if-list.false, c.if-colon.false, c.if-impossible.false)
