-- `event_text::put_value` meets its contract.
use Rattle.std.proofs.Common.{arith}
use Rattle.writing.proofs.Laws.{put_as}
use Rattle.event_text.proofs.Values.{value_key, value_button, value_motion, value_mode, value_request}
use Rattle.event_text.proofs.put_value.Goals as goal

pub returns-in-0-to-3 : goal.returns-in-0-to-3
returns-in-0-to-3 c = (put_as (value_key _ _ c.requires.1 (omega arith)) c.put_keysym.ensures.0, c.put_keysym.ensures.1)

pub returns-in-4 : goal.returns-in-4
returns-in-4 c = (put_as (value_button _ _ (omega arith) (omega arith)) c.put_named-in-4.ensures.0, c.put_named-in-4.ensures.1)

pub returns-in-6 : goal.returns-in-6
returns-in-6 c = (put_as (value_motion _ _ c.in-6.is) c.put_named.ensures.0, c.put_named.ensures.1)

pub returns-in-7-to-10 : goal.returns-in-7-to-10
returns-in-7-to-10 c = (put_as (value_mode _ _ (omega arith) (omega arith)) c.put_named-in-7-to-10.ensures.0, c.put_named-in-7-to-10.ensures.1)

pub returns-in_default : goal.returns-in_default
returns-in_default c = (put_as (value_request _ _ (omega arith)) c.put_named-in_default.ensures.0, c.put_named-in_default.ensures.1)
