-- `capi::answers::matched_word` meets its contract.
use native.Mathlib.Omega.{arith}
use Rattle.capi.proofs.Matches.{matched_refused, matched_dropped, matched_heard, matched_selected, mark_of_lem}
use Rattle.capi.proofs.answers.matched_word.Goals as goal

pub overflow_add-production : goal.overflow_add-production
overflow_add-production c = let h = mark_of_lem _ _ c.in-Selected.is c.requires in omega arith

pub with_value-requires : goal.with_value-requires
with_value-requires c = let h = mark_of_lem _ _ c.in-Selected.is c.requires in omega arith

pub returns-in-Refused : goal.returns-in-Refused
returns-in-Refused c = matched_refused _ _ c.in-Refused.is _ c.wide.ensures.0

pub returns-in-Dropped : goal.returns-in-Dropped
returns-in-Dropped c = matched_dropped _ c.in-Dropped.is

pub returns-in-Heard : goal.returns-in-Heard
returns-in-Heard c = matched_heard _ c.in-Heard.is

pub returns-in-Selected : goal.returns-in-Selected
returns-in-Selected c = matched_selected _ _ c.in-Selected.is _ c.with_value.ensures
