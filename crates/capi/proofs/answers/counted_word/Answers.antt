-- `capi::answers::counted_word` meets its contract.
use native.Mathlib.Omega.{arith}
use Rattle.capi.proofs.Words.{counted_accepted, counted_refused, count_of_lem}
use Rattle.capi.proofs.answers.counted_word.Goals as goal

pub with_value-requires : goal.with_value-requires
with_value-requires c = let h = count_of_lem _ _ c.in-Accepted.is c.requires in omega arith

pub returns-in-Accepted : goal.returns-in-Accepted
returns-in-Accepted c = counted_accepted _ _ c.in-Accepted.is _ c.with_value.ensures

pub returns-in-Refused : goal.returns-in-Refused
returns-in-Refused c = counted_refused _ _ c.in-Refused.is _ c.wide.ensures.0
