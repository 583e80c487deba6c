-- `capi::answers::compiled_word` meets its contract.
use native.Mathlib.Omega.{arith}
use Rattle.capi.proofs.Words.{compiled_accepted, compiled_refused, place_of}
use Rattle.capi.proofs.answers.compiled_word.Goals as goal

pub with_value-requires : goal.with_value-requires
with_value-requires c = let h = place_of _ _ _ c.in-Refused.is c.requires in omega arith

pub returns-in-Accepted : goal.returns-in-Accepted
returns-in-Accepted c = compiled_accepted _ c.in-Accepted.is

pub returns-in-Refused : goal.returns-in-Refused
returns-in-Refused c = compiled_refused _ _ _ c.in-Refused.is _ c.with_value.ensures
