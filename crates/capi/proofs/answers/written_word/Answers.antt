-- `capi::answers::written_word` meets its contract.
use Rattle.capi.proofs.Words.{written_accepted, written_refused, length_of}
use Rattle.capi.proofs.answers.written_word.Goals as goal

pub with_value-requires : goal.with_value-requires
with_value-requires c = length_of _ _ c.in-Accepted.is c.requires

pub returns-in-Accepted : goal.returns-in-Accepted
returns-in-Accepted c = written_accepted _ _ c.in-Accepted.is _ c.with_value.ensures

pub returns-in-Refused : goal.returns-in-Refused
returns-in-Refused c = written_refused _ _ c.in-Refused.is _ c.wide.ensures.0
