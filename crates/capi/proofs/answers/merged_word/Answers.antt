-- `capi::answers::merged_word` meets its contract.
use Rattle.capi.proofs.Words.{merged_accepted, merged_refused}
use Rattle.capi.proofs.answers.merged_word.Goals as goal

pub returns-in-Accepted : goal.returns-in-Accepted
returns-in-Accepted c = merged_accepted _ c.in-Accepted.is

pub returns-in-Refused : goal.returns-in-Refused
returns-in-Refused c = merged_refused _ _ c.in-Refused.is _ c.wide.ensures.0
