-- `capi::answers::located_word` meets its contract.
use native.Mathlib.Omega.{arith}
use Rattle.capi.proofs.Words.{in_first, in_second, nowhere, first_ends, second_ends}
use Rattle.capi.proofs.answers.located_word.Goals as goal

pub part_word-requires : goal.part_word-requires
part_word-requires c = (omega arith, first_ends _ _ _ c.in-First.is c.requires)

pub part_word-requires-in-Second : goal.part_word-requires-in-Second
part_word-requires-in-Second c = (omega arith, second_ends _ _ _ c.in-Second.is c.requires)

pub returns-in-First : goal.returns-in-First
returns-in-First c = in_first _ _ _ c.in-First.is _ c.part_word.ensures

pub returns-in-Second : goal.returns-in-Second
returns-in-Second c = in_second _ _ _ c.in-Second.is _ c.part_word-in-Second.ensures

pub returns-in-Refused : goal.returns-in-Refused
returns-in-Refused c = nowhere _ _ c.in-Refused.is _ c.wide.ensures.0
