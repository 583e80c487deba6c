-- `acting::moves::answered` meets its contract.
use mathlib.Core.Logic.{inl, inr}
use Rattle.acting.specs.Moves.{answer_with}
use Rattle.acting.proofs.moves.answered.Goals as goal

pub returns-in-Chosen : goal.returns-in-Chosen
unfolding answer_with
returns-in-Chosen c = rw c.in-Chosen.is

pub returns-in-Prefix : goal.returns-in-Prefix
unfolding answer_with
returns-in-Prefix c = elim c.in-Prefix.is [ inl p ↦ rw p | inr q ↦ rw q ]
