-- `capi::state::keep` meets its contract.
use mathlib.Core.Path.{◌∙◌}
use mathlib.Core.Logic.{inl, inr}
use Rattle.capi.proofs.Matches.{left_refused, left_dropped, left_heard, left_selected}
use Rattle.capi.proofs.state.keep.Goals as goal

pub returns-in-Refused : goal.returns-in-Refused
returns-in-Refused c = elim c.in-Refused.is [ inl p ↦ left_refused _ _ c.args.out.now p.0 p.1 | inr q ↦ left_dropped _ _ c.args.out.now q ]

pub returns-in-Heard : goal.returns-in-Heard
returns-in-Heard c =
    c.store_state.ensures
    ∙ elim c.in-Heard.is [ inl p ↦ left_heard _ _ c.args.out.now p | inr q ↦ left_selected _ _ c.args.out.now q.0 q.1 ]
