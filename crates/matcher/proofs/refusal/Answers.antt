-- `matcher::refusal` meets its contract.
use mathlib.Core.Path.{◌≡◌, ◌∙◌}
use mathlib.Core.Bool.{Bool, not}
use Prim.Native.Nat.{ℕ}
use Rattle.model.specs.Numbers.{match_order}
use Rattle.matcher.specs.Match.{early_checks}
use Rattle.matcher.proofs.refusal.Goals as goal

number_of_checks : {a b m n c d e f : Bool} → a ≡ b → m ≡ n → c ≡ d → e ≡ f
    → ◌≡◌ {A = ℕ} (match_order (early_checks a m (not c) (not e))) (match_order (early_checks b n (not d) (not f)))
number_of_checks p m q r = λ i. match_order (early_checks (p i) (m i) (not (q i)) (not (r i)))

pub returns : goal.returns
returns c =
    c.first_of.ensures
    ∙ number_of_checks c.too_short.ensures c.modifiers_bad.ensures c.whole.ensures c.state_whole.ensures
