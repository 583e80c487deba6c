-- When one matcher does what another does, on states that hold more or are laid out otherwise.
-- proofs/Viewed shows that demand 3 then passes from the second to the first.
use Rattle.std.specs.Prelude.{◌≡◌}
use Rattle.model.specs.Numbers.{matched_number}
use Rattle.model.specs.Demand.{MatchCall, Matcher}

-- `view` gives the state of n that a state of m stands for; `Good` holds of every state that m comes to
pub record Views {S T : Type 0} (m : Matcher S) (n : Matcher T) (view : S → T) (Good : S → Type 0) : Type 0 where
  pub fresh_good : Good m.fresh
  pub next_good : (s : S) (c : MatchCall) → Good s → Good (m.next s c)
  pub fresh : view m.fresh ≡ n.fresh
  pub answer : (s : S) (c : MatchCall) → Good s → m.answer s c ≡ n.answer (view s) c
  pub next : (s : S) (c : MatchCall) → Good s → view (m.next s c) ≡ n.next (view s) c
  -- a refused call keeps the state itself, and not only what it stands for
  pub refused : (s : S) (c : MatchCall) → Good s → (matched_number (m.answer s c) ≡ 0 → ⊥) → m.next s c ≡ s
