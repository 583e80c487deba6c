-- Number 8 of document 01, "no 13-bit modifier state meets the event's test", in those words, and the claim that the
-- definition that decides it, `no_state_meets`, is exact.
use Rattle.std.specs.Prelude.{ℕ, ◌<◌, ◌≡◌, Bool, true, false, ◌↔◌}
use Rattle.model.specs.Modifiers.{state_meets, no_state_meets}

-- no state of 13 bits meets the test
abbrev pub Impossible : ℕ → ℕ → Bool → Type 0
Impossible set clear clause = (state : ℕ) → state < 8192 → state_meets set clear clause state ≡ false

abbrev pub ImpossibleExact : Type 0
ImpossibleExact = (set clear : ℕ) (clause : Bool) → no_state_meets set clear clause ≡ true ↔ Impossible set clear clause
