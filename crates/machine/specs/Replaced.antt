-- R-2: "A replaced event belongs to the selections it ended and to no later one." This is about the rules alone; proofs/Replaced
-- shows it of any reading and any list of heard events.
use Rattle.std.specs.Prelude.{ℕ, ◌≤◌, ◌≡◌, true, eqb, length, take}
use mathlib.Core.List.{List, Memᴰ}
use Rattle.model.specs.Lists.{given}
use Rattle.model.specs.Selection.{Reading, ends_in, standing, context_events}

pub record Belongs {E : Type 0} (R : Reading E) (xs : List E) : Type 0 where
  -- where something is selected at heard event i, that event is the last of the selection's events
  pub ended :
      (i : ℕ) → i ≤ length xs → given (standing R (take i xs)).selected ≡ true
      → ends_in (eqb i) (context_events (standing R (take i xs))) ≡ true
  -- an event that is not in the history after heard event i, though it was heard by then, is in no later stretch
  pub gone :
      (i j n : ℕ) → i ≤ j → j ≤ length xs → n ≤ i → (Memᴰ n (standing R (take i xs)).numbers → ⊥)
      → Memᴰ n (context_events (standing R (take j xs))) → ⊥

abbrev pub EachBelongs : Type 1
EachBelongs = (E : Type 0) (R : Reading E) (xs : List E) → Belongs R xs
