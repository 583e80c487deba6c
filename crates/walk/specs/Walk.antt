-- What one pass over the productions finds of a stretch. proofs/PassLaws shows that this comes to model's rules.
use Rattle.std.specs.Prelude.{ℕ, suc, ◌≤◌, ◌<◌, ◌≡◌, Bool, true, false, cond, List, [], ◌∷◌, None}
use Rattle.model.specs.Setting.{Setting}
use Rattle.model.specs.Tables.{Production, Table}
use Rattle.model.specs.Counts.{sequence}
use Rattle.model.specs.declared.events.Event.{Event}
use Rattle.tables.specs.Reading.{production_total, first_event}
use Rattle.follow.specs.declared.Followed.{Followed}
use Rattle.follow.specs.Follow.{walked}
use Rattle.walk.specs.declared.Passed.{Passed}

-- ---- One production

unfoldable pub followed : Setting → List Event → Production → Followed
followed setting xs p = walked setting None None (sequence p) xs

-- ---- One pass over the productions

abbrev pub pass_next : Followed → ℕ → Passed → Passed → Passed
pass_next Followed.No i unseen seen = unseen
pass_next Followed.Prefix i unseen seen = seen
pass_next Followed.Whole i unseen seen = Passed.Chosen i

-- the earliest whole one, or whether any reads as a prefix; the first of the list has the place i, and `seen` says whether
-- one before it did
unfoldable pub passes : (Production → Followed) → ℕ → Bool → List Production → Passed
passes f i seen [] = cond seen Passed.Prefix Passed.No
passes f i seen (p ∷ ps) = pass_next (f p) i (passes f (suc i) seen ps) (passes f (suc i) true ps)

unfoldable pub passed : Table → Setting → List Event → Passed
passed t setting xs = passes (followed setting xs) 0 false t.productions

-- no context is open where there are no events
abbrev pub passed_in : Table → Setting → List Event → Passed
passed_in t setting [] = Passed.No
passed_in t setting (x ∷ xs) = passed t setting (x ∷ xs)

-- production p has its events from `at` on, and those before it begin before `low`
pub record Skipped (l : List ℕ) (low at p : ℕ) : Type 0 where
  pub most : p ≤ production_total l
  pub place : at ≡ first_event l p
  pub over : (q : ℕ) → q < p → first_event l q < low
