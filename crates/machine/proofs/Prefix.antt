-- A stretch that reads as a prefix of some production does so without its last event.
use mathlib.Core.Path.{◌≡◌, refl}
use mathlib.Core.Bool.{true}
use Rattle.std.specs.Prelude.{Option, None, Some}
use mathlib.Core.List.{List, [], ◌∷◌, ◌++◌}
use Rattle.model.specs.Setting.{Setting}
use Rattle.model.specs.Tables.{Production, Table}
use Rattle.model.specs.Counts.{Element, sequence}
use Rattle.model.specs.Matching.{fits, follows, reads_as_prefix, reading_of}
use Rattle.model.specs.declared.events.Event.{Event}
use Rattle.machine.proofs.Tests.{and_mono, any_mono}
use Rattle.machine.proofs.Track.{Closed}

module _ (setting : Setting) where
  follows_closed :
      (two one : Option Event) (els : List Element) (xs : List Event) (x : Event)
      → follows setting two one els (xs ++ (x ∷ [])) ≡ true → follows setting two one els xs ≡ true
  unfolding follows
  follows_closed two one els [] x h = refl
  follows_closed two one [] (y ∷ ys) x h = h
  follows_closed two one (el ∷ els) (y ∷ ys) x h =
      and_mono (fits setting two el y) _ _ (follows_closed one (Some y) els ys x) h

  prefix_closed :
      (xs : List Event) (x : Event) (p : Production)
      → reads_as_prefix setting (xs ++ (x ∷ [])) p ≡ true → reads_as_prefix setting xs p ≡ true
  unfolding reads_as_prefix
  prefix_closed xs x p h = follows_closed None None (sequence p) xs x h

  pub reading_closed : (t : Table) → Closed (reading_of t setting)
  reading_closed t x xs y h =
      any_mono (reads_as_prefix setting (x ∷ (xs ++ (y ∷ [])))) (reads_as_prefix setting (x ∷ xs))
      (prefix_closed (x ∷ xs) y) t.productions h
