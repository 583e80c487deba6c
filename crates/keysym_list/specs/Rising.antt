-- R-1, "rising, .. each form once": the order and the ranges of an event's keysyms.
use Rattle.std.specs.Prelude.{ℕ, ◌≤◌, ◌<◌, ◌≡◌, List, [], ◌∷◌, length}
use Rattle.model.specs.Limits.{keysyms_of_event_limit}
use Rattle.model.specs.Named.{marked_keysym, keysyms_in}
use Rattle.model.specs.declared.events.Keysyms.{Keysyms}

-- a keysym with one mark or both
abbrev pub MarkedIn : ℕ → Type 0
MarkedIn s = (0x20000000 ≤ s) × (s < 0x80000000)

-- the first of them is above a keysym
abbrev pub Above : ℕ → List ℕ → Type 0
Above v [] = Unit
Above v (s ∷ ss) = v < marked_keysym s

abbrev pub Rising : List ℕ → Type 0
Rising [] = Unit
Rising (s ∷ ss) = MarkedIn s × Above (marked_keysym s) ss × Rising ss

-- those of an event that is kept
pub record KeysymsIn (k : Keysyms) : Type 0 where
  pub all : List ℕ
  pub rising : Rising all
  pub few : length all ≤ keysyms_of_event_limit
  pub places : k ≡ keysyms_in all
