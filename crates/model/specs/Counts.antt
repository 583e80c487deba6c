-- Document 01, "Counts and time": what a counted event stands for, and the multi-click time.
use Rattle.std.specs.Prelude.{ℕ, zero, suc, ◌+◌, ◌-◌, ◌%◌, Bool, true, false, cond, ◌||◌, List, [], ◌∷◌, ◌++◌, eqb, leb, ltb}
use Rattle.model.specs.Codes.{key_release, button_release}
use Rattle.model.specs.Tables.{Production}
use Rattle.model.specs.declared.events.KeptEvent.{KeptEvent}

-- one of the events that a kept event stands for: "All carry the same test and detail."
pub record Element : Type 0 where
  pub code : ℕ
  -- whose test and detail it carries
  pub event : KeptEvent
  -- it "must come less than the multi-click time after the one before" of its kind, two elements back
  pub timed : Bool

abbrev pub element : ℕ → Bool → KeptEvent → Element
element code timed e = record { code = code; event = e; timed = timed }

abbrev pub is_release : ℕ → Bool
is_release code = eqb code key_release || eqb code button_release

-- n times release, press
unfoldable pub release_press : ℕ → KeptEvent → List Element
release_press zero e = []
release_press (suc n) e = element (e.code + 1) false e ∷ element e.code true e ∷ release_press n e

-- n times press, release
unfoldable pub press_release : ℕ → KeptEvent → List Element
press_release zero e = []
press_release (suc n) e = element (e.code - 1) false e ∷ element e.code true e ∷ press_release n e

-- "A press counted n is press, then n-1 times release, press."
abbrev pub counted_press : ℕ → KeptEvent → List Element
counted_press n e = element e.code false e ∷ release_press (n - 1) e

-- "A release counted n is n times press, release.", the first release untimed
abbrev pub counted_release : ℕ → KeptEvent → List Element
counted_release n e = element (e.code - 1) false e ∷ element e.code false e ∷ press_release (n - 1) e

-- an event at a count: "Count 1 reads as no count."
unfoldable pub elements_at : ℕ → KeptEvent → List Element
elements_at n e =
    cond (leb n 1) (element e.code false e ∷ [])
    (cond (is_release e.code) (counted_release n e) (counted_press n e))

unfoldable pub elements_of : KeptEvent → List Element
elements_of e = elements_at e.count e

-- the sequence of a production after expansion
unfoldable pub expanded : List KeptEvent → List Element
expanded [] = []
expanded (e ∷ es) = elements_of e ++ expanded es

unfoldable pub sequence : Production → List Element
sequence p = expanded p.events

-- "The difference of the two times is taken modulo 4,294,967,296."
abbrev pub elapsed : ℕ → ℕ → ℕ
elapsed earlier later = (later + 4294967296 - earlier) % 4294967296

-- "less than the multi-click time after the one before"
unfoldable pub quick : ℕ → ℕ → ℕ → Bool
quick limit earlier later = ltb (elapsed earlier later) limit
