-- The matcher's state as 200 lent bytes: the marks `kept`, `selected` and `open` as words of 16 bits, a word of 0, then the
-- first 24 slots of events. The 25th slot, which no whole state uses, has no bytes.
use Rattle.std.specs.Prelude.{ℕ, Bool, cond, ◌&&◌, List, [], ◌∷◌, ◌++◌, eqb, leb, take, drop}
use Rattle.words.specs.Words.{word_bytes, word_at, zeros}
use Rattle.states.specs.declared.State.{State}

-- how many bytes a state has
abbrev pub state_length : ℕ
state_length = 200

-- how many of them the marks take, and how many the 24 slots
abbrev pub mark_length : ℕ
mark_length = 8

abbrev pub event_length : ℕ
event_length = 192

-- ---- From a state to bytes

-- the marks of a state as words
abbrev pub marks_of : State → List ℕ
marks_of s = s.kept ∷ s.selected ∷ cond s.«open» 1 0 ∷ 0 ∷ []

unfoldable pub store : State → List ℕ
store s = word_bytes (marks_of s) ++ take event_length s.events

-- ---- From bytes to a state

-- the third word is 0 or 1, and the fourth is 0
unfoldable pub marks_read : List ℕ → Bool
marks_read l = leb (word_at l 2) 1 && eqb (word_at l 3) 0

-- more events than are ever kept: a state that has them is not whole
abbrev pub too_many : ℕ
too_many = 25

-- the events of 24 slots, and a 25th of zero
unfoldable pub load_events : List ℕ → List ℕ
load_events l = take event_length (drop mark_length l) ++ zeros 8

-- any bytes load to a state, whole or not
unfoldable pub load : List ℕ → State
load l =
    record {
      kept = cond (marks_read l) (word_at l 0) too_many;
      selected = word_at l 1;
      «open» = eqb (word_at l 2) 1;
      events = load_events l;
    }
