-- A bounded matcher: of the history it keeps the events of the open context, and how many of them are used up; where no context
-- is open, the events at which a motion in the place of the last one might still open one. proofs/Demand shows that it meets
-- demand 3, which speaks of the whole history.
--
-- The first example of model's Selection, table P of document 01, `<Btn1Down>,<Btn1Up>:toves()` and `<Btn1Up>:did()`:
--
--     event         kept events   used up   open   selected
--     fresh         none          0         no
--     1 press 1     1             0         yes    none
--     2 release 2   none          0         no     none: neither 1 2 nor its longest end 2 reads as a prefix
--     3 release 1   3             1         yes    did()
--     4 press 1     4             0         yes    none: 3 4 reads as no prefix, its end 4 does
--     5 release 1   4 5           2         yes    toves()
--     6 release 1   6             1         yes    did(): 4 5 6 reads as no prefix, and 4 and 5 are used up
--
-- And what is kept where no context is open, on `<BtnDown>,<BtnDown>,<BtnDown>:x()` and `<BtnDown>,<Btn1Motion>,<BtnUp>:y()`; an
-- idle motion has no button down, a drag has Button1 down:
--
--     1 press       1             0         yes    none
--     2 press       1 2           0         yes    none
--     3 idle        2 3           0         no     none: neither 1 2 3 nor 2 3 nor 3 reads as a prefix, and 1 is used up
--     4 drag        2 4           0         yes    none: 4 takes the place of 3, and 2 4 reads as a prefix
--     5 release     2 4 5         3         yes    y()
--
-- Those used up lie at or before the last selection.
use Rattle.std.specs.Prelude.{ℕ, max, ◌≤◌, ◌<◌, ◌≡◌, Bool, true, false, cond, not, ◌&&◌, List, [], ◌∷◌, ◌++◌, eqb, ltb, length, drop, Option, None, Some}
use Rattle.model.specs.Numbers.{match_order}
use Rattle.model.specs.Tables.{Table}
use Rattle.model.specs.Records.{record_read}
use Rattle.model.specs.Setting.{Setting}
use Rattle.model.specs.Selection.{Reading, ends_in, without_last, falls_back}
use Rattle.model.specs.Matching.{reading_of}
use Rattle.model.specs.Demand.{MatchCall, Matcher, call_checks, selection}
use Rattle.model.specs.declared.events.Event.{Event}
use Rattle.model.specs.declared.answers.RecordRead.{RecordRead}
use Rattle.model.specs.declared.answers.Matched.{Matched}

-- ---- The state

pub record Kept (E : Type 0) : Type 0 where
  -- the events of the open context; where none is open, those after the latest start and the last selection that may still matter
  pub events : List E
  -- how many of them lie at or before the last event at which anything was selected
  pub selected : ℕ
  -- a context is open
  pub is_open : Bool

-- "A fresh state holds no events"
abbrev pub fresh : {E : Type 0} → Kept E
fresh = record { events = []; selected = 0; is_open = false }

-- "the context would keep more than 24 events"
abbrev pub context_limit : ℕ
context_limit = 24

-- a state as calls leave it (proofs/Bounded), where `motion` tells motion events
pub record Bounded {E : Type 0} (motion : E → Bool) (k : Kept E) : Type 0 where
  pub few : length k.events ≤ context_limit
  pub within : k.selected ≤ length k.events
  pub opened : k.is_open ≡ true → 0 < length k.events
  pub shut : k.is_open ≡ false → k.selected ≡ 0
  -- with no context open events are kept for a motion that replaces the last of them
  pub replaceable : k.is_open ≡ false → 0 < length k.events → ends_in motion k.events ≡ true

-- ---- One event that is heard

module _ {E : Type 0} (R : Reading E) where
  -- without the last event, which is replaced: a mark at it falls back by one, and a context opened at it is closed
  abbrev pub shortened : Kept E → Kept E
  shortened k =
      record {
        events = without_last k.events;
        selected = falls_back (length k.events) k.selected;
        is_open = k.is_open && not (eqb (length k.events) 1);
      }

  -- what is left when the event takes its place. Where no context is open and nothing is replaced, no start before the event
  -- can matter: a stretch that reads as no prefix does not read as one when it goes on.
  unfoldable pub left : Kept E → E → Kept E
  left k x =
      cond (R.motion x && ends_in R.motion k.events) (shortened k)
      (cond k.is_open k fresh)

  -- the longest end of a stretch that reads as a prefix of some production, the empty one where none does
  unfoldable pub longest_end : List E → List E
  longest_end [] = []
  longest_end (x ∷ xs) = cond (R.prefix (x ∷ xs)) (x ∷ xs) (longest_end xs)

  -- what is left, with the event
  abbrev pub grown : Kept E → E → List E
  grown k x = k.events ++ (x ∷ [])

  -- how many of its first events no new start may take: "after both s (the latest start there was ..) and the last event at
  -- which anything was selected"; where no context is open, all of them lie after both
  abbrev pub used_up : Kept E → ℕ
  used_up k = cond k.is_open (max 1 k.selected) 0

  abbrev pub unused : Kept E → E → List E
  unused k x = drop (used_up k) (grown k x)

  -- the context opens anew at the longest end, or none is open
  abbrev pub reopened : (moves : Bool) → (rest end : List E) → Kept E
  reopened moves rest [] = record { events = cond moves rest []; selected = 0; is_open = false }
  reopened moves rest (y ∷ ys) = record { events = y ∷ ys; selected = 0; is_open = true }

  -- rule 3, where k is left: the context goes on, or moves on to the new start, or closes
  unfoldable pub moved : Kept E → E → Kept E
  moved k x =
      cond (k.is_open && R.prefix (grown k x))
      (record { events = grown k x; selected = k.selected; is_open = true })
      (reopened (R.motion x) (unused k x) (longest_end (unused k x)))

  -- rule 4: nothing is selected where no context is open
  abbrev pub chosen_in : Kept E → Option ℕ
  chosen_in k = cond k.is_open (R.chosen k.events) None

  unfoldable pub choice : Kept E → E → Option ℕ
  choice k x = chosen_in (moved (left k x) x)

  -- at a selection every event of the context is used up
  abbrev pub marked : Kept E → Option ℕ → Kept E
  marked k None = k
  marked k (Some p) = record { events = k.events; selected = length k.events; is_open = k.is_open }

  -- what is kept after an event that is heard
  unfoldable pub kept : Kept E → E → Kept E
  kept k x = marked (moved (left k x) x) (choice k x)

  -- and after several
  unfoldable pub kept_all : Kept E → List E → Kept E
  kept_all k [] = k
  kept_all k (x ∷ xs) = kept_all (kept k x) xs

-- ---- One call

pub record Step : Type 0 where
  pub answer : Matched
  pub next : Kept Event

module _ (t : Table) (setting : Setting) where
  -- number 15, judged on the context as it would be after rule 3; a dropped event leaves it as it is
  abbrev pub keeps_too_many : Kept Event → Bool
  keeps_too_many k = k.is_open && ltb context_limit (length k.events)

  abbrev pub passes_context : Kept Event → RecordRead → Bool
  passes_context k (RecordRead.Event x) =
      (reading_of t setting).known x && keeps_too_many (moved (reading_of t setting) (left (reading_of t setting) k x) x)
  passes_context k (RecordRead.Refused n) = false

  -- the number that refuses a call, 0 where none does: "Matcher: 1, 12, 14, 13, 15.", R-1: "18 .. after 1"; of these 12 and 14
  -- are about bytes
  unfoldable pub step_number : Kept Event → MatchCall → ℕ
  step_number k c =
      match_order (call_checks setting c (passes_context k (record_read c.bytes c.order)))

  -- "A refused matcher call keeps the state and selects none."
  abbrev pub refuse : ℕ → Kept Event → Step
  refuse n k = record { answer = Matched.Refused n; next = k }

  -- "dropped: none selected, state unchanged"
  abbrev pub drop_event : Kept Event → Step
  drop_event k = record { answer = Matched.Dropped; next = k }

  abbrev pub hear : Kept Event → Event → Step
  hear k x =
      record { answer = selection t setting (choice (reading_of t setting) k x); next = kept (reading_of t setting) k x }

  -- "the matcher acts on the first and hands the second on"
  abbrev pub act : Kept Event → RecordRead → Step
  act k (RecordRead.Event x) = cond ((reading_of t setting).known x) (hear k x) (drop_event k)
  act k (RecordRead.Refused n) = refuse n k

  unfoldable pub stepped : Kept Event → MatchCall → Step
  stepped k c =
      cond (eqb (step_number k c) 0) (act k (record_read c.bytes c.order)) (refuse (step_number k c) k)

-- the matcher that demand 3 is shown of
abbrev pub kept_matcher : Table → Setting → Matcher (Kept Event)
kept_matcher t setting =
    record { fresh = fresh; answer = λ k c. (stepped t setting k c).answer; next = λ k c. (stepped t setting k c).next }
