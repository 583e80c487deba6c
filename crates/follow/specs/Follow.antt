-- How a stretch of events is walked along the elements of a production. walk's proofs/PassLaws shows that this comes to
-- model's `reads_as_prefix` and `is_whole_sequence`.
use Rattle.std.specs.Prelude.{ℕ, ◌≤◌, ◌<◌, ◌≡◌, Bool, true, cond, not, ◌&&◌, ◌||◌, List, [], ◌∷◌, eqb, leb, length, get_or, Option, Some}
use Rattle.model.specs.Setting.{Setting, first_keysym, second_keysym}
use Rattle.model.specs.Modifiers.{state_meets}
use Rattle.model.specs.Asked.{asked, test_met}
use Rattle.model.specs.Counts.{Element, element, quick}
use Rattle.model.specs.Matching.{detail_met, fits}
use Rattle.model.specs.declared.events.Event.{Event}
use Rattle.model.specs.declared.events.Detail.{Detail}
use Rattle.model.specs.declared.events.KeptEvent.{KeptEvent}
use Rattle.counts.specs.Elements.{element_count, element_code, is_timed}
use Rattle.keyboard.specs.Pairs.{pair_asked}
use Rattle.resolving.specs.Gathering.{MapsReady}
use Rattle.tables.specs.Reading.{event_entry}
use Rattle.tables.specs.Whole.{whole}
use Rattle.records.specs.Ranges.{EventRanges}
use Rattle.states.specs.State.{zero_event, slots_of}
use Rattle.follow.specs.declared.Followed.{Followed}

-- ---- One event

-- modifiers and detail
unfoldable pub event_meets : Setting → KeptEvent → Event → Bool
event_meets setting e x = test_met (asked setting e) x.state && detail_met setting e e.detail x

-- the same of a given detail, by the numbers that a table holds
unfoldable pub detail_asked : List ℕ → (set clear : ℕ) (colon : Bool) (value : ℕ) → Event → Bool
detail_asked map set clear colon value x =
    cond (leb x.code 3)
    (pair_asked set clear colon (first_keysym map x.detail) (second_keysym map x.detail) x.state value)
    (eqb x.detail value)

-- the same of any detail
abbrev pub asked_met : List ℕ → (set clear : ℕ) → KeptEvent → Detail → Event → Bool
asked_met map set clear e Detail.Unspecified x = true
asked_met map set clear e (Detail.Value value) x = detail_asked map set clear e.colon value x

-- an event's clause and detail, and these bits in place of its own
unfoldable pub bits_meet : List ℕ → (set clear : ℕ) → KeptEvent → Event → Bool
bits_meet map set clear e x = state_meets set clear e.clause x.state && asked_met map set clear e e.detail x

-- element k of an event
unfoldable pub element_of : KeptEvent → ℕ → Element
element_of e k = element (element_code e.code e.count k) (is_timed e.code e.count k) e

-- the element fits an event, where `before` is the time of the event two before it in the stretch
unfoldable pub fits_after : Setting → ℕ → Element → Event → Bool
fits_after setting before el x =
    eqb el.code x.code && event_meets setting el.event x && (not el.timed || quick setting.time before x.time)

-- ---- One production

-- what the walk comes to; the events two and one before the stretch are given
unfoldable pub walked : Setting → Option Event → Option Event → List Element → List Event → Followed
walked setting twoBefore oneBefore [] [] = Followed.Whole
walked setting twoBefore oneBefore (el ∷ els) [] = Followed.Prefix
walked setting twoBefore oneBefore [] (x ∷ xs) = Followed.No
walked setting twoBefore oneBefore (el ∷ els) (x ∷ xs) =
    cond (fits setting twoBefore el x) (walked setting oneBefore (Some x) els xs) Followed.No

-- how many elements event i has
unfoldable pub size_in : List ℕ → ℕ → ℕ
size_in l i = element_count (event_entry l i).code (event_entry l i).count

-- what the walk may rely on: a whole table, maps that are not refused, and events as they are read, in the slots that these
-- bytes are
pub record WalkReady (l maps bytes : List ℕ) (to : ℕ) : Type 0 where
  pub is_whole : whole l ≡ true
  pub mapped : MapsReady maps
  pub long : length bytes ≡ 200
  pub room : to ≤ 25
  pub ranges : (j : ℕ) → j < to → EventRanges (get_or (slots_of bytes) j zero_event)
