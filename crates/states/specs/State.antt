-- The matcher's state: which values of the type are whole, and what a whole one stands for.
use Rattle.std.specs.Prelude.{ℕ, ◌+◌, ◌*◌, ◌-◌, ◌/◌, ◌%◌, Bool, false, not, ◌&&◌, ◌||◌, List, [], ◌∷◌, ◌++◌, eqb, leb, ltb, length, get_or, take, drop}
use Rattle.std.proofs.lemmas.List.Edits.{sets}
use Rattle.words.specs.Words.{zeros}
use Rattle.words.specs.Runs.{run, every}
use Rattle.keyboard.specs.Maps.{number_from}
use Rattle.model.specs.Limits.{text_limit, production_limit, sequence_limit, event_limit, calls_of_production_limit, call_limit, parameters_of_call_limit, parameter_limit}
use Rattle.model.specs.Codes.{is_motion}
use Rattle.model.specs.declared.events.Event.{Event}
use Rattle.machine.specs.Kept.{Kept, context_limit}
use Rattle.states.specs.declared.State.{State}

-- ---- Events in bytes

-- what an unused slot holds
abbrev pub zero_event : Event
zero_event = record { code = 0; detail = 0; time = 0; state = 0 }

-- one slot more than a context keeps, so that one event more always has room
abbrev pub slots : ℕ
slots = 25

-- how many bytes they have: 8 each
abbrev pub slot_bytes : ℕ
slot_bytes = 200

-- the bytes of an event: code, detail, state and time, of each number the least significant byte first. The last byte of a
-- number is all that is left of it, so that no event loses anything.
unfoldable pub event_bytes : Event → List ℕ
event_bytes x =
    x.code ∷ x.detail ∷ x.state % 256 ∷ x.state / 256
    ∷ x.time % 256 ∷ x.time / 256 % 256 ∷ x.time / 65536 % 256 ∷ x.time / 16777216 ∷ []

-- the event that bytes begin with
unfoldable pub event_from : List ℕ → Event
event_from l =
    record { code = get_or l 0 0; detail = get_or l 1 0; time = number_from l 4; state = get_or l 2 0 + 256 * get_or l 3 0 }

-- the event in slot i
unfoldable pub event_in : List ℕ → ℕ → Event
event_in l i = event_from (drop (8 * i) l)

-- the events that the bytes hold, one for each slot
unfoldable pub slots_of : List ℕ → List Event
slots_of l = run (event_in l) 0 slots

-- the bytes with an event stored in slot i
unfoldable pub put_slot : List ℕ → ℕ → Event → List ℕ
put_slot l i x = sets l (8 * i) (event_bytes x)

-- the bytes of events, one after the other
unfoldable pub events_bytes : List Event → List ℕ
events_bytes [] = []
events_bytes (x ∷ xs) = event_bytes x ++ events_bytes xs

-- the bytes with these events in the first slots and zero in the others
unfoldable pub in_slots : List Event → List ℕ
in_slots xs = events_bytes xs ++ zeros (slot_bytes - 8 * length xs)

-- ---- What a state stands for

unfoldable pub kept_of : State → Kept Event
kept_of s = record { events = take s.kept (slots_of s.events); selected = s.selected; is_open = s.«open» }

-- the state that holds these events and marks
unfoldable pub state_with : List Event → (selected : ℕ) → (is_open : Bool) → State
state_with xs selected is_open = record { kept = length xs; selected = selected; «open» = is_open; events = in_slots xs }

unfoldable pub state_keeping : Kept Event → State
state_keeping k = state_with k.events k.selected k.is_open

-- "A fresh state holds no events": all zero
abbrev pub fresh_state : State
fresh_state = state_with [] 0 false

-- "has the table limits as its own constants": these, in 01's order, and how many events a context keeps
abbrev pub state_limits : List ℕ
state_limits =
    text_limit ∷ production_limit ∷ sequence_limit ∷ event_limit ∷ calls_of_production_limit ∷ call_limit
    ∷ parameters_of_call_limit ∷ parameter_limit ∷ context_limit ∷ []

-- ---- Document 01, number 14: "matcher state not whole"

-- an event as a record is read to it: code 2..34, state of 13 bits, a key's keycode from 8 on
unfoldable pub event_whole : Event → Bool
event_whole e = leb 2 e.code && leb e.code 34 && ltb e.state 8192 && (ltb 3 e.code || leb 8 e.detail)

-- the lower bytes of the numbers in slot i are below 256, as every byte is in a value of the type
unfoldable pub low_bytes : List ℕ → ℕ → Bool
low_bytes l i =
    ltb (get_or l (8 * i + 2) 0) 256 && ltb (get_or l (8 * i + 4) 0) 256
    && ltb (get_or l (8 * i + 5) 0) 256 && ltb (get_or l (8 * i + 6) 0) 256

unfoldable pub used_whole : List ℕ → ℕ → Bool
used_whole l i = event_whole (event_in l i)

unfoldable pub byte_zero : List ℕ → ℕ → Bool
byte_zero l k = eqb (get_or l k 0) 0

-- the first slots hold the events that are kept, and every byte after them is zero
unfoldable pub slots_whole : List ℕ → ℕ → Bool
slots_whole l kept =
    every (low_bytes l) 0 kept && every (used_whole l) 0 kept && every (byte_zero l) (8 * kept) (slot_bytes - 8 * kept)

-- an open context has an event; where none is open nothing is used up
unfoldable pub marks_whole : (kept selected : ℕ) (is_open : Bool) → Bool
marks_whole kept selected is_open =
    leb kept context_limit && leb selected kept && ((is_open && not (eqb kept 0)) || (not is_open && eqb selected 0))

-- with no context open events are kept for a motion that replaces the last of them, which is then a motion (R-2)
unfoldable pub last_whole : List ℕ → (kept : ℕ) (is_open : Bool) → Bool
last_whole l kept is_open = is_open || eqb kept 0 || is_motion (event_in l (kept - 1)).code

-- at most 24 events, the marks within them, every slot as it must be. Every value of the type has 200 bytes. A test of ranges:
-- states that no call leaves pass it too, such as one whose context reads as a prefix of no production.
unfoldable pub whole_state : State → Bool
whole_state s =
    eqb (length s.events) slot_bytes
    && marks_whole s.kept s.selected s.«open»
    && slots_whole s.events s.kept
    && last_whole s.events s.kept s.«open»
