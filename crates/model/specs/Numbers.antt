-- Document 01, "Numbers handed back": the numbers, and for each operation the order of its checks.
use Rattle.std.specs.Prelude.{ℕ, Bool, true, false, cond, List, [], ◌∷◌, Option, None, Some}
use Rattle.model.specs.declared.answers.Compiled.{Compiled}
use Rattle.model.specs.declared.answers.Merged.{Merged}
use Rattle.model.specs.declared.answers.Written.{Written}
use Rattle.model.specs.declared.answers.Counted.{Counted}
use Rattle.model.specs.declared.answers.Located.{Located}
use Rattle.model.specs.declared.answers.RecordRead.{RecordRead}
use Rattle.model.specs.declared.answers.Matched.{Matched}
use Rattle.model.specs.declared.answers.Judged.{Judged}
use Rattle.model.specs.declared.events.Event.{Event}

-- ---- The numbers

-- 0: accepted
abbrev pub no_refusal : ℕ
no_refusal = 0

-- 1: a lent buffer is too short (keyboard map: not 496 numbers)
abbrev pub short_buffer : ℕ
short_buffer = 1

-- 2: text over 8,192 bytes
abbrev pub long_text : ℕ
long_text = 2

-- 3: a byte other than tab, newline, 32..126, 160..255
abbrev pub bad_byte : ℕ
bad_byte = 3

-- 4: line not in the grammar
abbrev pub not_grammar : ℕ
not_grammar = 4

-- 5: unknown modifier, event type or detail name; detail where none is taken
abbrev pub unknown_name : ℕ
unknown_name = 5

-- 6: count not one digit 1..9, count on other than key or button events, or a number out of range
abbrev pub bad_number : ℕ
bad_number = 6

-- 7: a written modifier list on an event type outside codes 2..8
abbrev pub list_not_taken : ℕ
list_not_taken = 7

-- 8: no 13-bit modifier state meets the event's test
abbrev pub impossible_test : ℕ
impossible_test = 8

-- 9: colon on a non-key event, or listed Shift, listed Lock or `<Shift>` beside a colon
abbrev pub misplaced_colon : ℕ
misplaced_colon = 9

-- 10: a form not built yet
abbrev pub not_built : ℕ
not_built = 10

-- 11: a limit passed
abbrev pub past_limit : ℕ
past_limit = 11

-- 12: table not whole: an entry outside its range, an unused word not 0, a span outside its text
abbrev pub table_not_whole : ℕ
table_not_whole = 12

-- 13: event not 32 bytes, code outside 2..34, a key event's keycode below 8, or byte order not `l` or `B`
abbrev pub bad_record : ℕ
bad_record = 13

-- 14: matcher state not whole
abbrev pub state_not_whole : ℕ
state_not_whole = 14

-- 15: the context would keep more than 24 events
abbrev pub context_full : ℕ
context_full = 15

-- 16: production, call or parameter asked for isn't there
abbrev pub not_there : ℕ
not_there = 16

-- 17: a table to merge is itself merged
abbrev pub already_merged : ℕ
already_merged = 17

-- R-1: "18 for a modifier map of another length or with an entry 1..7"
abbrev pub bad_modifier_map : ℕ
bad_modifier_map = 18

-- ---- The order of the checks (that of compiling, which goes by lines, is `compile_outcome` of Compiling)

pub record Check : Type 0 where
  pub applies : Bool
  pub number : ℕ

-- the number of the first check that applies, 0 where none does
abbrev pub first : List Check → ℕ
first [] = no_refusal
first (c ∷ cs) = cond c.applies c.number (first cs)

-- "event by event 5, 6, 10, 7, 9, 8"
abbrev pub event_order : (unknown range unbuilt list colon impossible : Bool) → ℕ
event_order unknown range unbuilt list colon impossible =
    first
    (record { applies = unknown; number = unknown_name }
    ∷ record { applies = range; number = bad_number }
    ∷ record { applies = unbuilt; number = not_built }
    ∷ record { applies = list; number = list_not_taken }
    ∷ record { applies = colon; number = misplaced_colon }
    ∷ record { applies = impossible; number = impossible_test }
    ∷ [])

-- what the matcher checks, in its order
pub record MatchChecks : Type 0 where
  -- 1
  pub short : Bool
  -- 18
  pub modifiers_bad : Bool
  -- 12
  pub table_broken : Bool
  -- 14
  pub state_broken : Bool
  -- 13
  pub record_bad : Bool
  -- 15
  pub full : Bool

-- "Matcher: 1, 12, 14, 13, 15."; R-1: "18 .. after 1"
abbrev pub match_order : MatchChecks → ℕ
match_order c =
    first
    (record { applies = c.short; number = short_buffer }
    ∷ record { applies = c.modifiers_bad; number = bad_modifier_map }
    ∷ record { applies = c.table_broken; number = table_not_whole }
    ∷ record { applies = c.state_broken; number = state_not_whole }
    ∷ record { applies = c.record_bad; number = bad_record }
    ∷ record { applies = c.full; number = context_full }
    ∷ [])

-- "Merger: 1, 12, 17, 11, the old table first at each."
abbrev pub merge_order : (short_old short_new short_output old_not_whole new_not_whole old_merged new_merged past : Bool) → ℕ
merge_order short_old short_new short_output old_not_whole new_not_whole old_merged new_merged past =
    first
    (record { applies = short_old; number = short_buffer }
    ∷ record { applies = short_new; number = short_buffer }
    ∷ record { applies = short_output; number = short_buffer }
    ∷ record { applies = old_not_whole; number = table_not_whole }
    ∷ record { applies = new_not_whole; number = table_not_whole }
    ∷ record { applies = old_merged; number = already_merged }
    ∷ record { applies = new_merged; number = already_merged }
    ∷ record { applies = past; number = past_limit }
    ∷ [])

-- "Writer: 1 for the table, 12, 1 for its output."
abbrev pub write_order : (short_table not_whole short_output : Bool) → ℕ
write_order short_table not_whole short_output =
    first
    (record { applies = short_table; number = short_buffer }
    ∷ record { applies = not_whole; number = table_not_whole }
    ∷ record { applies = short_output; number = short_buffer }
    ∷ [])

-- "Reading a name or parameter: 1 for the table, 12, 16."
abbrev pub read_order : (short_table not_whole absent : Bool) → ℕ
read_order short_table not_whole absent =
    first
    (record { applies = short_table; number = short_buffer }
    ∷ record { applies = not_whole; number = table_not_whole }
    ∷ record { applies = absent; number = not_there }
    ∷ [])

-- ---- The number and the values of each case of an answer

abbrev pub compiled_number : Compiled → ℕ
compiled_number Compiled.Accepted = no_refusal
compiled_number (Compiled.Refused n p) = n

-- "Only the compiler gives places."
abbrev pub compiled_place : Compiled → ℕ
compiled_place Compiled.Accepted = 0
compiled_place (Compiled.Refused n p) = p

abbrev pub merged_number : Merged → ℕ
merged_number Merged.Accepted = no_refusal
merged_number (Merged.Refused n) = n

abbrev pub written_number : Written → ℕ
written_number (Written.Accepted len) = no_refusal
written_number (Written.Refused n) = n

-- how many bytes were written
abbrev pub written_length : Written → ℕ
written_length (Written.Accepted len) = len
written_length (Written.Refused n) = 0

abbrev pub counted_number : Counted → ℕ
counted_number (Counted.Accepted k) = no_refusal
counted_number (Counted.Refused n) = n

abbrev pub counted_count : Counted → ℕ
counted_count (Counted.Accepted k) = k
counted_count (Counted.Refused n) = 0

abbrev pub located_number : Located → ℕ
located_number (Located.First start len) = no_refusal
located_number (Located.Second start len) = no_refusal
located_number (Located.Refused n) = n

-- "A refused request .. gives the empty part at the start of the first text."
abbrev pub located_in_second : Located → Bool
located_in_second (Located.First start len) = false
located_in_second (Located.Second start len) = true
located_in_second (Located.Refused n) = false

abbrev pub located_start : Located → ℕ
located_start (Located.First start len) = start
located_start (Located.Second start len) = start
located_start (Located.Refused n) = 0

abbrev pub located_length : Located → ℕ
located_length (Located.First start len) = len
located_length (Located.Second start len) = len
located_length (Located.Refused n) = 0

abbrev pub judged_number : Judged → ℕ
judged_number (Judged.Keep e) = no_refusal
judged_number Judged.Crowded = past_limit
judged_number (Judged.Refuse n) = n

abbrev pub record_number : RecordRead → ℕ
record_number (RecordRead.Event e) = no_refusal
record_number (RecordRead.Refused n) = n

-- "Reading a record answers an event or a refusal"
abbrev pub record_event : RecordRead → Option Event
record_event (RecordRead.Event e) = Some e
record_event (RecordRead.Refused n) = None

-- a dropped event is accepted: "none selected, state unchanged"
abbrev pub matched_number : Matched → ℕ
matched_number (Matched.Refused n) = n
matched_number Matched.Dropped = no_refusal
matched_number Matched.Heard = no_refusal
matched_number (Matched.Selected p) = no_refusal

abbrev pub matched_selection : Matched → Option ℕ
matched_selection (Matched.Refused n) = None
matched_selection Matched.Dropped = None
matched_selection Matched.Heard = None
matched_selection (Matched.Selected p) = Some p
