-- What bytes hold, read as a table: entries by their place, and the table.
use Rattle.std.specs.Prelude.{ℕ, ◌+◌, ◌*◌, ◌/◌, ◌%◌, Bool, cond, List, eqb}
use Rattle.words.specs.Words.{word_at}
use Rattle.words.specs.Runs.{run, total}
use Rattle.model.specs.Tables.{Call, Production, Table}
use Rattle.model.specs.declared.scan.Span.{Span}
use Rattle.model.specs.declared.events.Detail.{Detail}
use Rattle.model.specs.declared.events.Keysyms.{Keysyms}
use Rattle.model.specs.declared.events.KeptEvent.{KeptEvent}
use Rattle.model.specs.declared.events.Directive.{Directive}
use Rattle.tables.specs.Layout.{production_events_at, production_calls_at, codes_at, counts_at, sets_at, clears_at, flags_at, lows_at, highs_at, first_lows_at, first_highs_at, second_lows_at, second_highs_at, third_lows_at, third_highs_at, fourth_lows_at, fourth_highs_at, marks_at, name_starts_at, name_lengths_at, call_parameters_at, parameter_starts_at, parameter_lengths_at}

-- ---- The header

abbrev pub directive_from_word : ℕ → Directive
directive_from_word w = cond (eqb w 1) Directive.Override (cond (eqb w 2) Directive.Augment Directive.Replace)

unfoldable pub directive_in : List ℕ → Directive
directive_in l = directive_from_word (word_at l 0)

unfoldable pub merged_in : List ℕ → Bool
merged_in l = eqb (word_at l 1) 1

unfoldable pub first_length_in : List ℕ → ℕ
first_length_in l = word_at l 2

unfoldable pub second_length_in : List ℕ → ℕ
second_length_in l = word_at l 3

unfoldable pub production_total : List ℕ → ℕ
production_total l = word_at l 4

unfoldable pub event_total : List ℕ → ℕ
event_total l = word_at l 5

unfoldable pub call_total : List ℕ → ℕ
call_total l = word_at l 6

unfoldable pub parameter_total : List ℕ → ℕ
parameter_total l = word_at l 7

-- ---- Parameters

unfoldable pub parameter_entry : List ℕ → ℕ → Span
parameter_entry l i = record { start = word_at l (parameter_starts_at + i); len = word_at l (parameter_lengths_at + i) }

-- ---- Calls

unfoldable pub mark_entry : List ℕ → ℕ → Bool
mark_entry l i = eqb (word_at l (marks_at + i)) 1

unfoldable pub name_entry : List ℕ → ℕ → Span
name_entry l i = record { start = word_at l (name_starts_at + i); len = word_at l (name_lengths_at + i) }

-- how many parameters call i has
unfoldable pub call_parameters : List ℕ → ℕ → ℕ
call_parameters l i = word_at l (call_parameters_at + i)

-- the place of its first parameter among all
unfoldable pub first_parameter : List ℕ → ℕ → ℕ
first_parameter l i = total (word_at l) call_parameters_at i

unfoldable pub call_entry : List ℕ → ℕ → Call
call_entry l i =
    record { second = mark_entry l i; name = name_entry l i; parameters = run (parameter_entry l) (first_parameter l i) (call_parameters l i) }

-- ---- Events

abbrev pub is_flag : ℕ → ℕ → Bool
is_flag value flags = eqb (flags / value % 2) 1

abbrev pub detail_from_word : Bool → ℕ → Detail
detail_from_word given value = cond given (Detail.Value value) Detail.Unspecified

-- the keysyms after `@`, each of two words
unfoldable pub keysyms_entry : List ℕ → ℕ → Keysyms
keysyms_entry l i =
    record {
      first = word_at l (first_lows_at + i) + 65536 * word_at l (first_highs_at + i);
      second = word_at l (second_lows_at + i) + 65536 * word_at l (second_highs_at + i);
      third = word_at l (third_lows_at + i) + 65536 * word_at l (third_highs_at + i);
      fourth = word_at l (fourth_lows_at + i) + 65536 * word_at l (fourth_highs_at + i);
    }

-- an event from its words
unfoldable pub event_from_words : (code count set clear flags low high : ℕ) → Keysyms → KeptEvent
event_from_words code count set clear flags low high keysyms =
    record {
      code = code % 256;
      set = set;
      clear = clear;
      colon = is_flag 1 flags;
      clause = is_flag 2 flags;
      detail = detail_from_word (is_flag 4 flags) (low + 65536 * high);
      count = count % 256;
      bang = is_flag 8 flags;
      names = flags / 256 % 256;
      keysyms = keysyms;
    }

unfoldable pub event_entry : List ℕ → ℕ → KeptEvent
event_entry l i =
    event_from_words
    (word_at l (codes_at + i))
    (word_at l (counts_at + i))
    (word_at l (sets_at + i))
    (word_at l (clears_at + i))
    (word_at l (flags_at + i))
    (word_at l (lows_at + i))
    (word_at l (highs_at + i))
    (keysyms_entry l i)

-- ---- Productions

-- how many events and calls production p has
unfoldable pub production_events : List ℕ → ℕ → ℕ
production_events l p = word_at l (production_events_at + p)

unfoldable pub production_calls : List ℕ → ℕ → ℕ
production_calls l p = word_at l (production_calls_at + p)

-- the places of its first event and its first call among all
unfoldable pub first_event : List ℕ → ℕ → ℕ
first_event l p = total (word_at l) production_events_at p

unfoldable pub first_call : List ℕ → ℕ → ℕ
first_call l p = total (word_at l) production_calls_at p

unfoldable pub production_entry : List ℕ → ℕ → Production
production_entry l p =
    record {
      events = run (event_entry l) (first_event l p) (production_events l p);
      calls = run (call_entry l) (first_call l p) (production_calls l p);
    }

-- ---- The table

unfoldable pub decode : List ℕ → Table
decode l =
    record {
      directive = directive_in l;
      merged = merged_in l;
      first_length = first_length_in l;
      second_length = second_length_in l;
      productions = run (production_entry l) 0 (production_total l);
    }
