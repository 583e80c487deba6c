-- The words of each section past those that the header gives.
use Rattle.std.specs.Prelude.{ℕ, Bool, ◌&&◌, List, [], ◌∷◌}
use Rattle.words.specs.Words.{word_at}
use Rattle.words.specs.Runs.{zero_in}
use Rattle.tables.specs.Layout.{production_events_at, production_calls_at, codes_at, counts_at, sets_at, clears_at, flags_at, lows_at, highs_at, first_lows_at, first_highs_at, second_lows_at, second_highs_at, third_lows_at, third_highs_at, fourth_lows_at, fourth_highs_at, marks_at, name_starts_at, name_lengths_at, call_parameters_at, parameter_starts_at, parameter_lengths_at}

-- the sections of productions, of events, of the four keysyms after `@`, of calls and of parameters

abbrev pub production_sections : List ℕ
production_sections = production_events_at ∷ production_calls_at ∷ []

abbrev pub event_sections : List ℕ
event_sections = codes_at ∷ counts_at ∷ sets_at ∷ clears_at ∷ flags_at ∷ lows_at ∷ highs_at ∷ []

abbrev pub keysym_sections : List ℕ
keysym_sections =
    first_lows_at ∷ first_highs_at ∷ second_lows_at ∷ second_highs_at ∷ third_lows_at ∷ third_highs_at ∷ fourth_lows_at ∷ fourth_highs_at ∷ []

abbrev pub call_sections : List ℕ
call_sections = marks_at ∷ name_starts_at ∷ name_lengths_at ∷ call_parameters_at ∷ []

abbrev pub parameter_sections : List ℕ
parameter_sections = parameter_starts_at ∷ parameter_lengths_at ∷ []

-- all but those of the keysyms, which the crate keysym_check tests
unfoldable pub unused_ok : List ℕ → Bool
unused_ok l =
    zero_in l production_sections (word_at l 4) 64
    && zero_in l event_sections (word_at l 5) 256
    && zero_in l call_sections (word_at l 6) 128
    && zero_in l parameter_sections (word_at l 7) 256
