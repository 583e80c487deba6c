-- The tests of the keysyms after `@`, as the code makes them.
use Rattle.std.specs.Prelude.{ℕ, Bool, ◌&&◌, List, [], ◌∷◌}
use Rattle.words.specs.Runs.{every, zero_in}
use Rattle.tables.specs.Layout.{first_lows_at, second_lows_at, third_lows_at, fourth_lows_at}
use Rattle.tables.specs.Reading.{keysyms_entry}
use Rattle.tables.specs.Fitting.{keysyms_in_range}
use Rattle.header_check.specs.Unused.{keysym_sections}

-- no event has one: all words of the eight sections are 0, of which the lower and the upper words of each of the four stand one
-- after the other
unfoldable pub no_keysym : List ℕ → Bool
no_keysym l = zero_in l (first_lows_at ∷ second_lows_at ∷ third_lows_at ∷ fourth_lows_at ∷ []) 0 512

unfoldable pub keysyms_ok : List ℕ → ℕ → Bool
keysyms_ok l i = keysyms_in_range (keysyms_entry l i)

-- those of n events are in range, and the words beyond them are 0
unfoldable pub slots_ok : List ℕ → ℕ → Bool
slots_ok l n = every (keysyms_ok l) 0 n && zero_in l keysym_sections n 256
