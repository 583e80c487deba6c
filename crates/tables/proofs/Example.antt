-- The sections of the table that specs/Layout shows.
use mathlib.Core.Path.{◌≡◌, refl}
use mathlib.Core.List.{[], ◌∷◌}
use mathlib.Core.Bool.{false}
use Rattle.model.specs.Tables.{Table}
use Rattle.model.specs.Named.{no_keysyms}
use Rattle.model.specs.declared.events.Detail.{Detail}
use Rattle.model.specs.declared.events.Directive.{Directive}
use Rattle.model.specs.declared.events.KeptEvent.{KeptEvent}
use Rattle.tables.specs.Layout.{flat, columns, header_of, entries_of, sections_of}

-- Ctrl<Key>a
abbrev control_a : KeptEvent
control_a = record { code = 2; set = 4; clear = 0; colon = false; clause = false; detail = Detail.Value 97; count = 1; bang = false; names = 0; keysyms = no_keysyms }

-- <Btn1Down>
abbrev first_button : KeptEvent
first_button = record { code = 4; set = 0; clear = 0; colon = false; clause = false; detail = Detail.Value 1; count = 1; bang = false; names = 0; keysyms = no_keysyms }

-- of a text of 32 bytes, with f, x and g at 12, 14 and 29
abbrev two_lines : Table
two_lines =
    record {
      directive = Directive.Replace;
      merged = false;
      first_length = 32;
      second_length = 0;
      productions =
          record {
            events = control_a ∷ [];
            calls =
                record {
                  second = false;
                  name = record { start = 12; len = 1 };
                  parameters = record { start = 14; len = 1 } ∷ [];
                }
                ∷ [];
          }
          ∷ record {
            events = first_button ∷ [];
            calls = record { second = false; name = record { start = 29; len = 1 }; parameters = [] } ∷ [];
          }
          ∷ [];
    }

pub shown_sections : sections_of (entries_of two_lines)
    ≡ ((0 ∷ 0 ∷ 32 ∷ 0 ∷ 2 ∷ 2 ∷ 2 ∷ 1 ∷ [])
    ∷ (1 ∷ 1 ∷ [])
    ∷ (1 ∷ 1 ∷ [])
    ∷ (2 ∷ 4 ∷ [])
    ∷ (1 ∷ 1 ∷ [])
    ∷ (4 ∷ 0 ∷ [])
    ∷ (0 ∷ 0 ∷ [])
    ∷ (4 ∷ 4 ∷ [])
    ∷ (97 ∷ 1 ∷ [])
    ∷ (0 ∷ 0 ∷ [])
    ∷ (0 ∷ 0 ∷ [])
    ∷ (0 ∷ 0 ∷ [])
    ∷ (0 ∷ 0 ∷ [])
    ∷ (0 ∷ 0 ∷ [])
    ∷ (0 ∷ 0 ∷ [])
    ∷ (0 ∷ 0 ∷ [])
    ∷ (0 ∷ 0 ∷ [])
    ∷ (0 ∷ 0 ∷ [])
    ∷ (0 ∷ 0 ∷ [])
    ∷ (12 ∷ 29 ∷ [])
    ∷ (1 ∷ 1 ∷ [])
    ∷ (1 ∷ 0 ∷ [])
    ∷ (14 ∷ [])
    ∷ (1 ∷ [])
    ∷ [])
unfolding sections_of entries_of header_of flat columns
shown_sections = refl
