-- Document 01, "What is built": the limits.
use Rattle.std.specs.Prelude.{ℕ}

-- "Text: at most 8,192 bytes."
abbrev pub text_limit : ℕ
text_limit = 8192

-- "Productions: 64."
abbrev pub production_limit : ℕ
production_limit = 64

-- "Events in one production after expansion: 24"
abbrev pub sequence_limit : ℕ
sequence_limit = 24

-- "in all, 256."
abbrev pub event_limit : ℕ
event_limit = 256

-- "Calls: 8 a production"
abbrev pub calls_of_production_limit : ℕ
calls_of_production_limit = 8

-- "128 in all."
abbrev pub call_limit : ℕ
call_limit = 128

-- "Parameters: 8 a call"
abbrev pub parameters_of_call_limit : ℕ
parameters_of_call_limit = 8

-- "256 in all."
abbrev pub parameter_limit : ℕ
parameter_limit = 256

-- "Details. Keys: .. up to 0x1FFFFFFF"
abbrev pub keysym_limit : ℕ
keysym_limit = 0x1FFFFFFF

-- "The last three also take decimal 0..255"
abbrev pub small_detail_limit : ℕ
small_detail_limit = 255

-- "keyboard map: not 496 numbers"
abbrev pub map_length : ℕ
map_length = 496

-- "event not 32 bytes"
abbrev pub record_length : ℕ
record_length = 32

-- R-1: "eight rows of equal length, 1 to 8 keycodes"
abbrev pub modifier_rows : ℕ
modifier_rows = 8

abbrev pub row_limit : ℕ
row_limit = 8

-- R-1: "over four different keysyms in an event is 11"
abbrev pub keysyms_of_event_limit : ℕ
keysyms_of_event_limit = 4
