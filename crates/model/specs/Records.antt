-- Document 01, "Event bytes": from a 32-byte record to an event or a refusal.
use Rattle.std.specs.Prelude.{ℕ, ◌+◌, ◌*◌, ◌%◌, Bool, cond, not, ◌&&◌, ◌||◌, List, eqb, ltb, length}
use Prim.Native.Char.{code}
use Rattle.model.specs.Limits.{record_length}
use Rattle.model.specs.Numbers.{bad_record}
use Rattle.model.specs.Bytes.{is_code, in_range, byte_at}
use Rattle.model.specs.Codes.{is_key, is_event_code, mapping_notify}
use Rattle.model.specs.declared.events.Event.{Event}
use Rattle.model.specs.declared.answers.RecordRead.{RecordRead}

-- "Code is byte 0 without its top bit."
abbrev pub code_of : List ℕ → ℕ
code_of bytes = byte_at bytes 0 % 128

abbrev pub is_little : ℕ → Bool
is_little order = is_code order "l"

abbrev pub is_big : ℕ → Bool
is_big order = is_code order "B"

-- the number that two, or four, bytes hold in a byte order
abbrev pub two_bytes : ℕ → ℕ → ℕ → ℕ
two_bytes order a b = cond (is_little order) (a + 256 * b) (b + 256 * a)

abbrev pub four_bytes : ℕ → ℕ → ℕ → ℕ → ℕ → ℕ
four_bytes order a b c d =
    cond (is_little order) (a + 256 * b + 65536 * c + 16777216 * d) (d + 256 * c + 65536 * b + 16777216 * a)

-- "time 4..7"
unfoldable pub time_of : List ℕ → ℕ → ℕ
time_of bytes order = four_bytes order (byte_at bytes 4) (byte_at bytes 5) (byte_at bytes 6) (byte_at bytes 7)

-- "state 28..29"; "State bits 13..15 are ignored."
unfoldable pub state_of : List ℕ → ℕ → ℕ
state_of bytes order = two_bytes order (byte_at bytes 28) (byte_at bytes 29) % 8192

abbrev pub event_with : ℕ → ℕ → ℕ → ℕ → Event
event_with code detail time state = record { code = code; detail = detail; time = time; state = state }

-- the event that a record of a good code holds: "Fields not named for a type are 0."
unfoldable pub event_of : List ℕ → ℕ → ℕ → Event
event_of bytes order code =
    -- "Key, button and motion: detail byte 1, time 4..7, state 28..29."
    cond (in_range 2 code 6) (event_with code (byte_at bytes 1) (time_of bytes order) (state_of bytes order))
    -- "Enter and leave: time and state there too, the detail is the mode at 30."
    (cond (in_range 7 code 8) (event_with code (byte_at bytes 30) (time_of bytes order) (state_of bytes order))
    -- "Focus: the mode at 8."
    (cond (in_range 9 code 10) (event_with code (byte_at bytes 8) 0 0)
    -- "Mapping: the request at 4."
    (cond (eqb code mapping_notify) (event_with code (byte_at bytes 4) 0 0)
    (event_with code 0 0 0))))

abbrev pub bad_order : ℕ → Bool
bad_order order = not (is_little order || is_big order)

abbrev pub bad_keycode : List ℕ → Bool
bad_keycode bytes = is_key (code_of bytes) && ltb (byte_at bytes 1) 8

-- number 13: "event not 32 bytes, code outside 2..34, a key event's keycode below 8, or byte order not `l` or `B`"
unfoldable pub is_bad_record : List ℕ → ℕ → Bool
is_bad_record bytes order =
    not (eqb (length bytes) record_length) || bad_order order || not (is_event_code (code_of bytes)) || bad_keycode bytes

-- "Reading a record answers an event or a refusal"
unfoldable pub record_read : List ℕ → ℕ → RecordRead
record_read bytes order =
    cond (is_bad_record bytes order) (RecordRead.Refused bad_record) (RecordRead.Event (event_of bytes order (code_of bytes)))
