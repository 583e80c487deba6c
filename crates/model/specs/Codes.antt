-- The protocol's event codes, 2..34, in the groups that document 01 makes of them.
use Rattle.std.specs.Prelude.{ℕ, Bool, ◌||◌, eqb}
use Rattle.model.specs.Bytes.{in_range}

abbrev pub key_press : ℕ
key_press = 2

abbrev pub key_release : ℕ
key_release = 3

abbrev pub button_press : ℕ
button_press = 4

abbrev pub button_release : ℕ
button_release = 5

abbrev pub motion_notify : ℕ
motion_notify = 6

abbrev pub is_motion : ℕ → Bool
is_motion code = eqb code motion_notify

abbrev pub is_key : ℕ → Bool
is_key code = in_range key_press code key_release

abbrev pub is_button : ℕ → Bool
is_button code = in_range button_press code button_release

-- "count on other than key or button events"
abbrev pub takes_count : ℕ → Bool
takes_count code = in_range key_press code button_release

-- "an event type outside codes 2..8"
abbrev pub takes_modifiers : ℕ → Bool
takes_modifiers code = in_range key_press code 8

-- enter, leave, focus
abbrev pub has_mode : ℕ → Bool
has_mode code = in_range 7 code 10

abbrev pub mapping_notify : ℕ
mapping_notify = 34

-- "atom details": PropertyNotify, SelectionClear, SelectionRequest, SelectionNotify, ClientMessage
abbrev pub has_atom : ℕ → Bool
has_atom code = in_range 28 code 31 || eqb code 33

-- "code outside 2..34"
abbrev pub is_event_code : ℕ → Bool
is_event_code code = in_range key_press code mapping_notify
