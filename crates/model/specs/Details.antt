-- Document 01, "The text", "Details": what a written detail stands for.
use Rattle.std.specs.Prelude.{ℕ, ◌+◌, ◌-◌, ◌*◌, Bool, cond, not, ◌&&◌, ◌||◌, List, [], ◌∷◌, ◌++◌, eqb, ltb, length, drop, Option, None, Some}
use Rattle.model.specs.Limits.{keysym_limit, small_detail_limit}
use Rattle.model.specs.Numbers.{no_refusal, unknown_name, bad_number, not_built}
use Rattle.model.specs.Bytes.{is_code, in_range, byte_at, is_digit}
use Rattle.model.specs.Codes.{is_key, is_button, motion_notify, has_mode, mapping_notify, has_atom}
use Rattle.model.specs.Names.{Entry, first_meaning, value}
use Rattle.model.specs.Latin1.{latin1_entries}
use Rattle.model.specs.declared.names.DetailRead.{DetailRead}

-- ---- The number of each case

-- 5 for a name that is unknown, a malformed number, a detail where none is taken; 6 for a number out of range; 10 for an atom
abbrev pub detail_number : DetailRead → ℕ
detail_number (DetailRead.Value v) = no_refusal
detail_number DetailRead.Unknown = unknown_name
detail_number DetailRead.TooLarge = bad_number
detail_number DetailRead.NotBuilt = not_built

-- ---- Numbers

-- a digit's value, 16 for any other byte
unfoldable pub digit_value : ℕ → ℕ
digit_value b =
    cond (in_range 48 b 57) (b - 48)
    (cond (in_range 97 b 102) (b - 87)
    (cond (in_range 65 b 70) (b - 55) 16))

-- the value of digits in a base, `sofar` read before them; none where a byte is no digit of the base
unfoldable pub digits_from : ℕ → ℕ → List ℕ → Option ℕ
digits_from base sofar [] = Some sofar
digits_from base sofar (b ∷ bs) =
    cond (ltb (digit_value b) base) (digits_from base (sofar * base + digit_value b) bs) None

-- "A malformed number is 5; one too large, 6."
abbrev pub within_limit : ℕ → Option ℕ → DetailRead
within_limit limit None = DetailRead.Unknown
within_limit limit (Some v) = cond (ltb limit v) DetailRead.TooLarge (DetailRead.Value v)

-- at least one digit, and nothing else
unfoldable pub number_in : ℕ → ℕ → List ℕ → DetailRead
number_in base limit [] = DetailRead.Unknown
number_in base limit (b ∷ bs) = within_limit limit (digits_from base 0 (b ∷ bs))

-- ---- Keys

-- "a name from space, comma, colon, .. F1..F12 (values from keysymdef.h)"
unfoldable pub keysym_entries : List (Entry DetailRead)
keysym_entries =
    value "space" 0x20
    ∷ value "comma" 0x2c
    ∷ value "colon" 0x3a
    ∷ value "BackSpace" 0xff08
    ∷ value "Tab" 0xff09
    ∷ value "Return" 0xff0d
    ∷ value "Escape" 0xff1b
    ∷ value "Delete" 0xffff
    ∷ value "Home" 0xff50
    ∷ value "Left" 0xff51
    ∷ value "Up" 0xff52
    ∷ value "Right" 0xff53
    ∷ value "Down" 0xff54
    ∷ value "F1" 0xffbe
    ∷ value "F2" 0xffbf
    ∷ value "F3" 0xffc0
    ∷ value "F4" 0xffc1
    ∷ value "F5" 0xffc2
    ∷ value "F6" 0xffc3
    ∷ value "F7" 0xffc4
    ∷ value "F8" 0xffc5
    ∷ value "F9" 0xffc6
    ∷ value "F10" 0xffc7
    ∷ value "F11" 0xffc8
    ∷ value "F12" 0xffc9
    ∷ []

-- R-4: the header's names "beside the names we have"; those in both lists stand for the same in both
unfoldable pub keysym_names : List (Entry DetailRead)
keysym_names = keysym_entries ++ latin1_entries

abbrev pub starts_hexadecimal : List ℕ → Bool
starts_hexadecimal word = is_code (byte_at word 0) "0" && (is_code (byte_at word 1) "x" || is_code (byte_at word 1) "X")

-- "one character stands for its Latin-1 code, digits too; `0x` or `0X` hexadecimal, another leading 0 octal, else decimal, up
-- to 0x1FFFFFFF; or a name"; R-4: "A name not found is still 5"
unfoldable pub key_detail : List ℕ → DetailRead
key_detail word =
    cond (eqb (length word) 1) (DetailRead.Value (byte_at word 0))
    (cond (starts_hexadecimal word) (number_in 16 keysym_limit (drop 2 word))
    (cond (is_code (byte_at word 0) "0") (number_in 8 keysym_limit word)
    (cond (is_digit (byte_at word 0)) (number_in 10 keysym_limit word)
    (first_meaning keysym_names DetailRead.Unknown word))))

-- ---- Other events

-- "Buttons: Button1..Button5."
unfoldable pub button_entries : List (Entry DetailRead)
button_entries =
    value "Button1" 1 ∷ value "Button2" 2 ∷ value "Button3" 3 ∷ value "Button4" 4 ∷ value "Button5" 5 ∷ []

-- "Motion: Normal 0, Hint 1."
unfoldable pub motion_entries : List (Entry DetailRead)
motion_entries = value "Normal" 0 ∷ value "Hint" 1 ∷ []

-- "Enter, leave, focus: Normal 0, Grab 1, Ungrab 2, WhileGrabbed 3."
unfoldable pub mode_entries : List (Entry DetailRead)
mode_entries = value "Normal" 0 ∷ value "Grab" 1 ∷ value "Ungrab" 2 ∷ value "WhileGrabbed" 3 ∷ []

-- "Mapping: Modifier 0, Keyboard 1, Pointer 2."
unfoldable pub request_entries : List (Entry DetailRead)
request_entries = value "Modifier" 0 ∷ value "Keyboard" 1 ∷ value "Pointer" 2 ∷ []

abbrev pub leading_zero : List ℕ → Bool
leading_zero word = is_code (byte_at word 0) "0" && not (eqb (length word) 1)

-- "decimal 0..255, with no leading zero"
unfoldable pub small_number : List ℕ → DetailRead
small_number word = cond (leading_zero word) DetailRead.Unknown (number_in 10 small_detail_limit word)

-- "The last three also take decimal"
unfoldable pub name_or_number : List (Entry DetailRead) → List ℕ → DetailRead
name_or_number entries word =
    cond (is_digit (byte_at word 0)) (small_number word) (first_meaning entries DetailRead.Unknown word)

-- a detail of at least one byte, on an event type that fixes none
unfoldable pub detail_named : ℕ → List ℕ → DetailRead
detail_named code word =
    cond (is_key code) (key_detail word)
    (cond (is_button code) (first_meaning button_entries DetailRead.Unknown word)
    (cond (eqb code motion_notify) (name_or_number motion_entries word)
    (cond (has_mode code) (name_or_number mode_entries word)
    (cond (eqb code mapping_notify) (name_or_number request_entries word)
    (cond (has_atom code) DetailRead.NotBuilt DetailRead.Unknown)))))
