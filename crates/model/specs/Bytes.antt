-- Document 01, "The text": bytes, runs of bytes, blanks.
use Rattle.std.specs.Prelude.{ℕ, suc, ◌+◌, Bool, cond, not, ◌&&◌, ◌||◌, List, [], ◌∷◌, leb, eqb, get_or, drop, Option}
use Prim.Native.Char.{Char, code}
use Rattle.model.specs.Lists.{earliest}
use Rattle.model.specs.declared.scan.Class.{Class}

abbrev pub is_code : ℕ → Char → Bool
is_code b c = eqb b (code c)

abbrev pub in_range : ℕ → ℕ → ℕ → Bool
in_range low b high = leb low b && leb b high

abbrev pub is_tab : ℕ → Bool
is_tab b = eqb b 9

abbrev pub is_newline : ℕ → Bool
is_newline b = eqb b 10

-- number 3: "tab, newline, 32..126, 160..255"
unfoldable pub is_allowed : ℕ → Bool
is_allowed b = is_tab b || is_newline b || in_range 32 b 126 || in_range 160 b 255

-- "The place is the byte for 3": the first byte that is not allowed
unfoldable pub first_bad_byte : List ℕ → Option ℕ
first_bad_byte text = earliest (λ b. not (is_allowed b)) 0 text

-- "Blanks (space, tab)"
unfoldable pub is_blank : ℕ → Bool
is_blank b = eqb b 32 || is_tab b

unfoldable pub is_digit : ℕ → Bool
is_digit b = in_range 48 b 57

unfoldable pub is_letter : ℕ → Bool
is_letter b = in_range 65 b 90 || in_range 97 b 122

-- the bytes of which each kind of run is made
unfoldable pub belongs : Class → ℕ → Bool
belongs Class.Blank b = is_blank b
-- "A modifier name or a type is the longest run of letters and digits"
belongs Class.Name b = is_letter b || is_digit b
-- "`@` with a run of letters, digits or `_` directly after it"
belongs Class.Keysym b = is_letter b || is_digit b || is_code b "_"
belongs Class.Digit b = is_digit b
-- "A detail is the longest run without blank, comma, colon or newline."
belongs Class.Detail b = not (is_blank b || is_code b "," || is_code b ":" || is_newline b)
-- "A call is a name (letters, digits, `_`, `-`)"
belongs Class.Call b = is_letter b || is_digit b || is_code b "_" || is_code b "-"
-- "an unquoted one may not hold blank, comma, quote or `)`"
belongs Class.Unquoted b = not (is_blank b || is_code b "," || is_code b "\"" || is_code b ")" || is_newline b)
-- "A quoted parameter runs to the next quote on the line"
belongs Class.Quoted b = not (is_code b "\"" || is_newline b)
-- "A line ends at a newline or at the end of the text."
belongs Class.Line b = not (is_newline b)

-- how many bytes at the front pass the test
abbrev pub leading : (ℕ → Bool) → List ℕ → ℕ
leading test [] = 0
leading test (b ∷ bs) = cond (test b) (suc (leading test bs)) 0

-- the end of the longest run of a class that begins at a position
unfoldable pub run_end : Class → List ℕ → ℕ → ℕ
run_end c l at = at + leading (belongs c) (drop at l)

-- the position past the blanks that stand at a position: "Blanks may stand before and after any token"
unfoldable pub skip : List ℕ → ℕ → ℕ
skip l at = run_end Class.Blank l at

-- the byte at a position; 0, which no text has (number 3), past the end
abbrev pub byte_at : List ℕ → ℕ → ℕ
byte_at l at = get_or l at 0

-- a sign stands at a position
abbrev pub sign_at : List ℕ → ℕ → Char → Bool
sign_at l at c = is_code (byte_at l at) c
