-- The kinds of bytes of which tokens are made, in the words of Appendix B and of document 01.
use Rattle.std.specs.Prelude.{ℕ, Bool, not, ◌||◌}
use Prim.Native.Char.{code}
use Rattle.model.specs.Bytes.{is_code, in_range, is_tab, is_newline}

-- number 3: "tab, newline, 32..126, 160..255"
abbrev pub allowed_byte : ℕ → Bool
allowed_byte b = is_tab b || is_newline b || in_range 32 b 126 || in_range 160 b 255

-- "Blanks (space, tab)"
abbrev pub blank : ℕ → Bool
blank b = is_code b " " || is_tab b

abbrev pub letter : ℕ → Bool
letter b = in_range (code "A") b (code "Z") || in_range (code "a") b (code "z")

abbrev pub is_digit_sign : ℕ → Bool
is_digit_sign b = in_range (code "0") b (code "9")

-- "A modifier name or a type is the longest run of letters and digits"
abbrev pub letter_or_digit : ℕ → Bool
letter_or_digit b = letter b || is_digit_sign b

-- "`@` with a run of letters, digits or `_` directly after it"
abbrev pub keysym_byte : ℕ → Bool
keysym_byte b = letter b || is_digit_sign b || is_code b "_"

-- "A detail is the longest run without blank, comma, colon or newline."
abbrev pub detail_byte : ℕ → Bool
detail_byte b = not (blank b || is_code b "," || is_code b ":" || is_newline b)

-- namechar = { "a"-"z" | "A"-"Z" | "0"-"9" | "_" | "-" }
abbrev pub namechar : ℕ → Bool
namechar b = letter b || is_digit_sign b || is_code b "_" || is_code b "-"

-- <Latin 1 character except space, tab, ",", newline, ")">, and not the quote: "an unquoted one may not hold blank, comma, quote or `)`"
abbrev pub unquoted_byte : ℕ → Bool
unquoted_byte b = not (blank b || is_code b "," || is_code b "\"" || is_code b ")" || is_newline b)

-- "A quoted parameter runs to the next quote on the line"
abbrev pub quoted_byte : ℕ → Bool
quoted_byte b = not (is_code b "\"" || is_newline b)

-- "A line ends at a newline or at the end of the text."
abbrev pub line_byte : ℕ → Bool
line_byte b = not (is_newline b)
