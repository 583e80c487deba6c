-- Appendix B, keyseq: characters in double quotes, each a KeyPress.
use Rattle.std.specs.Prelude.{ℕ, ◌≡◌, Bool, true, false, not, ◌||◌, List, [], ◌∷◌}
use Prim.Native.Char.{code}
use Rattle.model.specs.Bytes.{is_code, is_tab}
use Rattle.model.specs.Events.{KeyChar, WrittenEvent, key}
use Rattle.model.specs.declared.scan.KeyMark.{KeyMark}
use Rattle.grammar.specs.Tokens.{Sign, is_some}

-- a character that stands for itself: not the quote that ends the sequence, and not a sign that takes one further byte
abbrev pub plain_byte : ℕ → Bool
plain_byte b = not (is_code b "\"" || is_code b "^" || is_code b "\\" || is_code b "$")

-- keychar = [ "^" | "$" | "\\" ] <ISO Latin 1 character>
-- "`^` adds Ctrl, and `\` quotes; each takes one further byte. A tab inside is not grammar."
pub data Keychar : List ℕ → KeyChar → List ℕ → Type 0 where
  -- <ISO Latin 1 character>
  plain : {b : ℕ} {r : List ℕ} → plain_byte b ≡ true → is_tab b ≡ false → Keychar (b ∷ r) (record { mark = KeyMark.Plain; byte = b }) r
  -- "^" <ISO Latin 1 character>: "`^` adds Ctrl"
  control : {b : ℕ} {r : List ℕ} → is_tab b ≡ false → Keychar (code "^" ∷ b ∷ r) (record { mark = KeyMark.Control; byte = b }) r
  -- "\\" <ISO Latin 1 character>: "`\` quotes"
  quoted : {b : ℕ} {r : List ℕ} → is_tab b ≡ false → Keychar (code "\\" ∷ b ∷ r) (record { mark = KeyMark.Quoted; byte = b }) r
  -- "$" <ISO Latin 1 character>: "`$` with its one further byte"
  meta : {b : ℕ} {r : List ℕ} → is_tab b ≡ false → Keychar (code "$" ∷ b ∷ r) (record { mark = KeyMark.Meta; byte = b }) r

-- {keychar} and the quote after it
pub data Keychars : List ℕ → List WrittenEvent → List ℕ → Type 0 where
  -- """
  none : {r : List ℕ} → Keychars (code "\"" ∷ r) [] r
  -- keychar and what follows
  more : {l m r : List ℕ} {k : KeyChar} {ks : List WrittenEvent} → Keychar l k m → Keychars m ks r → Keychars l (key k ∷ ks) r

-- keyseq = """ keychar {keychar} """
pub data Keyseq : List ℕ → List WrittenEvent → List ℕ → Type 0 where
  -- "A key sequence is one or more characters in double quotes, each a KeyPress."
  keyseq : {l m r : List ℕ} {ks : List WrittenEvent} → Sign "\"" l m → Keychars m ks r → is_some ks ≡ true → Keyseq l ks r
