-- What the symbols of the grammar are made of: signs, longest runs of bytes, and blanks.
-- Every relation of the grammar is written `Symbol l v r`: the bytes l are the symbol, with the value v, and then the bytes r.
-- Blanks before a token belong to it, and those at the end of a line to the end; so where no blanks are named, none may stand.
use Rattle.std.specs.Prelude.{ℕ, ◌≡◌, Bool, true, false, List, [], ◌∷◌, ◌++◌, length}
use Prim.Native.Char.{Char, code}
use Rattle.model.specs.Lists.{all}
use Rattle.model.specs.declared.scan.Span.{Span}
use Rattle.grammar.specs.Bytes.{blank}

-- ---- Runs

-- the first byte passes the test; no bytes have no first
abbrev pub begins_with : (ℕ → Bool) → List ℕ → Bool
begins_with test [] = false
begins_with test (b ∷ bs) = test b

-- l is w and then r, and w is the longest run of bytes of a kind that stands there
pub record Run (kind : ℕ → Bool) (l w r : List ℕ) : Type 0 where
  pub split : l ≡ w ++ r
  pub within : all kind w ≡ true
  pub longest : begins_with kind r ≡ false

abbrev pub is_some : {A : Type 0} → List A → Bool
is_some [] = false
is_some (x ∷ xs) = true

-- a run of at least one byte
pub record Word (kind : ℕ → Bool) (l w r : List ℕ) : Type 0 where
  pub run : Run kind l w r
  pub some : is_some w ≡ true

-- ---- Blanks and signs

-- "Blanks (space, tab) may stand before and after any token": l is all the blanks that stand there, perhaps none, and then r.
-- They are taken whole, so that a detail or a parameter of no bytes has one place.
pub record Blanks (l r : List ℕ) : Type 0 where
  pub blanks : List ℕ
  pub run : Run blank l blanks r

-- a sign, with the blanks before it
pub record Sign (c : Char) (l r : List ℕ) : Type 0 where
  pub before : Blanks l (code c ∷ r)

-- [ sign ]: "Means either nothing or" the sign; the value is whether it stands there
pub data Optional (c : Char) : List ℕ → Bool → List ℕ → Type 0 where
  there : {l r : List ℕ} → Sign c l r → Optional c l true r
  missing : {l r : List ℕ} → Blanks l r → Optional c l false r

-- ---- Places

-- the bytes w, with which the line's end m begins, stand at s in the line: after all that stands before m
pub record Stands (line m w : List ℕ) (s : Span) : Type 0 where
  pub before : List ℕ
  pub split : line ≡ before ++ m
  pub place : s ≡ record { start = length before; len = length w }
