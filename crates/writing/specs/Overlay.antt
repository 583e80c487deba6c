-- A text put into lent bytes at a position, as far as it lies within them.
use Rattle.std.specs.Prelude.{ℕ, ◌+◌, ◌≡◌, cond, List, [], ◌∷◌, ltb, length}
use Rattle.std.proofs.lemmas.List.Edits.{sets}

-- the bytes of `text` replace those from `at` on; those that would lie past the end are left out
unfoldable pub overlay : List ℕ → ℕ → List ℕ → List ℕ
overlay out at text = sets out at text

-- `text` was put at `at`, and `past` is the position past it
pub record Put (out after : List ℕ) (at past : ℕ) (text : List ℕ) : Type 0 where
  pub bytes : after ≡ overlay out at text
  pub next : past ≡ at + length text

-- what parts a text from the n texts before it: nothing before the first
abbrev pub separator : ℕ → ℕ → List ℕ
separator b n = cond (ltb 0 n) (b ∷ []) []
