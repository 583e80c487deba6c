-- The table's rule: its order, and what is found in it.
use Rattle.std.specs.Prelude.{ℕ, ◌≤◌, ◌<◌, ◌≡◌, Bool, true, false, ◌&&◌, List, [], ◌∷◌}
use Rattle.model.specs.Lists.{is_before}
use Rattle.model.specs.Names.{first_meaning}
use Rattle.model.specs.Latin1.{latin1_entries}
use Rattle.model.specs.declared.names.DetailRead.{DetailRead}
use Rattle.names.specs.Table.{names_in}
use Rattle.keysyms.specs.Table.{keysym_total, keysym_name, keysym_meaning}
use Rattle.keysyms.specs.declared.search.NamePlace.{NamePlace}

-- each stands before the next one, so that no two are the same
unfoldable pub is_rising : List (List ℕ) → Bool
is_rising [] = true
is_rising (n ∷ []) = true
is_rising (n ∷ m ∷ ns) = is_before n m && is_rising (m ∷ ns)

-- what the rules' list has for a word
unfoldable pub latin1_named : List ℕ → DetailRead
latin1_named word = first_meaning latin1_entries DetailRead.Unknown word

-- r of the names stand before a word, and these are the first r
pub record Rank (w : List ℕ) (r : ℕ) : Type 0 where
  pub within : r ≤ keysym_total
  pub before : (i : ℕ) → i < r → is_before (keysym_name i) w ≡ true
  pub rest : (i : ℕ) → r ≤ i → i < keysym_total → is_before (keysym_name i) w ≡ false

-- the place of a word: the name there is the word, or no name is
abbrev pub Placed : List ℕ → NamePlace → Type 0
Placed w (NamePlace.At i) = (i < keysym_total) × (keysym_name i ≡ w)
Placed w NamePlace.Nowhere = (i : ℕ) → i < keysym_total → keysym_name i ≡ w → ⊥

pub record KeysymTable : Type 0 where
  -- R-4: "Its order and the absence of duplicates are shown once over the whole table."
  pub order : is_rising (names_in latin1_entries) ≡ true
  -- the name at a place stands for what the rules' list has for it
  pub held : (i : ℕ) → i < keysym_total → latin1_named (keysym_name i) ≡ keysym_meaning i
  -- a word that stands at no place is no name of the list
  pub complete : (w : List ℕ) → Placed w NamePlace.Nowhere → latin1_named w ≡ DetailRead.Unknown
