-- A word by its spelling. Assumes nothing.
use Prim.Native.Nat.{ℕ, zero, suc, ◌+◌, ◌-◌, ◌≤◌, ◌<◌}
use native.Mathlib.Omega.{arith}
use mathlib.Core.Path.{◌≡◌, refl, ◌∙◌}
use mathlib.Core.Bool.{false, ◌&&◌}
use mathlib.Core.List.{List, ◌∷◌}
use lib.Dec.{eqb}
use lib.ListN.{length, get_or}
use Rattle.model.specs.Lists.{part, same}
use Rattle.names.specs.Table.{name_row, spelling_of, Bytes, longest_name}
use Rattle.names.specs.declared.table.Spelling.{Spelling}
use Rattle.names.proofs.Spelled.{row_length, row_bytes, same_spelled}
use Rattle.lookup.specs.Find.{find_from}
use Rattle.lookup.specs.declared.find.Found.{Found}
use Rattle.numerals.proofs.Words.{drop_at, same_length}

-- a part by its first byte and the rest
pub part_cons : (l : List ℕ) (i to : ℕ) → i < to → i < length l → part l i to ≡ get_or l i 0 ∷ part l (i + 1) to
part_cons l i to h k =
    let e : to - i ≡ suc (to - (i + 1)) = omega arith in
    rw (drop_at l i k, e)

-- ---- The word and the name at a place

module _ (w : List ℕ) where
  pub same_name : length w ≤ longest_name → Bytes w → (place : ℕ) (a b : Spelling) → a ≡ spelling_of w → b ≡ spelling_of (name_row place)
      → same w (name_row place) ≡ (eqb a.0 b.0 && (eqb a.1 b.1 && eqb a.2 b.2))
  same_name h bytes place a b p q =
      same_spelled w (name_row place) h (row_length place) bytes (row_bytes place) ∙ rw (p, q)

  module _ (long : longest_name < length w) where
    pub long_other : (place : ℕ) → same w (name_row place) ≡ false
    long_other place = same_length w (name_row place) (λ e. omega (arith, row_length place))

    pub long_nowhere : (n i : ℕ) → find_from n i w ≡ Found.Nothing
    unfolding find_from
    long_nowhere zero i = refl
    long_nowhere (suc n) i = rw (long_other i) (long_nowhere n (suc i))
