-- Laws of lookup, one place at a time. Assumes nothing.
use Prim.Native.Nat.{ℕ, zero, suc, ◌+◌, ◌-◌, ◌≤◌, ◌<◌}
use native.Mathlib.Numerals.{add-one}
use native.Mathlib.Omega.{arith}
use mathlib.Core.Path.{◌≡◌, refl, sym, ap, ◌∙◌}
use mathlib.Core.Bool.{Bool, true, false, cond}
use mathlib.Core.List.{List, [], ◌∷◌, ◌++◌}
use Rattle.model.specs.Lists.{same, bytes}
use Rattle.model.specs.Names.{Entry, first_meaning}
use Rattle.names.specs.Table.{name_row, names_in, meanings_in}
use Rattle.words.specs.Runs.{run}
use Rattle.lookup.specs.Rule.{Holds}
use Rattle.lookup.specs.Find.{find_from, meaning_of}
use Rattle.lookup.specs.declared.find.Found.{Found}

module _ (w : List ℕ) (i to : ℕ) where
  pub find_hit : i < to → same w (name_row i) ≡ true → find_from (to - i) i w ≡ Found.At i
  unfolding find_from
  find_hit h q =
      let e : to - i ≡ suc (to - (i + 1)) = omega arith in
      rw (e, find_from, q)

  pub find_miss : i < to → same w (name_row i) ≡ false → find_from (to - i) i w ≡ find_from (to - (i + 1)) (i + 1) w
  unfolding find_from
  find_miss h q =
      let e : to - i ≡ suc (to - (i + 1)) = omega arith in
      rw (e, find_from, q, add-one)

  pub find_end : to ≤ i → find_from (to - i) i w ≡ Found.Nothing
  unfolding find_from
  find_end h =
      let e : to - i ≡ 0 = omega arith in
      rw e

-- what is found lies in the range
pub found_within : (n i : ℕ) (w : List ℕ) (k : ℕ) → find_from n i w ≡ Found.At k → (i ≤ k) × (k < i + n)
unfolding find_from
found_within zero i w k e = let z : ◌≡◌ {A = ℕ} 0 1 = cc in omega arith
found_within (suc n) i w k e = go (same w (name_row i)) refl (found_within n (suc i) w k)
  where
    go : (b : Bool) → same w (name_row i) ≡ b → (find_from n (suc i) w ≡ Found.At k → (suc i ≤ k) × (k < suc i + n)) → (i ≤ k) × (k < i + suc n)
    go true q ih = let z : i ≡ k = cc in omega arith
    go false q ih = let z = ih (sym (rw q) ∙ e) in omega arith

-- ---- Entries after others

module _ {A : Type 0} where
  pub named_append : (es fs : List (Entry A)) (other : A) (w : List ℕ) → first_meaning (es ++ fs) other w ≡ first_meaning es (first_meaning fs other w) w
  named_append [] fs other w = refl
  named_append (e ∷ es) fs other w = ap (λ (a : A). cond (same w (bytes e.name)) e.meaning a) (named_append es fs other w)

-- ---- A group of entries

module _ {A : Type 0} (mean : ℕ → A) (other : A) (w : List ℕ) where
  -- so looking a word up in them is the rule's own lookup
  pub found_named : (n i : ℕ) (es : List (Entry A)) → Holds mean n i es → meaning_of mean other (find_from n i w) ≡ first_meaning es other w
  unfolding find_from run
  found_named zero i [] h = refl
  found_named zero i (e ∷ es) h =
      let p = h.names in
      let z : ◌≡◌ {A = ℕ} 0 1 = cc in absurd (let y : ⊥ = omega arith in y)
  found_named (suc n) i [] h =
      let p = h.names in
      let z : ◌≡◌ {A = ℕ} 0 1 = cc in absurd (let y : ⊥ = omega arith in y)
  found_named (suc n) i (e ∷ es) h =
      let p = h.names in
      let q = h.meanings in
      let p₀ : name_row i ≡ bytes e.name = cc in
      let p₁ : run name_row (suc i) n ≡ names_in es = cc in
      let q₀ : mean i ≡ e.meaning = cc in
      let q₁ : run mean (suc i) n ≡ meanings_in es = cc in
      go (same w (name_row i)) refl p₀ q₀ (found_named n (suc i) es (record { names = p₁; meanings = q₁ }))
    where
      go : (b : Bool) → same w (name_row i) ≡ b → name_row i ≡ bytes e.name → mean i ≡ e.meaning
          → meaning_of mean other (find_from n (suc i) w) ≡ first_meaning es other w
          → meaning_of mean other (cond (same w (name_row i)) (Found.At i) (find_from n (suc i) w))
          ≡ cond (same w (bytes e.name)) e.meaning (first_meaning es other w)
      go true q p₀ q₀ ih = rw (← p₀, q) q₀
      go false q p₀ q₀ ih = rw (← p₀, q) ih
