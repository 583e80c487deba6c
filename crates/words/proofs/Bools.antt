-- Conjunctions of tests.
use mathlib.Core.Path.{◌≡◌}
use mathlib.Core.Bool.{Bool, true, false, ◌&&◌, ◌||◌}
use Rattle.std.proofs.lemmas.Bool.{and_parts, and_from, or_parts, or_from}
use Rattle.std.specs.Cmp.{both_ways}
use mathlib.Core.List.{List, [], ◌∷◌}

module _ (a b : Bool) where
  pub and_left : (a && b) ≡ true → a ≡ true
  and_left e = (and_parts a b e).0

  pub and_right : (a && b) ≡ true → b ≡ true
  and_right e = (and_parts a b e).1

  pub and_both : a ≡ true → b ≡ true → (a && b) ≡ true
  and_both p q = and_from a b p q

  pub or_no_left : (a || b) ≡ false → a ≡ false
  or_no_left e = (or_parts a b e).0

  pub or_no_right : (a || b) ≡ false → b ≡ false
  or_no_right e = (or_parts a b e).1

  pub or_neither : a ≡ false → b ≡ false → (a || b) ≡ false
  or_neither p q = or_from a b p q

  -- two tests that pass in the same cases
  pub same_test : (a ≡ true → b ≡ true) → (b ≡ true → a ≡ true) → a ≡ b
  same_test f g = both_ways a b f g

-- ---- `a && b && c && ..`, which associates to the left

abbrev pub chain : Bool → List Bool → Bool
chain a [] = a
chain a (b ∷ bs) = chain (a && b) bs

abbrev pub AllTrue : List Bool → Type 0
AllTrue [] = Unit
AllTrue (b ∷ bs) = (b ≡ true) × AllTrue bs

pub chain_parts : (a : Bool) (bs : List Bool) → chain a bs ≡ true → AllTrue (a ∷ bs)
chain_parts a [] e = (e, tt)
chain_parts a (b ∷ bs) e =
    let r : AllTrue ((a && b) ∷ bs) = chain_parts (a && b) bs e in
    (and_left a b r.0, (and_right a b r.0, r.1))

pub chain_all : (a : Bool) (bs : List Bool) → AllTrue (a ∷ bs) → chain a bs ≡ true
chain_all a [] r = r.0
chain_all a (b ∷ bs) r = chain_all (a && b) bs (and_both a b r.0 r.1.0, r.1.1)
