-- Every keysym that a pair gives folds to what one of its two does; where the second is 0, to what the first does.
use Prim.Native.Nat.{ℕ}
use native.Mathlib.Omega.{arith}
use borrow.Author.Tests.{eqb-true}
use Rattle.std.proofs.lemmas.Bool.Decides.{nat_tests}
use mathlib.Core.Path.{◌≡◌, sym, ap, ◌∙◌}
use mathlib.Core.Bool.{Bool, true, false, cond, ◌||◌}
use lib.Dec.{eqb}
use Rattle.model.specs.Keyboard.{is_lower, is_upper, upper, lower, picked, raised, keysym_of}
use Rattle.model.specs.Modifiers.{bit}
use Rattle.keyboard.specs.Pairs.{pair_asked, lock_gives}
use Rattle.keyboard.specs.Folds.{fold, folded}
use Rattle.keyboard.proofs.Pairs.{under_some, asked_either}

-- ---- Cases of letters

-- a letter of the other case folds to the same
upper_folds : (k : ℕ) → folded (upper k) ≡ folded k
unfolding upper is_lower folded fold
upper_folds k = grind (arith, nat_tests)

lower_folds : (k : ℕ) → folded (lower k) ≡ folded k
unfolding lower is_upper folded fold
lower_folds k = grind (arith, nat_tests)

-- ---- The keysyms of a pair

module _ (a b : ℕ) where
  -- folds to what one of the two does
  abbrev pub among : ℕ → Bool
  among w = eqb w (folded a) || eqb w (folded (cond (eqb b 0) a b))

  picked_in : (shift : Bool) → among (folded (picked a b shift)) ≡ true
  unfolding picked
  picked_in true = grind (arith, nat_tests, upper_folds a)
  picked_in false = grind (arith, nat_tests, lower_folds a)

  keysym_in : (shift lock : Bool) → among (folded (keysym_of a b shift lock)) ≡ true
  unfolding keysym_of raised
  keysym_in shift true = rw (upper_folds (picked a b shift)) (picked_in shift)
  keysym_in shift false = picked_in shift

  module _ (detail : ℕ) where
    given_in : (shift lock : Bool) → eqb (keysym_of a b shift lock) detail ≡ true → among (folded detail) ≡ true
    given_in shift lock e =
        let q : keysym_of a b shift lock ≡ detail = eqb-true (keysym_of a b shift lock) detail e in
        ap (λ (k : ℕ). among (folded k)) (sym q) ∙ keysym_in shift lock

    lock_in : (shift cares lock : Bool) → lock_gives a b shift cares lock detail ≡ true → among (folded detail) ≡ true
    unfolding lock_gives
    lock_in shift cares lock = under_some (λ l. eqb (keysym_of a b shift l) detail) cares lock (given_in shift)

    -- a detail that is met folds to what one of the two does
    pub asked_in : (set clear : ℕ) (colon : Bool) (state : ℕ) → pair_asked set clear colon a b state detail ≡ true
        → among (folded detail) ≡ true
    asked_in set clear colon state e =
        let cares : Bool = colon || bit 1 set || bit 1 clear in
        under_some (λ s. lock_gives a b s cares (bit 1 state) detail) (colon || bit 0 set || bit 0 clear) (bit 0 state)
        (λ s. lock_in s cares (bit 1 state)) (asked_either set clear colon a b state detail ∙ e)
