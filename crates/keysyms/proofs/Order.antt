-- The order of the table, by one computed test over all of it, and what follows for a word. Assumes nothing.
use Prim.Native.Nat.{ℕ, zero, suc, ◌≤◌, ◌<◌}
use native.Mathlib.Omega.{arith}
use mathlib.Core.Path.{◌≡◌, refl, sym, ◌∙◌}
use mathlib.Core.Bool.{Bool, true, false, false≢true}
use mathlib.Core.List.{List, [], ◌∷◌}
use lib.Dec.{eqb}
use lib.ListN.{length, get_or}
use borrow.Author.Tests.{eqb-true, eqb-false}
use Rattle.words.proofs.Bools.{and_left, and_right}
use Rattle.model.specs.Lists.{is_before}
use Rattle.model.specs.Latin1.{latin1_entries}
use Rattle.names.specs.Table.{names_in}
use Rattle.keysyms.specs.Table.{keysym_total, keysym_name}
use Rattle.keysyms.specs.Rule.{is_rising}
use Rattle.keysyms.proofs.ByteOrder.{before_over}

-- R-4: "Its order and the absence of duplicates are shown once over the whole table."
pub names_rise : is_rising (names_in latin1_entries) ≡ true
unfolding is_rising is_before latin1_entries
names_rise = refl

names_total : length (names_in latin1_entries) ≡ keysym_total
unfolding latin1_entries
names_total = refl

-- ---- From each two neighbours to any two names

rising_next : (l : List (List ℕ)) → is_rising l ≡ true → (i : ℕ) → suc i < length l → is_before (get_or l i []) (get_or l (suc i) []) ≡ true
unfolding is_rising
rising_next [] e i h = absurd (omega arith)
rising_next (n ∷ []) e i h = absurd (omega arith)
rising_next (n ∷ m ∷ ns) e zero h = and_left (is_before n m) (is_rising (m ∷ ns)) e
rising_next (n ∷ m ∷ ns) e (suc i) h = rising_next (m ∷ ns) (and_right (is_before n m) (is_rising (m ∷ ns)) e) i (omega arith)

rising_all : (l : List (List ℕ)) → is_rising l ≡ true → (i j : ℕ) → i < j → j < length l → is_before (get_or l i []) (get_or l j []) ≡ true
rising_all l e i zero h k = absurd (omega arith)
rising_all l e i (suc j) h k = go (eqb i j) refl (λ p. rising_all l e i j p (omega arith))
  where
    go : (b : Bool) → eqb i j ≡ b → (i < j → is_before (get_or l i []) (get_or l j []) ≡ true)
        → is_before (get_or l i []) (get_or l (suc j) []) ≡ true
    go true q ih = rw (eqb-true i j q) (rising_next l e j k)
    go false q ih =
        before_over (get_or l i []) (get_or l j []) (get_or l (suc j) []) (ih (let n = eqb-false i j q in omega arith)) (rising_next l e j k)

pub name_order : (i j : ℕ) → i < j → j < keysym_total → is_before (keysym_name i) (keysym_name j) ≡ true
unfolding keysym_name
name_order i j h k = rising_all (names_in latin1_entries) names_rise i j h (rw names_total k)

-- ---- A word and the name in the middle

module _ (w : List ℕ) (m : ℕ) (h : m < keysym_total) where
  -- where that name stands before the word, so does every earlier one
  pub earlier_before : is_before (keysym_name m) w ≡ true → (i : ℕ) → i ≤ m → is_before (keysym_name i) w ≡ true
  earlier_before e i k = go (eqb i m) refl
    where
      go : (b : Bool) → eqb i m ≡ b → is_before (keysym_name i) w ≡ true
      go true q = rw (eqb-true i m q) e
      go false q =
          before_over (keysym_name i) (keysym_name m) w (name_order i m (let n = eqb-false i m q in omega arith) h) e

  -- and where it does not, neither does any later one
  pub later_not_before : is_before (keysym_name m) w ≡ false → (i : ℕ) → m ≤ i → i < keysym_total → is_before (keysym_name i) w ≡ false
  later_not_before e i k below = go (eqb m i) refl (is_before (keysym_name i) w) refl
    where
      go : (b : Bool) → eqb m i ≡ b → (t : Bool) → is_before (keysym_name i) w ≡ t → is_before (keysym_name i) w ≡ false
      go true q t r = rw (← eqb-true m i q) e
      go false q false r = r
      go false q true r =
          absurd (false≢true (sym e ∙ before_over (keysym_name m) (keysym_name i) w (name_order m i (let n = eqb-false m i q in omega arith) below) r))
