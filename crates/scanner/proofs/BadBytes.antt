-- The search for a byte that is not allowed, one byte at a time.
use Prim.Native.Nat.{ℕ, suc, ◌+◌, ◌≤◌, ◌<◌}
use native.Mathlib.Omega.{arith}
use native.Mathlib.Numerals.{add-one}
use mathlib.Core.Path.{◌≡◌, refl}
use mathlib.Core.List.{List, [], ◌∷◌}
use mathlib.Core.Bool.{Bool, true, false, cond, not, ◌||◌}
use Rattle.std.specs.Prelude.{Option, None, Some}
use lib.ListN.{length, drop, get_or, drop_of_length-le}
use Rattle.model.specs.Lists.{any, earliest, given}
use Rattle.model.specs.Bytes.{is_allowed, first_bad_byte}
use Rattle.scanner.proofs.Runs.{drop_at}

abbrev pub is_bad : ℕ → Bool
is_bad b = not (is_allowed b)

module _ (text : List ℕ) (i : ℕ) where
  pub bad_here : i < length text → is_allowed (get_or text i 0) ≡ false → earliest is_bad i (drop i text) ≡ Some i
  bad_here h e = rw (drop_at text i h, e)

  pub bad_later : i < length text → is_allowed (get_or text i 0) ≡ true → earliest is_bad i (drop i text) ≡ earliest is_bad (i + 1) (drop (i + 1) text)
  bad_later h e = rw (drop_at text i h, e, add-one)

  pub bad_nowhere : (k : ℕ) → length text ≤ i → earliest is_bad k (drop i text) ≡ None
  bad_nowhere k h = rw (drop_of_length-le text h)

pub or_assoc : (a b c : Bool) → a || (b || c) ≡ (a || b) || c
or_assoc true b c = refl
or_assoc false b c = refl

pub or_none : (a : Bool) → a || false ≡ a
or_none true = refl
or_none false = refl

given_any : (text : List ℕ) (i : ℕ) → given (earliest is_bad i text) ≡ any is_bad text
given_any [] i = refl
given_any (b ∷ bs) i = go (is_bad b) refl (given_any bs (suc i))
  where
    go : (t : Bool) → is_bad b ≡ t → given (earliest is_bad (suc i) bs) ≡ any is_bad bs
        → given (cond (is_bad b) (Some i) (earliest is_bad (suc i) bs)) ≡ is_bad b || any is_bad bs
    go true e h = rw e
    go false e h = rw (e, h)

pub given_bad : (text : List ℕ) → given (first_bad_byte text) ≡ false || any is_bad (drop 0 text)
unfolding first_bad_byte
given_bad text = given_any text 0

pub bad_step : (text : List ℕ) (i : ℕ) (bad ok : Bool) → i < length text → ok ≡ is_allowed (get_or text i 0)
    → bad || any is_bad (drop i text) ≡ (bad || not ok) || any is_bad (drop (i + 1) text)
bad_step text i bad ok h e = rw (drop_at text i h, ← e) (or_assoc bad (not ok) (any is_bad (drop (i + 1) text)))

pub bad_end : (text : List ℕ) (i : ℕ) (bad : Bool) → length text ≤ i → bad || any is_bad (drop i text) ≡ bad
bad_end text i bad h = rw (drop_of_length-le text h) (or_none bad)

pub not_given : (o : Option ℕ) → given o ≡ false → None ≡ o
not_given None e = refl
not_given (Some i) e = let z : ◌≡◌ {A = ℕ} 0 1 = cc in absurd (omega arith)
