-- Tests at the numbers below a limit: that all pass, that some passes. Lists of bits are such tests.
use Prim.Native.Nat.{ℕ, zero, suc, ◌+◌, ◌<◌, zero-le, suc-le-suc}
use native.Mathlib.Omega.{arith}
use Rattle.std.proofs.lemmas.Bool.{or_parts}
use mathlib.Core.Path.{◌≡◌, refl, ap₂, ◌∙◌}
use mathlib.Core.Bool.{Bool, true, false, not, ◌&&◌, ◌||◌}
use Rattle.model.specs.Lists.{any, all}
use Rattle.model.specs.Modifiers.{bits, button_bits}

-- ---- Bool

pub both_left : (a b : Bool) → a && b ≡ true → a ≡ true
both_left a b e = grind arith

pub both_right : (a b : Bool) → a && b ≡ true → b ≡ true
both_right a b e = grind arith

-- two tests that pass together are equal
pub together : (a b : Bool) → (a ≡ true → b ≡ true) → (b ≡ true → a ≡ true) → a ≡ b
together a b f g = grind arith

-- so are two that fail together
pub apart : (a b : Bool) → (a ≡ false → b ≡ false) → (b ≡ false → a ≡ false) → a ≡ b
apart a b f g = grind arith

-- ---- Below a limit

unfoldable pub every : ℕ → (ℕ → Bool) → Bool
every zero t = true
every (suc n) t = t 0 && every n (λ k. t (suc k))

unfoldable pub some : ℕ → (ℕ → Bool) → Bool
some zero t = false
some (suc n) t = t 0 || some n (λ k. t (suc k))

pub every_at : (n : ℕ) (t : ℕ → Bool) → every n t ≡ true → (k : ℕ) → k < n → t k ≡ true
unfolding every
every_at zero t e k h = absurd (omega arith)
every_at (suc n) t e zero h = both_left (t 0) (every n (λ j. t (suc j))) e
every_at (suc n) t e (suc k) h =
    every_at n (λ j. t (suc j)) (both_right (t 0) (every n (λ j. t (suc j))) e) k (omega arith)

pub every_from : (n : ℕ) (t : ℕ → Bool) → ((k : ℕ) → k < n → t k ≡ true) → every n t ≡ true
unfolding every
every_from zero t f = refl
every_from (suc n) t f =
    ap₂ ◌&&◌ (f 0 (suc-le-suc zero-le)) (every_from n (λ j. t (suc j)) (λ k h. f (suc k) (suc-le-suc h)))

pub none_at_lem : (n : ℕ) (t : ℕ → Bool) → some n t ≡ false → (k : ℕ) → k < n → t k ≡ false
unfolding some
none_at_lem zero t e k h = absurd (omega arith)
none_at_lem (suc n) t e zero h = (or_parts (t 0) (some n (λ j. t (suc j))) e).0
none_at_lem (suc n) t e (suc k) h =
    none_at_lem n (λ j. t (suc j)) (or_parts (t 0) (some n (λ j. t (suc j))) e).1 k (omega arith)

pub none_from : (n : ℕ) (t : ℕ → Bool) → ((k : ℕ) → k < n → t k ≡ false) → some n t ≡ false
unfolding some
none_from zero t f = refl
none_from (suc n) t f =
    ap₂ ◌||◌ (f 0 (suc-le-suc zero-le)) (none_from n (λ j. t (suc j)) (λ k h. f (suc k) (suc-le-suc h)))

not_either : (a b : Bool) → not a && not b ≡ not (a || b)
not_either a b = grind arith

not_both : (a b : Bool) → not a || not b ≡ not (a && b)
not_both a b = grind arith

-- all fail where none passes
pub every_not : (n : ℕ) (t u : ℕ → Bool) → ((k : ℕ) → k < n → u k ≡ not (t k)) → every n u ≡ not (some n t)
unfolding every some
every_not zero t u f = refl
every_not (suc n) t u f =
    ap₂ ◌&&◌ (f 0 (suc-le-suc zero-le)) (every_not n (λ j. t (suc j)) (λ j. u (suc j)) (λ k h. f (suc k) (suc-le-suc h)))
    ∙ not_either (t 0) (some n (λ j. t (suc j)))

-- some fails where not all pass
pub some_not : (n : ℕ) (t u : ℕ → Bool) → ((k : ℕ) → k < n → u k ≡ not (t k)) → some n u ≡ not (every n t)
unfolding every some
some_not zero t u f = refl
some_not (suc n) t u f =
    ap₂ ◌||◌ (f 0 (suc-le-suc zero-le)) (some_not n (λ j. t (suc j)) (λ j. u (suc j)) (λ k h. f (suc k) (suc-le-suc h)))
    ∙ not_both (t 0) (every n (λ j. t (suc j)))

-- ---- The bits of a state, and the buttons', which follow the first eight

pub all_bits : (t : ℕ → Bool) → all t bits ≡ every 13 t
unfolding every
all_bits t = refl

pub any_bits : (t : ℕ → Bool) → any t bits ≡ some 13 t
unfolding some
any_bits t = refl

pub all_buttons : (t : ℕ → Bool) → all t button_bits ≡ every 5 (λ k. t (8 + k))
unfolding every
all_buttons t = refl

pub any_buttons : (t : ℕ → Bool) → any t button_bits ≡ some 5 (λ k. t (8 + k))
unfolding some
any_buttons t = refl
