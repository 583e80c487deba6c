-- Marks at a place that a motion takes: they fall back by one, and a context opened there is closed.
use Prim.Native.Nat.{ℕ, suc, pred, ◌-◌, ◌≤◌, ◌<◌}
use native.Mathlib.Omega.{arith}
use native.Mathlib.Nat.{eq-or-lt_of_le}
use borrow.Author.Tests.{eqb-false, eq-eqb, ne_eqb}
use mathlib.Core.Logic.{⊎_elim}
use mathlib.Core.Path.{◌≡◌, refl, ap, ◌∙◌}
use mathlib.Core.Bool.{Bool, true, false, cond}
use Rattle.std.specs.Prelude.{Option, None, Some}
use lib.Dec.{eqb}
use Rattle.model.specs.Selection.{falls_back, closed_at}

pub falls_at : (place mark : ℕ) → mark ≡ place → falls_back place mark ≡ pred place
falls_at place mark e = rw (eq-eqb mark place e, e)

pub falls_below : (place mark : ℕ) → mark < place → falls_back place mark ≡ mark
falls_below place mark l = rw (ne_eqb mark place (λ q. omega arith))

-- a mark at the place is the only one that moves
pub falls_within : (place mark : ℕ) → mark ≤ place → 0 < place → falls_back place mark < place
falls_within place mark l p =
    ⊎_elim
    (λ (q : mark ≡ place). omega (arith, falls_at place mark q))
    (λ (q : mark < place). omega (arith, falls_below place mark q))
    (eq-or-lt_of_le l)

pub falls_zero : (place mark : ℕ) → mark ≡ 0 → falls_back place mark ≡ 0
falls_zero place mark z = go (eqb mark place)
  where
    go : (b : Bool) → cond b (pred mark) mark ≡ 0
    go true = let h : pred mark ≡ 0 = omega (arith, z) in h
    go false = z

-- the kept mark falls back with the rules' own
pub falls_alike :
    (place count start last : ℕ) → last ≤ place → 0 < start → start ≤ place → count ≡ suc place - start
    → falls_back count (suc last - start) ≡ suc (falls_back place last) - start
falls_alike place count start last l p s c =
    ⊎_elim
    (λ (q : last ≡ place).
    let e = falls_at place last q in
    let f = falls_at count (suc last - start) (omega arith) in
    omega arith)
    (λ (q : last < place).
    let e = falls_below place last q in
    let f = falls_below count (suc last - start) (omega arith) in
    omega arith)
    (eq-or-lt_of_le l)

-- a context that stays open was opened before the place
pub closed_below : (place : ℕ) (c : Option ℕ) (s : ℕ) → closed_at place c ≡ Some s → (c ≡ Some s) × (s ≡ place → ⊥)
closed_below place None s e = let z : ◌≡◌ {A = ℕ} 0 1 = cc in absurd (omega arith)
closed_below place (Some v) s e = go (eqb v place) refl
  where
    go : (b : Bool) → eqb v place ≡ b → (Some v ≡ Some s) × (s ≡ place → ⊥)
    go true q = let z : ◌≡◌ {A = ℕ} 0 1 = cc in absurd (omega arith)
    go false q = let z : v ≡ s = cc in (ap Some z, λ i. eqb-false v place q (z ∙ i))
