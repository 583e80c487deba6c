-- The matcher's order of checks: where none refuses none applies, and 14 is the state's alone.
use Prim.Native.Nat.{ℕ, ◌<◌}
use native.Mathlib.Omega.{arith}
use mathlib.Core.Path.{◌≡◌, refl, sym, ◌∙◌}
use mathlib.Core.Bool.{Bool, true, false, cond, false≢true}
use lib.Dec.{eqb}
use Rattle.model.specs.Numbers.{MatchChecks, match_order, state_not_whole}

pub record NoneApplies (c : MatchChecks) : Type 0 where
  pub short : c.short ≡ false
  pub modifiers_bad : c.modifiers_bad ≡ false
  pub table_broken : c.table_broken ≡ false
  pub state_broken : c.state_broken ≡ false
  pub record_bad : c.record_bad ≡ false
  pub full : c.full ≡ false

passed : (b : Bool) (n m : ℕ) → eqb n 0 ≡ false → eqb (cond b n m) 0 ≡ true → (b ≡ false) × (eqb m 0 ≡ true)
passed true n m f e = absurd (false≢true (sym f ∙ e))
passed false n m f e = (refl, e)

pub none_applies : (c : MatchChecks) → eqb (match_order c) 0 ≡ true → NoneApplies c
none_applies c e =
    let a = passed c.short 1 _ refl e in
    let m = passed c.modifiers_bad 18 _ refl a.1 in
    let b = passed c.table_broken 12 _ refl m.1 in
    let d = passed c.state_broken 14 _ refl b.1 in
    let f = passed c.record_bad 13 _ refl d.1 in
    let g = passed c.full 15 _ refl f.1 in
    record { short = a.0; modifiers_bad = m.0; table_broken = b.0; state_broken = d.0; record_bad = f.0; full = g.0 }

below : (bound : ℕ) (b : Bool) (n m : ℕ) → n < bound → m < bound → cond b n m < bound
below bound true n m h k = h
below bound false n m h k = k

-- a number fits in a byte
pub order_small : (c : MatchChecks) → match_order c < 256
order_small c =
    below 256 c.short 1 _ (omega arith)
    (below 256 c.modifiers_bad 18 _ (omega arith)
    (below 256 c.table_broken 12 _ (omega arith)
    (below 256 c.state_broken 14 _ (omega arith)
    (below 256 c.record_bad 13 _ (omega arith) (below 256 c.full 15 0 (omega arith) (omega arith))))))

not_by : (b : Bool) (n m : ℕ) → (n ≡ state_not_whole → ⊥) → (m ≡ state_not_whole → ⊥) → cond b n m ≡ state_not_whole → ⊥
not_by true n m f g = f
not_by false n m f g = g

-- 14 is given for a state that is not whole alone
pub order_not : (c : MatchChecks) → c.state_broken ≡ false → match_order c ≡ state_not_whole → ⊥
order_not c e =
    rw e
    (not_by c.short 1 _ (λ z. omega arith)
    (not_by c.modifiers_bad 18 _ (λ z. omega arith)
    (not_by c.table_broken 12 _ (λ z. omega arith)
    (not_by c.record_bad 13 _ (λ z. omega arith) (not_by c.full 15 0 (λ z. omega arith) (λ z. omega arith))))))
