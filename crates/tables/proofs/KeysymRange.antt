-- Keysyms with marks: those that a list of modifiers keeps are in range, and rise.
use Prim.Native.Nat.{ℕ, suc, ◌+◌, ◌/◌, ◌%◌, ◌≤◌, ◌<◌}
use native.Mathlib.Omega.{arith}
use mathlib.Core.Path.{◌≡◌, refl}
use mathlib.Core.List.{List, [], ◌∷◌}
use mathlib.Core.Bool.{Bool, true, false, cond}
use lib.Dec.{eqb, leb, ltb}
use borrow.Author.Tests.{eqb-false, ltb-true, ltb-false, le-leb, lt-ltb, ne_eqb}
use Rattle.words.proofs.Bools.{and_both}
use Rattle.model.specs.Named.{listed_mark, marked_keysym, is_listed, mark_listed, with_keysym, keysyms_in}
use Rattle.tables.specs.Fitting.{keysym_in_range, comes_after, keysyms_in_range}
use Rattle.tables.proofs.Positions.{cond_both}
use Rattle.tables.proofs.EventWords.{facts_keysym}

-- a keysym from `low` on, with a mark
pub record Marked (low s : ℕ) : Type 0 where
  pub least : 0x20000000 ≤ s
  pub below : s < 0x80000000
  pub from : low ≤ s % 0x20000000

abbrev pub Rises : ℕ → List ℕ → Type 0
Rises low [] = Unit
Rises low (s ∷ ss) = Marked low s × Rises (suc (s % 0x20000000)) ss

-- ---- A keysym takes its place

marked_new : (tilde : Bool) (low v : ℕ) → low ≤ v → v < 0x20000000 → Marked low (v + listed_mark tilde)
marked_new false low v h b = record { least = omega arith; below = omega arith; from = omega arith }
marked_new true low v h b = record { least = omega arith; below = omega arith; from = omega arith }

-- its keysym stays
keysym_new : (tilde : Bool) (v : ℕ) → v < 0x20000000 → (v + listed_mark tilde) % 0x20000000 ≡ v
keysym_new false v b = omega arith
keysym_new true v b = omega arith

keysym_listed : (tilde : Bool) (s : ℕ) → (s + listed_mark tilde) % 0x20000000 ≡ s % 0x20000000
keysym_listed false s = omega arith
keysym_listed true s = omega arith

marked_listed : (tilde : Bool) (low s : ℕ) → is_listed tilde s ≡ false → Marked low s → Marked low (s + listed_mark tilde)
marked_listed false low s e m =
    let n = eqb-false (s / 0x20000000 % 2) 1 e in
    record { least = omega arith; below = omega (arith, m.least, m.below); from = omega (arith, m.from) }
marked_listed true low s e m =
    let n = eqb-false (s / 0x40000000 % 2) 1 e in
    record { least = omega arith; below = omega (arith, m.least, m.below); from = omega (arith, m.from) }

-- what rises from a keysym on
pub with_rises : (tilde : Bool) (low v : ℕ) (ss : List ℕ) → low ≤ v → v < 0x20000000 → Rises low ss → Rises low (with_keysym tilde v ss)
unfolding with_keysym
with_rises tilde low v [] h b r = (marked_new tilde low v h b, tt)
with_rises tilde low v (s ∷ ss) h b r =
    cond_both (Rises low) (ltb v (marked_keysym s)) ((v + listed_mark tilde) ∷ s ∷ ss) (cond (eqb v (marked_keysym s)) (mark_listed tilde s ∷ ss) (s ∷ with_keysym tilde v ss))
    (λ e. (marked_new tilde low v h b, rw (keysym_new tilde v b) (record { least = r.0.least; below = r.0.below; from = ltb-true v (s % 0x20000000) e }, r.1)))
    (λ e. cond_both (Rises low) (eqb v (marked_keysym s)) (mark_listed tilde s ∷ ss) (s ∷ with_keysym tilde v ss)
    (λ q. cond_both (λ (x : ℕ). Rises low (x ∷ ss)) (is_listed tilde s) s (s + listed_mark tilde) (λ _. r)
    (λ n. (marked_listed tilde low s n r.0, rw (keysym_listed tilde s) r.1)))
    (λ q. (r.0, with_rises tilde (suc (s % 0x20000000)) v ss (above v (s % 0x20000000) e q) b r.1)))
  where
    above : (v k : ℕ) → ltb v k ≡ false → eqb v k ≡ false → k < v
    above v k e q = let a = ltb-false v k e in let n = eqb-false v k q in omega arith

-- ---- The first four

marked_range : (low s : ℕ) → Marked low s → keysym_in_range s ≡ true
marked_range low s m =
    let n : eqb s 0 ≡ false = ne_eqb s 0 (λ e. let a = m.least in absurd (omega arith)) in
    rw n (and_both (leb 0x20000000 s) (ltb s 0x80000000) (le-leb 0x20000000 s m.least) (lt-ltb s 0x80000000 m.below))

marked_after : (low s next : ℕ) → Marked low s → Marked (suc (s % 0x20000000)) next → comes_after s next ≡ true
marked_after low s next m k =
    let n : eqb s 0 ≡ false = ne_eqb s 0 (λ e. let a = m.least in absurd (omega arith)) in
    let q : eqb next 0 ≡ false = ne_eqb next 0 (λ e. let a = k.least in absurd (omega arith)) in
    rw (q, n) (lt-ltb (s % 0x20000000) (next % 0x20000000) k.from)

pub rises_range : (ss : List ℕ) → Rises 0 ss → keysyms_in_range (keysyms_in ss) ≡ true
rises_range [] r =
    facts_keysym (keysyms_in [])
    (record { first = refl; second = refl; third = refl; fourth = refl; first_second = refl; second_third = refl; third_fourth = refl })
rises_range (a ∷ []) r =
    facts_keysym (keysyms_in (a ∷ []))
    (record { first = marked_range 0 a r.0; second = refl; third = refl; fourth = refl; first_second = refl; second_third = refl; third_fourth = refl })
rises_range (a ∷ b ∷ []) r =
    facts_keysym (keysyms_in (a ∷ b ∷ []))
    (record {
      first = marked_range 0 a r.0;
      second = marked_range (suc (a % 0x20000000)) b r.1.0;
      third = refl;
      fourth = refl;
      first_second = marked_after 0 a b r.0 r.1.0;
      second_third = refl;
      third_fourth = refl;
    })
rises_range (a ∷ b ∷ c ∷ []) r =
    facts_keysym (keysyms_in (a ∷ b ∷ c ∷ []))
    (record {
      first = marked_range 0 a r.0;
      second = marked_range (suc (a % 0x20000000)) b r.1.0;
      third = marked_range (suc (b % 0x20000000)) c r.1.1.0;
      fourth = refl;
      first_second = marked_after 0 a b r.0 r.1.0;
      second_third = marked_after (suc (a % 0x20000000)) b c r.1.0 r.1.1.0;
      third_fourth = refl;
    })
rises_range (a ∷ b ∷ c ∷ d ∷ ss) r =
    facts_keysym (keysyms_in (a ∷ b ∷ c ∷ d ∷ ss))
    (record {
      first = marked_range 0 a r.0;
      second = marked_range (suc (a % 0x20000000)) b r.1.0;
      third = marked_range (suc (b % 0x20000000)) c r.1.1.0;
      fourth = marked_range (suc (c % 0x20000000)) d r.1.1.1.0;
      first_second = marked_after 0 a b r.0 r.1.0;
      second_third = marked_after (suc (a % 0x20000000)) b c r.1.0 r.1.1.0;
      third_fourth = marked_after (suc (b % 0x20000000)) c d r.1.1.0 r.1.1.1.0;
    })
