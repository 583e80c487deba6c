-- A number that takes its place in a rising list, by what happens at the head of the list.
use Prim.Native.Nat.{ℕ, ◌+◌, ◌/◌, ◌%◌, ◌≤◌, ◌<◌}
use native.Mathlib.Omega.{arith}
use mathlib.Core.Path.{◌≡◌, refl, sym, ap}
use mathlib.Core.Bool.{Bool, true, false, cond, not, ◌||◌}
use mathlib.Core.List.{List, [], ◌∷◌}
use lib.Dec.{eqb, ltb}
use lib.ListN.{get_or}
use borrow.Author.Tests.{lt-ltb, ltb-true, ltb-false, eqb-false, ne_eqb}
use Rattle.model.specs.Lists.{is_empty}
use Rattle.model.specs.Named.{listed_mark, marked_keysym, is_listed, mark_listed, with_keysym}
use Rattle.keysym_list.specs.Slots.{slot_passed}
use Rattle.keysym_list.specs.Rising.{MarkedIn, Above, Rising}

abbrev pub rest : List ℕ → List ℕ
rest [] = []
rest (s ∷ ss) = ss

pub rising_rest : (ss : List ℕ) → Rising ss → Rising (rest ss)
rising_rest [] r = tt
rising_rest (s ∷ ss) r = r.2

module _ (tilde : Bool) where
  -- `with_keysym` for a number with its marks
  abbrev inserted : ℕ → List ℕ → List ℕ
  inserted c [] = c ∷ []
  inserted c (s ∷ ss) =
      cond (ltb (marked_keysym c) (marked_keysym s)) (c ∷ s ∷ ss)
      (cond (eqb (marked_keysym c) (marked_keysym s)) (mark_listed tilde s ∷ ss) (s ∷ inserted c ss))

  -- 0 is nothing
  abbrev pub carried_into : ℕ → List ℕ → List ℕ
  carried_into c ss = cond (eqb c 0) ss (inserted c ss)

  with_inserted : (v c : ℕ) → v + listed_mark tilde ≡ c → v ≡ marked_keysym c → (ss : List ℕ)
      → with_keysym tilde v ss ≡ inserted c ss
  unfolding with_keysym
  with_inserted v c p q [] = ap (λ (n : ℕ). n ∷ []) p
  with_inserted v c p q (s ∷ ss) =
      let ih : with_keysym tilde v ss ≡ inserted c ss = with_inserted v c p q ss in
      λ i.
      cond (ltb (q i) (marked_keysym s)) (p i ∷ s ∷ ss)
      (cond (eqb (q i) (marked_keysym s)) (mark_listed tilde s ∷ ss) (s ∷ ih i))

  marked_keysym_lem : (t : Bool) (v : ℕ) → v < 0x20000000 → v ≡ marked_keysym (v + listed_mark t)
  marked_keysym_lem true v h = omega arith
  marked_keysym_lem false v h = omega arith

  some_mark : (t : Bool) (v : ℕ) → v + listed_mark t ≡ 0 → ⊥
  some_mark true v e = omega arith
  some_mark false v e = omega arith

  pub with_carried : (v : ℕ) (ss : List ℕ) → v < 0x20000000
      → with_keysym tilde v ss ≡ carried_into (v + listed_mark tilde) ss
  with_carried v ss h =
      rw (ne_eqb (v + listed_mark tilde) 0 (some_mark tilde v))
      (with_inserted v (v + listed_mark tilde) refl (marked_keysym_lem tilde v h) ss)

  -- ---- At the head

  -- what the head hands on stands before the rest
  handed_on : (s : ℕ) (ss : List ℕ) → Rising (s ∷ ss) → carried_into s ss ≡ s ∷ ss
  handed_on s [] r = rw (ne_eqb s 0 (λ e. omega (arith, r.0.0)))
  handed_on s (t ∷ ts) r = rw (ne_eqb s 0 (λ e. omega (arith, r.0.0)), lt-ltb (marked_keysym s) (marked_keysym t) r.1)

  pub record AtHead (c : ℕ) (ss : List ℕ) : Type 0 where
    pub slot : (slot_passed tilde (get_or ss 0 0) c).slot ≡ get_or (carried_into c ss) 0 0
    pub on : rest (carried_into c ss) ≡ carried_into (slot_passed tilde (get_or ss 0 0) c).carried (rest ss)

  pub at_head : (c : ℕ) (ss : List ℕ) → Rising ss → AtHead c ss
  unfolding slot_passed
  at_head c [] r = go (eqb c 0) refl
    where
      go : (b : Bool) → eqb c 0 ≡ b → AtHead c []
      go true q = record { slot = rw q; on = rw q }
      go false q = record { slot = rw q; on = rw q }
  at_head c (s ∷ ss) r =
      go (eqb c 0) refl (ltb (marked_keysym c) (marked_keysym s)) refl (eqb (marked_keysym c) (marked_keysym s)) refl
    where
      there : eqb s 0 ≡ false
      there = ne_eqb s 0 (λ e. omega (arith, r.0.0))

      go : (a : Bool) → eqb c 0 ≡ a → (b : Bool) → ltb (marked_keysym c) (marked_keysym s) ≡ b
          → (d : Bool) → eqb (marked_keysym c) (marked_keysym s) ≡ d → AtHead c (s ∷ ss)
      go true p b q d e = record { slot = rw p; on = rw p }
      go false p true q d e = record { slot = rw (p, there, q); on = rw (p, there, q) (sym (handed_on s ss r)) }
      go false p false q true e = record { slot = rw (p, there, q, e); on = rw (p, there, q, e) }
      go false p false q false e = record { slot = rw (p, there, q, e); on = rw (p, there, q, e, p) }

  pub some_more : (c : ℕ) (ss : List ℕ) → (not (is_empty ss) || not (eqb c 0)) ≡ not (is_empty (carried_into c ss))
  some_more c [] = go (eqb c 0) refl
    where
      go : (a : Bool) → eqb c 0 ≡ a → not (eqb c 0) ≡ not (is_empty (carried_into c []))
      go true p = rw p
      go false p = rw p
  some_more c (s ∷ ss) =
      go (eqb c 0) (ltb (marked_keysym c) (marked_keysym s)) (eqb (marked_keysym c) (marked_keysym s))
    where
      go : (a b d : Bool)
          → true
          ≡ not (is_empty (cond a (s ∷ ss) (cond b (c ∷ s ∷ ss) (cond d (mark_listed tilde s ∷ ss) (s ∷ inserted c ss)))))
      go true b d = refl
      go false true d = refl
      go false false true = refl
      go false false false = refl

  -- ---- The order

  same_keysym : (t : Bool) (s : ℕ) → marked_keysym (mark_listed t s) ≡ marked_keysym s
  same_keysym true s = go (is_listed true s)
    where
      go : (b : Bool) → cond b s (s + 0x40000000) % 0x20000000 ≡ s % 0x20000000
      go true = refl
      go false = omega arith
  same_keysym false s = go (is_listed false s)
    where
      go : (b : Bool) → cond b s (s + 0x20000000) % 0x20000000 ≡ s % 0x20000000
      go true = refl
      go false = omega arith

  marked_in : (t : Bool) (s : ℕ) → MarkedIn s → MarkedIn (mark_listed t s)
  marked_in true s h = go (is_listed true s) refl
    where
      go : (b : Bool) → is_listed true s ≡ b → MarkedIn (cond b s (s + 0x40000000))
      go true q = h
      go false q = (omega arith, omega (arith, eqb-false (s / 0x40000000 % 2) 1 q))
  marked_in false s h = go (is_listed false s) refl
    where
      go : (b : Bool) → is_listed false s ≡ b → MarkedIn (cond b s (s + 0x20000000))
      go true q = h
      go false q = (omega arith, omega (arith, eqb-false (s / 0x20000000 % 2) 1 q))

  above_marked : (t : Bool) (s : ℕ) (ss : List ℕ) → Above (marked_keysym s) ss → Above (marked_keysym (mark_listed t s)) ss
  above_marked t s ss h = rw (same_keysym t s) h

  above_inserted : (v c : ℕ) (ss : List ℕ) → v < marked_keysym c → Above v ss → Above v (inserted c ss)
  above_inserted v c [] h a = h
  above_inserted v c (s ∷ ss) h a = go (ltb (marked_keysym c) (marked_keysym s)) (eqb (marked_keysym c) (marked_keysym s))
    where
      go : (b d : Bool) → Above v (cond b (c ∷ s ∷ ss) (cond d (mark_listed tilde s ∷ ss) (s ∷ inserted c ss)))
      go true d = h
      go false true = rw (same_keysym tilde s) a
      go false false = a

  inserted_rising : (c : ℕ) (ss : List ℕ) → MarkedIn c → Rising ss → Rising (inserted c ss)
  inserted_rising c [] h r = (h, tt, tt)
  inserted_rising c (s ∷ ss) h r =
      go (ltb (marked_keysym c) (marked_keysym s)) refl (eqb (marked_keysym c) (marked_keysym s)) refl
      (inserted_rising c ss h r.2)
    where
      go : (b : Bool) → ltb (marked_keysym c) (marked_keysym s) ≡ b → (d : Bool) → eqb (marked_keysym c) (marked_keysym s) ≡ d
          → Rising (inserted c ss)
          → Rising (cond b (c ∷ s ∷ ss) (cond d (mark_listed tilde s ∷ ss) (s ∷ inserted c ss)))
      go true p d q ih = (h, ltb-true _ _ p, r)
      go false p true q ih = (marked_in tilde s r.0, above_marked tilde s ss r.1, r.2)
      go false p false q ih =
          let l : marked_keysym s ≤ marked_keysym c = ltb-false (marked_keysym c) (marked_keysym s) p in
          let n = eqb-false (marked_keysym c) (marked_keysym s) q in
          (r.0, above_inserted (marked_keysym s) c ss (omega arith) r.1, ih)

  one_mark_in : (t : Bool) (v : ℕ) → v < 0x20000000 → MarkedIn (v + listed_mark t)
  one_mark_in true v h = (omega arith, omega arith)
  one_mark_in false v h = (omega arith, omega arith)

  -- one more keysym keeps the order
  pub with_rising : (v : ℕ) (ss : List ℕ) → v < 0x20000000 → Rising ss → Rising (with_keysym tilde v ss)
  with_rising v ss h r =
      rw (with_inserted v (v + listed_mark tilde) refl (marked_keysym_lem tilde v h) ss)
      (inserted_rising (v + listed_mark tilde) ss (one_mark_in tilde v h) r)
