-- The elements of a counted event, which model lists, by their place: element k is the one that the code names.
use Rattle.std.proofs.Common.{◌≡◌, ℕ, zero, suc, ◌+◌, ◌-◌, ◌*◌, ◌%◌, ◌<◌, ◌≤◌, Bool, true, false, cond, eqb, ltb, leb, [], ◌∷◌, get_or, sym, refl, ap, ◌∙◌, arith, ltb-false, le-ltb, eq-eqb, ne_eqb, eqb-true}
use borrow.Author.Tests.{eqb-false}
use mathlib.Core.Bool.{false≢true}
use Rattle.model.specs.Counts.{Element, element, is_release, release_press, press_release, counted_press, counted_release, elements_at}
use Rattle.model.specs.declared.events.KeptEvent.{KeptEvent}
use Rattle.counts.specs.Elements.{releases, element_count, element_code, is_timed}

-- ---- Presses and releases take turns

-- the first of two turns, or the second
abbrev turn : ℕ → Element → Element → Element
turn k a b = cond (eqb (k % 2) 0) a b

turn_on : (k : ℕ) (a b : Element) → turn (suc (suc k)) a b ≡ turn k a b
turn_on k a b = let q : suc (suc k) % 2 ≡ k % 2 = omega arith in ap (λ (r : ℕ). cond (eqb r 0) a b) q

turn_next : (k : ℕ) (a b : Element) → turn (suc k) a b ≡ turn k b a
turn_next k a b = go (eqb (k % 2) 0) refl
  where
    go : (t : Bool) → eqb (k % 2) 0 ≡ t → turn (suc k) a b ≡ turn k b a
    go true q =
        let z : k % 2 ≡ 0 = eqb-true (k % 2) 0 q in
        let o : suc k % 2 ≡ 0 → ⊥ = λ h. omega arith in
        rw (q, ne_eqb (suc k % 2) 0 o)
    go false q =
        let z : k % 2 ≡ 0 → ⊥ = eqb-false (k % 2) 0 q in
        let o : suc k % 2 ≡ 0 = omega arith in
        rw (q, eq-eqb (suc k % 2) 0 o)

press_at : (n : ℕ) (e : KeptEvent) (d : Element) (k : ℕ) → k < 2 * n
    → get_or (release_press n e) k d ≡ turn k (element (e.code + 1) false e) (element e.code true e)
unfolding release_press
press_at zero e d k l = absurd (omega arith)
press_at (suc n) e d zero l = refl
press_at (suc n) e d (suc zero) l = refl
press_at (suc n) e d (suc (suc k)) l =
    press_at n e d k (omega arith) ∙ sym (turn_on k (element (e.code + 1) false e) (element e.code true e))

release_at : (n : ℕ) (e : KeptEvent) (d : Element) (k : ℕ) → k < 2 * n
    → get_or (press_release n e) k d ≡ turn k (element (e.code - 1) false e) (element e.code true e)
unfolding press_release
release_at zero e d k l = absurd (omega arith)
release_at (suc n) e d zero l = refl
release_at (suc n) e d (suc zero) l = refl
release_at (suc n) e d (suc (suc k)) l =
    release_at n e d k (omega arith) ∙ sym (turn_on k (element (e.code - 1) false e) (element e.code true e))

-- ---- By place

-- element k of an event at a count
abbrev pub element_by : ℕ → KeptEvent → ℕ → Element
element_by n e k = element (element_code e.code n k) (is_timed e.code n k) e

release_code : (c : ℕ) → is_release c ≡ true → 1 ≤ c
release_code zero q = absurd (false≢true q)
release_code (suc c) q = omega arith

-- a press at an even place, a release at an odd one
abbrev later : ℕ → KeptEvent → ℕ → Element
later other e k =
    element (cond (eqb (k % 2) 0) e.code other) (eqb (cond (eqb (k % 2) 0) e.code other) e.code) e

later_turn : (other : ℕ) (e : KeptEvent) (k : ℕ) → (other ≡ e.code → ⊥)
    → turn k (element e.code true e) (element other false e) ≡ later other e k
later_turn other e k n = go (eqb (k % 2) 0)
  where
    go : (t : Bool)
        → cond t (element e.code true e) (element other false e)
        ≡ element (cond t e.code other) (eqb (cond t e.code other) e.code) e
    go true = rw (eq-eqb e.code e.code refl)
    go false = rw (ne_eqb other e.code n)

-- a press at an odd place, a release at an even one
abbrev sooner : ℕ → KeptEvent → ℕ → Element
sooner other e k =
    element (cond (eqb (k % 2) 0) other e.code) (eqb (cond (eqb (k % 2) 0) other e.code) e.code) e

sooner_turn : (other : ℕ) (e : KeptEvent) (k : ℕ) → (other ≡ e.code → ⊥)
    → turn k (element other false e) (element e.code true e) ≡ sooner other e k
sooner_turn other e k n = go (eqb (k % 2) 0)
  where
    go : (t : Bool)
        → cond t (element other false e) (element e.code true e)
        ≡ element (cond t other e.code) (eqb (cond t other e.code) e.code) e
    go true = rw (ne_eqb other e.code n)
    go false = rw (eq-eqb e.code e.code refl)

module _ (n : ℕ) (e : KeptEvent) (d : Element) (q : leb n 1 ≡ false) where
  counted_press_lem : is_release e.code ≡ false → (k : ℕ) → k < 2 * n - 1 → get_or (counted_press n e) k d ≡ element_by n e k
  unfolding element_code is_timed releases
  counted_press_lem r zero l = rw (q, r)
  counted_press_lem r (suc zero) l = rw (press_at (n - 1) e d zero (omega arith), q, r)
  counted_press_lem r (suc (suc k)) l =
      let o : e.code + 1 ≡ e.code → ⊥ = λ h. omega arith in
      let w : later (e.code + 1) e (suc (suc k)) ≡ element_by n e (suc (suc k)) = rw (q, r, le-ltb (suc (suc k)) 2 (omega arith)) in
      press_at (n - 1) e d (suc k) (omega arith)
      ∙ sym (turn_next (suc k) (element e.code true e) (element (e.code + 1) false e))
      ∙ later_turn (e.code + 1) e (suc (suc k)) o
      ∙ w

  counted_release_lem : is_release e.code ≡ true → (k : ℕ) → k < 2 * n → get_or (counted_release n e) k d ≡ element_by n e k
  unfolding element_code is_timed releases
  counted_release_lem r zero l = rw (q, r)
  counted_release_lem r (suc zero) l = rw (q, r)
  counted_release_lem r (suc (suc k)) l =
      let c : 1 ≤ e.code = release_code e.code r in
      let o : e.code - 1 ≡ e.code → ⊥ = λ h. omega arith in
      let w : sooner (e.code - 1) e (suc (suc k)) ≡ element_by n e (suc (suc k)) = rw (q, r, le-ltb (suc (suc k)) 2 (omega arith)) in
      release_at (n - 1) e d k (omega arith)
      ∙ sym (turn_on k (element (e.code - 1) false e) (element e.code true e))
      ∙ sooner_turn (e.code - 1) e (suc (suc k)) o
      ∙ w

  counted : (k : ℕ) → k < cond (is_release e.code) (2 * n) (2 * n - 1)
      → get_or (cond (is_release e.code) (counted_release n e) (counted_press n e)) k d ≡ element_by n e k
  counted k = go (is_release e.code) refl
    where
      go : (b : Bool) → is_release e.code ≡ b → k < cond b (2 * n) (2 * n - 1)
          → get_or (cond b (counted_release n e) (counted_press n e)) k d ≡ element_by n e k
      go true r l = counted_release_lem r k l
      go false r l = counted_press_lem r k l

single : (n : ℕ) (e : KeptEvent) (d : Element) → leb n 1 ≡ true → (k : ℕ) → k < 1
    → get_or (element e.code false e ∷ []) k d ≡ element_by n e k
unfolding element_code is_timed
single n e d q zero l = rw q
single n e d q (suc k) l = absurd (omega arith)

pub element_at : (n : ℕ) (e : KeptEvent) (d : Element) (k : ℕ) → k < element_count e.code n
    → get_or (elements_at n e) k d ≡ element_by n e k
unfolding elements_at element_count releases
element_at n e d k = go (leb n 1) refl
  where
    go : (b : Bool) → leb n 1 ≡ b → k < cond b 1 (cond (is_release e.code) (2 * n) (2 * n - 1))
        → get_or (cond b (element e.code false e ∷ []) (cond (is_release e.code) (counted_release n e) (counted_press n e))) k d
        ≡ element_by n e k
    go true q l = single n e d q k l
    go false q l = counted n e d q k l

-- only an element that stands at the third place or later is timed
pub timed_later : (code count k : ℕ) → is_timed code count k ≡ true → 2 ≤ k
unfolding is_timed
timed_later code count k q = go (ltb k 2) refl
  where
    go : (b : Bool) → ltb k 2 ≡ b → 2 ≤ k
    go true h =
        absurd (false≢true (ap (λ (t : Bool). cond t false (eqb (element_code code count k) code)) (sym h) ∙ q))
    go false h = ltb-false k 2 h
