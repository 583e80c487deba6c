-- Each event belongs to the selections it ended and, once it is replaced, to no later one.
use Prim.Native.Nat.{ℕ, zero, suc, pred, ◌+◌, ◌≤◌, ◌<◌}
use native.Mathlib.Omega.{arith}
use borrow.Author.Tests.{eq-eqb}
use mathlib.Core.Path.{◌≡◌, refl, sym, ap, ◌∙◌, subst}
use mathlib.Core.Logic.{◌⊎◌, inl, inr, ⊎_elim}
use mathlib.Core.Bool.{true, false≢true}
use Rattle.std.specs.Prelude.{Option, None, Some}
use mathlib.Core.List.{List, [], ◌∷◌, ◌++◌, Memᴰ}
use lib.Dec.{eqb}
use lib.ListN.{length, take, drop}
use lib.Seq.{length-take-le}
use Rattle.model.specs.Lists.{given}
use Rattle.model.specs.Selection.{Reading, Standing, at_first, ends_in, left_for, context_at, selected_at, takes_place, hears, hears_all, standing, heard_from, context_events}
use Rattle.machine.specs.Replaced.{EachBelongs}
use Rattle.machine.proofs.Lists.{ends_snoc, ends_drop}
use Rattle.machine.proofs.Every.{Every, every_snoc, every_drop, every_take, every_mono, every_in, every_self}
use Rattle.machine.proofs.Apart.{Sound, sound_first, sound_all, on_left, stands_later}

module _ {E : Type 0} (R : Reading E) where
  -- ---- The last event

  -- the latest heard event stands at the last place, and its number counts the heard events
  record Numbered (many : ℕ) (a : Standing E) : Type 0 where
    number : a.number ≡ many
    latest : 0 < many → ends_in (eqb many) a.numbers ≡ true

  numbered_hears : (many : ℕ) (a : Standing E) (x : E) → a.number ≡ many → Numbered (suc many) (hears R a x)
  unfolding hears left_for
  numbered_hears many a x e = go (left_for R a x) (on_left R (λ b. b.number ≡ many) a x e (λ l. e))
    where
      go : (b : Standing E) → b.number ≡ many → Numbered (suc many) (takes_place R b x)
      go b q =
          record {
            number = ap suc q;
            latest = λ l. ends_snoc (eqb (suc many)) b.numbers (suc b.number) ∙ eq-eqb (suc many) (suc b.number) (ap suc (sym q));
          }

  numbered_all : (many : ℕ) (a : Standing E) (xs : List E) → Numbered many a → Numbered (many + length xs) (hears_all R a xs)
  unfolding hears_all
  numbered_all many a [] n = let e : many + 0 ≡ many = omega arith in rw e n
  numbered_all many a (x ∷ xs) n =
      let e : many + suc (length xs) ≡ suc many + length xs = omega arith in
      rw e (numbered_all (suc many) (hears R a x) xs (numbered_hears many a x n.number))

  numbered_first : Numbered 0 at_first
  numbered_first = record { number = refl; latest = λ l. absurd (omega arith) }

  -- after heard event i
  numbered_at : (xs : List E) (i : ℕ) → i ≤ length xs → Numbered i (standing R (take i xs))
  numbered_at xs i l =
      let e : 0 + length (take i xs) ≡ i = omega (arith, length-take-le i xs l) in
      subst (λ (n : ℕ). Numbered n (standing R (take i xs))) e (numbered_all 0 at_first (take i xs) numbered_first)

  -- something is selected only where a context is open
  Held : Standing E → Type 0
  Held a = given a.selected ≡ true → given a.context ≡ true

  held_hears : (a : Standing E) (x : E) → Held (hears R a x)
  unfolding hears Held
  held_hears a x = go ((left_for R a x).history ++ (x ∷ [])) (context_at R ((left_for R a x).history ++ (x ∷ [])) (left_for R a x))
    where
      go : (h : List E) (c : Option ℕ) → given (selected_at R h c) ≡ true → given c ≡ true
      go h None e = e
      go h (Some s) e = refl

  held_all : (a : Standing E) (xs : List E) → Held a → Held (hears_all R a xs)
  unfolding hears_all
  held_all a [] m = m
  held_all a (x ∷ xs) m = held_all (hears R a x) xs (held_hears a x)

  held_first : Held at_first
  unfolding Held
  held_first = λ e. e

  context_ends : (a : Standing E) (n : ℕ) → Sound R a → ends_in (eqb n) a.numbers ≡ true → given a.context ≡ true
      → ends_in (eqb n) (context_events a) ≡ true
  context_ends a n s e g = go a.context refl g
    where
      go : (c : Option ℕ) → a.context ≡ c → given c ≡ true → ends_in (eqb n) (heard_from a.numbers c) ≡ true
      go None q z = absurd (false≢true z)
      go (Some v) q z =
          let w = s.within v q in
          ends_drop (eqb n) a.numbers (pred v) (omega (arith, w.0, w.1, s.paired)) ∙ e

  selected_some : (xs : List E) (i : ℕ) → i ≤ length xs → given (standing R (take i xs)).selected ≡ true → 0 < i
  unfolding hears_all
  selected_some xs zero l g = absurd (false≢true g)
  selected_some xs (suc i) l g = omega arith

  ended : (xs : List E) (i : ℕ) → i ≤ length xs → given (standing R (take i xs)).selected ≡ true
      → ends_in (eqb i) (context_events (standing R (take i xs))) ≡ true
  unfolding Held
  ended xs i l g =
      context_ends (standing R (take i xs)) i (sound_all R at_first (take i xs) (sound_first R))
      ((numbered_at xs i l).latest (selected_some xs i l g)) (held_all at_first (take i xs) held_first g)

  -- ---- Events that are gone

  -- what stands in the history stood there before, or was heard since
  Since : List ℕ → ℕ → Standing E → Type 0
  Since old m a = (m ≤ a.number) × Every (λ n. Memᴰ n old ⊎ (m < n)) a.numbers

  since_hears : (old : List ℕ) (m : ℕ) (a : Standing E) (x : E) → Since old m a → Since old m (hears R a x)
  unfolding hears Since
  since_hears old m a x s =
      let b = left_for R a x in
      let t = on_left R (Since old m) a x s
      (λ l. (s.0, every_take (λ n. Memᴰ n old ⊎ (m < n)) (pred (length a.numbers)) s.1)) in (
        omega (arith, t.0),
        every_snoc (λ n. Memᴰ n old ⊎ (m < n)) t.1 (inr (omega (arith, t.0))),
      )

  since_all : (old : List ℕ) (m : ℕ) (a : Standing E) (xs : List E) → Since old m a → Since old m (hears_all R a xs)
  unfolding hears_all
  since_all old m a [] s = s
  since_all old m a (x ∷ xs) s = since_all old m (hears R a x) xs (since_hears old m a x s)

  since_context : (old : List ℕ) (m : ℕ) (a : Standing E) → Since old m a → (c : Option ℕ)
      → Every (λ n. Memᴰ n old ⊎ (m < n)) (heard_from a.numbers c)
  unfolding Since
  since_context old m a s None = Every.empty
  since_context old m a s (Some v) = every_drop (λ n. Memᴰ n old ⊎ (m < n)) (pred v) s.1

  gone : (xs : List E) (i j n : ℕ) → i ≤ j → j ≤ length xs → n ≤ i → (Memᴰ n (standing R (take i xs)).numbers → ⊥)
      → Memᴰ n (context_events (standing R (take j xs))) → ⊥
  unfolding Since
  gone xs i j n l k b f m =
      let a = standing R (take i xs) in
      let c = standing R (take j xs) in
      let e = (numbered_at xs i (omega arith)).number in
      let start : Since a.numbers i a = (
        omega arith,
        every_mono (λ v. Memᴰ v a.numbers) (λ v. Memᴰ v a.numbers ⊎ (i < v)) (λ v p. inl p) (every_self a.numbers),
      ) in
      let now : Since a.numbers i c
      = rw (stands_later R xs i j l) (since_all a.numbers i a (drop i (take j xs)) start) in
      ⊎_elim f (λ (q : i < n). omega arith)
      (every_in (λ v. Memᴰ v a.numbers ⊎ (i < v)) (since_context a.numbers i c now c.context) m)

pub each_belongs : EachBelongs
each_belongs E R xs = record { ended = ended R xs; gone = gone R xs }
