-- The events of two selections start at the same event or have none in common. This is about the rules alone.
use Prim.Native.Nat.{ℕ, zero, suc, pred, ◌+◌, ◌-◌, ◌≤◌, ◌<◌}
use native.Mathlib.Omega.{arith}
use native.Mathlib.Nat.{eq-or-lt_of_le}
use mathlib.Core.Path.{◌≡◌, refl, sym, ap, ◌∙◌}
use mathlib.Core.Logic.{◌⊎◌, inl, inr, ⊎_elim}
use mathlib.Core.Bool.{Bool, true, false, cond}
use Rattle.std.specs.Prelude.{Option, None, Some}
use mathlib.Core.List.Memᴰ
use mathlib.Core.List.{List, [], ◌∷◌, ◌++◌}
use lib.ListN.{length, take, drop, take-append-drop, length-drop}
use lib.Seq.{drop-length, drop-append-le, take-take}
use Rattle.model.specs.Lists.{given, beginning}
use Rattle.model.specs.Selection.{Reading, Standing, at_first, ends_in, without_last, falls_back, closed_at, fallen, smallest, last_of, replaces, left_for, goes_on, after, new_start, context_at, selected_at, takes_place, hears, hears_all, standing, heard_from, context_events}
use Rattle.model.specs.Demand.{Apart}
use Rattle.machine.proofs.Every.{Every, every_snoc, every_drop, every_take, every_mono, every_in, every_after}
use Rattle.machine.proofs.Falls.{falls_at, falls_below, falls_within, closed_below}
use Rattle.machine.proofs.Lists.{length_snoc, length_without, drop_without, ends_some}
use Rattle.machine.proofs.Tests.{and_right}
use Rattle.machine.proofs.Track.{hears_append}

module _ {A : Type 0} where
  begins_snoc : (xs : List A) (x : A) → 0 < length xs → beginning (xs ++ (x ∷ [])) ≡ beginning xs
  begins_snoc [] x l = absurd (omega arith)
  begins_snoc (y ∷ ys) x l = refl

  begins_less : (xs : List A) → 1 < length xs → beginning (without_last xs) ≡ beginning xs
  begins_less [] l = absurd (omega arith)
  begins_less (x ∷ []) l = absurd (omega arith)
  begins_less (x ∷ y ∷ ys) l = refl

-- ---- What always holds

smallest_from : (f : ℕ → Bool) (n k s : ℕ) → smallest f n k ≡ Some s → (n ≤ s) × (s < n + k)
unfolding smallest
smallest_from f n zero s e = let z : ◌≡◌ {A = ℕ} 0 1 = cc in absurd (omega arith)
smallest_from f n (suc k) s e = go (f n) refl (smallest_from f (suc n) k s)
  where
    go : (b : Bool) → f n ≡ b → (smallest f (suc n) k ≡ Some s → (suc n ≤ s) × (s < suc n + k)) → (n ≤ s) × (s < n + suc k)
    go true q later = let z : n ≡ s = cc in (omega arith, omega arith)
    go false q later =
        let z : smallest f (suc n) k ≡ Some s = cc in let l = later z in (omega (arith, l.0), omega (arith, l.1))

module _ {E : Type 0} (R : Reading E) where
  -- every place has a number, up to that of the latest heard event, and marks lie within the history
  pub record Sound (a : Standing E) : Type 0 where
    pub paired : length a.numbers ≡ length a.history
    pub last≤ : a.last ≤ length a.history
    pub within : (s : ℕ) → a.context ≡ Some s → (0 < s) × (s ≤ length a.history)
    pub most : Every (λ n. n ≤ a.number) a.numbers

  pub sound_first : Sound at_first
  sound_first = record { paired = refl; last≤ = omega arith; within = λ s e. absurd (no s e); most = Every.empty }
    where
      no : (s : ℕ) → ◌≡◌ {A = Option ℕ} None (Some s) → ⊥
      no s e = let z : ◌≡◌ {A = ℕ} 0 1 = cc in omega arith

  module _ (a : Standing E) (s : Sound a) (p : 0 < length a.history) where
    fewer : length (without_last a.history) ≡ pred (length a.history)
    fewer = length_without a.history

    sound_fallen : Sound (fallen a)
    sound_fallen =
        record {
          paired = length_without a.numbers ∙ ap pred s.paired ∙ sym fewer;
          last≤ = omega (arith, fewer, falls_within (length a.history) a.last s.last≤ p);
          within = λ v e.
              let c = closed_below (length a.history) a.context v e in
              let w = s.within v c.0 in
              (w.0, ⊎_elim (λ (q : v ≡ length a.history). absurd (c.1 q)) (λ (q : v < length a.history). omega (arith, fewer)) (eq-or-lt_of_le w.1));
          most = every_take (λ n. n ≤ a.number) (pred (length a.numbers)) s.most;
        }

  module _ (a : Standing E) (x : E) where
    abbrev h : List E
    h = a.history ++ (x ∷ [])

    -- a context that is open goes on from where it began, or begins after both marks
    context_from : (s : ℕ) → context_at R h a ≡ Some s → (a.context ≡ Some s) ⊎ ((after R a < s) × (s ≤ length h))
    context_from s e = go (goes_on R h a.context) refl
      where
        go : (b : Bool) → goes_on R h a.context ≡ b → (a.context ≡ Some s) ⊎ ((after R a < s) × (s ≤ length h))
        go true q = inl (ap (λ b. cond b a.context (new_start R h a)) (sym q) ∙ e)
        go false q =
            let n : new_start R h a ≡ Some s = ap (λ b. cond b a.context (new_start R h a)) (sym q) ∙ e in
            let l = smallest_from (λ v. R.prefix (drop (pred v) h)) (suc (after R a)) (length h - after R a) s n in
            inr (l.0, omega (arith, l.0, l.1))

    last_within : (o : Option ℕ) (n : ℕ) → n ≤ length h → last_of (length h) o n ≤ length h
    last_within None n l = l
    last_within (Some p) n l = omega arith

    sound_takes : Sound a → Sound (takes_place R a x)
    sound_takes s =
        let n = length_snoc a.history x in
        record {
          paired = length_snoc a.numbers (suc a.number) ∙ ap suc s.paired ∙ sym n;
          last≤ = last_within (selected_at R h (context_at R h a)) a.last (omega (arith, s.last≤));
          within = λ v e.
              ⊎_elim
              (λ (q : a.context ≡ Some v). let w = s.within v q in (w.0, omega (arith, w.1)))
              (λ q. (omega (arith, q.0), q.1))
              (context_from v e);
          most =
              every_snoc (λ i. i ≤ suc a.number)
              (every_mono (λ i. i ≤ a.number) (λ i. i ≤ suc a.number) (λ i l. omega arith) s.most) (omega arith);
        }

  -- what holds of a standing holds of what is left of it for an event, if it does with its last place gone
  pub on_left :
      (P : Standing E → Type 0) (a : Standing E) (x : E) → P a → (0 < length a.history → P (fallen a)) → P (left_for R a x)
  unfolding left_for
  on_left P a x p f = go (replaces R a x) refl
    where
      go : (b : Bool) → replaces R a x ≡ b → P (cond b (fallen a) a)
      go true q = f (ends_some R.motion a.history (and_right (R.motion x) (ends_in R.motion a.history) q))
      go false q = p

  pub sound_all : (a : Standing E) (xs : List E) → Sound a → Sound (hears_all R a xs)
  unfolding hears_all hears
  sound_all a [] s = s
  sound_all a (x ∷ xs) s =
      sound_all (hears R a x) xs (sound_takes (left_for R a x) x (on_left Sound a x s (sound_fallen a s)))

  -- at a selection the mark is at the last place
  abbrev Marked : Standing E → Type 0
  Marked a = given a.selected ≡ true → a.last ≡ length a.history

  marked_hears : (a : Standing E) (x : E) → Marked (hears R a x)
  unfolding hears
  marked_hears a x = go (left_for R a x) (selected_at R (h (left_for R a x) x) (context_at R (h (left_for R a x) x) (left_for R a x)))
    where
      go : (b : Standing E) (o : Option ℕ) → given o ≡ true → last_of (length (h b x)) o b.last ≡ length (h b x)
      go b None e = let z : ◌≡◌ {A = ℕ} 0 1 = cc in absurd (omega arith)
      go b (Some p) e = refl

  marked_all : (a : Standing E) (xs : List E) → Marked a → Marked (hears_all R a xs)
  unfolding hears_all
  marked_all a [] m = m
  marked_all a (x ∷ xs) m = marked_all (hears R a x) xs (marked_hears a x)

  -- ---- After a selection

  -- of events `these`, the latest of which was heard as number m
  record Past (these : List ℕ) (m : ℕ) (a : Standing E) : Type 0 where
    sound : Sound a
    bound : m ≤ a.number
    -- what lies after the last selection was heard later
    later : Every (λ n. m < n) (drop a.last a.numbers)
    -- and so was all of an open context that does not begin as they do
    begins :
        (s : ℕ) → a.context ≡ Some s
        → (beginning these ≡ beginning (drop (pred s) a.numbers)) ⊎ Every (λ n. m < n) (drop (pred s) a.numbers)

  module _ (these : List ℕ) (m : ℕ) where
    module _ (a : Standing E) (r : Past these m a) (p : 0 < length a.history) where
      later_fallen : Every (λ n. m < n) (drop (falls_back (length a.history) a.last) (without_last a.numbers))
      later_fallen =
          ⊎_elim
          (λ (q : a.last ≡ length a.history).
          let e : falls_back (length a.history) a.last ≡ length (without_last a.numbers)
          = falls_at (length a.history) a.last q ∙ ap pred (sym r.sound.paired) ∙ sym (length_without a.numbers) in
          rw (e, drop-length (without_last a.numbers)) Every.empty)
          (λ (q : a.last < length a.history).
          rw (
            falls_below (length a.history) a.last q,
            drop_without a.numbers a.last (omega (arith, r.sound.paired)),
          )
          (every_take (λ n. m < n) (pred (length (drop a.last a.numbers))) r.later))
          (eq-or-lt_of_le r.sound.last≤)

      begins_fallen :
          (s : ℕ) → closed_at (length a.history) a.context ≡ Some s
          → (beginning these ≡ beginning (drop (pred s) (without_last a.numbers)))
          ⊎ Every (λ n. m < n) (drop (pred s) (without_last a.numbers))
      begins_fallen s e =
          let c = closed_below (length a.history) a.context s e in
          let w = r.sound.within s c.0 in
          let l : s < length a.history
          = ⊎_elim (λ (q : s ≡ length a.history). absurd (c.1 q)) (λ (q : s < length a.history). q) (eq-or-lt_of_le w.1) in
          let g : pred s < length a.numbers = omega (arith, r.sound.paired) in
          let two : 1 < length (drop (pred s) a.numbers) = omega (arith, w.0, r.sound.paired, length-drop (pred s) a.numbers) in
          rw (drop_without a.numbers (pred s) g)
          (⊎_elim
          (λ q. inl (q ∙ sym (begins_less (drop (pred s) a.numbers) two)))
          (λ q. inr (every_take (λ n. m < n) (pred (length (drop (pred s) a.numbers))) q))
          (r.begins s c.0))

      past_fallen : Past these m (fallen a)
      past_fallen =
          record { sound = sound_fallen a r.sound p; bound = r.bound; later = later_fallen; begins = begins_fallen }

    module _ (a : Standing E) (x : E) (r : Past these m a) where
      abbrev numbered : List ℕ
      numbered = a.numbers ++ (suc a.number ∷ [])

      later_now : Every (λ n. m < n) (drop a.last numbered)
      later_now =
          rw (drop-append-le a.last a.numbers (suc a.number ∷ []) (omega (arith, r.sound.last≤, r.sound.paired)))
          (every_snoc (λ n. m < n) r.later (omega (arith, r.bound)))

      later_takes : (o : Option ℕ) → Every (λ n. m < n) (drop (last_of (length (h a x)) o a.last) numbered)
      later_takes None = later_now
      later_takes (Some p) =
          let e : length (h a x) ≡ length numbered
          = omega (arith, r.sound.paired, length_snoc a.history x, length_snoc a.numbers (suc a.number)) in
          rw (e, drop-length numbered) Every.empty

      begins_takes :
          (s : ℕ) → context_at R (h a x) a ≡ Some s
          → (beginning these ≡ beginning (drop (pred s) numbered)) ⊎ Every (λ n. m < n) (drop (pred s) numbered)
      begins_takes s e = ⊎_elim goes starts (context_from a x s e)
        where
          goes : a.context ≡ Some s
              → (beginning these ≡ beginning (drop (pred s) numbered)) ⊎ Every (λ n. m < n) (drop (pred s) numbered)
          goes q =
              let w = r.sound.within s q in
              let g : pred s < length a.numbers = omega (arith, w.0, w.1, r.sound.paired) in
              let Some : 0 < length (drop (pred s) a.numbers) = omega (arith, length-drop (pred s) a.numbers) in
              rw (drop-append-le (pred s) a.numbers (suc a.number ∷ []) (omega arith))
              (⊎_elim
              (λ i. inl (i ∙ sym (begins_snoc (drop (pred s) a.numbers) (suc a.number) Some)))
              (λ i. inr (every_snoc (λ n. m < n) i (omega (arith, r.bound))))
              (r.begins s q))

          starts : (after R a < s) × (s ≤ length (h a x))
              → (beginning these ≡ beginning (drop (pred s) numbered)) ⊎ Every (λ n. m < n) (drop (pred s) numbered)
          starts q = inr (every_after (λ n. m < n) a.last (pred s) numbered (omega (arith, q.0)) later_now)

      past_takes : Past these m (takes_place R a x)
      past_takes =
          record {
            sound = sound_takes a x r.sound;
            bound = omega (arith, r.bound);
            later = later_takes (selected_at R (h a x) (context_at R (h a x) a));
            begins = begins_takes;
          }

    past_all : (a : Standing E) (xs : List E) → Past these m a → Past these m (hears_all R a xs)
    unfolding hears_all hears
    past_all a [] r = r
    past_all a (x ∷ xs) r =
        past_all (hears R a x) xs (past_takes (left_for R a x) x (on_left (Past these m) a x r (past_fallen a r)))

  -- ---- Two selections

  past_selection : (a : Standing E) → Sound a → Marked a → given a.selected ≡ true → Past (context_events a) a.number a
  past_selection a s m g =
      record {
        sound = s;
        bound = omega arith;
        later =
            let e : a.last ≡ length a.numbers = m g ∙ sym s.paired in
            rw (e, drop-length a.numbers) Every.empty;
        begins = λ v e. inl (ap (λ c. beginning (heard_from a.numbers c)) e);
      }

  most_context : (a : Standing E) → Sound a → (c : Option ℕ) → Every (λ n. n ≤ a.number) (heard_from a.numbers c)
  most_context a s None = Every.empty
  most_context a s (Some v) = every_drop (λ n. n ≤ a.number) (pred v) s.most

  past_apart :
      (these : List ℕ) (m : ℕ) (b : Standing E) → Every (λ n. n ≤ m) these → Past these m b → Apart these (context_events b)
  past_apart these m b few r = go b.context refl
    where
      go : (c : Option ℕ) → b.context ≡ c → Apart these (heard_from b.numbers c)
      go None e = inr (λ n i j. absurd (Memᴰ.not-nil j))
      go (Some s) e =
          ⊎_elim
          (λ q. inl q)
          (λ q. inr (λ n i j. let u = every_in (λ k. k ≤ m) few i in let v = every_in (λ k. m < k) q j in omega arith))
          (r.begins s e)

  -- what stands after later events comes of what stood after earlier ones
  pub stands_later :
      (xs : List E) (i j : ℕ) → i ≤ j → standing R (take j xs) ≡ hears_all R (standing R (take i xs)) (drop i (take j xs))
  stands_later xs i j l =
      let parts : take j xs ≡ take i xs ++ drop i (take j xs)
      = sym (take-append-drop i (take j xs)) ∙ ap (λ ys. ys ++ drop i (take j xs)) (take-take i j xs l) in
      ap (hears_all R at_first) parts ∙ hears_append R at_first (take i xs) (drop i (take j xs))

  pub apart :
      (xs : List E) (i j : ℕ) → i ≤ j → given (standing R (take i xs)).selected ≡ true
      → Apart (context_events (standing R (take i xs))) (context_events (standing R (take j xs)))
  apart xs i j l g =
      let a = standing R (take i xs) in
      let s = sound_all at_first (take i xs) sound_first in
      let m = marked_all at_first (take i xs) (λ e. let z : ◌≡◌ {A = ℕ} 0 1 = cc in absurd (omega arith)) in
      rw (stands_later xs i j l)
      (past_apart (context_events a) a.number (hears_all R a (drop i (take j xs))) (most_context a s a.context)
      (past_all (context_events a) a.number a (drop i (take j xs)) (past_selection a s m g)))
