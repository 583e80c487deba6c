-- The matcher keeps of the history what the rules of selection need of it: after every heard event its state stands for what the
-- rules say, and it selects what they name.
use Prim.Native.Nat.{ℕ, zero, suc, pred, max, ◌+◌, ◌-◌, ◌≤◌, ◌<◌}
use native.Mathlib.Omega.{arith}
use native.Mathlib.Nat.{eq-or-lt_of_le}
use borrow.Author.Tests.{eq-eqb, ne_eqb}
use mathlib.Core.Logic.{◌⊎◌, inl, inr, ⊎_elim}
use mathlib.Core.Path.{◌≡◌, refl, sym, ap, ap₂, ◌∙◌}
use mathlib.Core.Bool.{Bool, true, false, cond, ◌&&◌, false≢true}
use Rattle.std.specs.Prelude.{Option, None, Some}
use mathlib.Core.List.{List, [], ◌∷◌, ◌++◌}
use lib.ListN.{length, drop, length-drop}
use lib.Seq.{drop-length, drop-append-le, drop-drop}
use Rattle.model.specs.Selection.{Reading, Standing, at_first, ends_in, without_last, falls_back, fallen, smallest, left_for, after, context_at, selected_at, stands, hears, hears_all}
use Rattle.machine.specs.Kept.{Kept, fresh, shortened, left, longest_end, grown, used_up, unused, reopened, moved, chosen_in, choice, marked, kept, kept_all}
use Rattle.machine.proofs.Tests.{and_right}
use Rattle.machine.proofs.Falls.{falls_at, falls_below, falls_within, falls_alike}
use Rattle.machine.proofs.Lists.{drop_one, length_snoc, without_snoc, length_without, drop_without, ends_snoc, ends_some, ends_drop}

-- ---- Starts

-- starts that fail the test are passed over
skip_dead :
    (f : ℕ → Bool) (low mid k j : ℕ) → low ≤ mid → mid + j ≡ low + k → ((n : ℕ) → low < n → n ≤ mid → f n ≡ false)
    → smallest f (suc low) k ≡ smallest f (suc mid) j
unfolding smallest
skip_dead f low mid zero j l e d =
    let q : j ≡ 0 = omega arith in rw q
skip_dead f low mid (suc k) j l e d =
    ⊎_elim
    (λ (p : low ≡ mid). let q : j ≡ suc k = omega arith in rw (p, q))
    (λ (p : low < mid). rw (d (suc low) (omega arith) p) (skip_dead f (suc low) mid k j p (omega arith) (λ n u v. d n (omega arith) v)))
    (eq-or-lt_of_le l)

module _ {E : Type 0} (R : Reading E) where
  pub longest_yes : (xs : List E) → R.prefix xs ≡ true → longest_end R xs ≡ xs
  unfolding longest_end
  longest_yes [] p = refl
  longest_yes (x ∷ xs) p = rw p

  pub longest_no : (xs : List E) {x : E} {ys : List E} → R.prefix xs ≡ false → xs ≡ x ∷ ys → longest_end R xs ≡ longest_end R ys
  unfolding longest_end
  longest_no xs {x} {ys} p e = rw e (rw (rw e at p))

  -- no start between the two reads as a prefix
  abbrev Dead : List E → ℕ → ℕ → Type 0
  Dead xs low high = (n : ℕ) → low < n → n < high → R.prefix (drop (pred n) xs) ≡ false

  -- the smallest start after `low`, and the longest end of what lies after it
  data Opens (xs : List E) (low : ℕ) (o : Option ℕ) (ys : List E) : Type 0 where
    at : (v : ℕ) → low < v → v ≤ length xs → o ≡ Some v → ys ≡ drop (pred v) xs → Opens xs low o ys
    nowhere : o ≡ None → ys ≡ [] → Dead xs low (suc (length xs)) → Opens xs low o ys

  opens_later :
      (xs : List E) (low : ℕ) (o : Option ℕ) (ys : List E) → R.prefix (drop low xs) ≡ false → Opens xs (suc low) o ys
      → Opens xs low o ys
  opens_later xs low o ys p (at v l u e q) = at v (omega arith) u e q
  opens_later xs low o ys p (nowhere e q d) =
      nowhere e q (λ n l u. ⊎_elim (λ (i : suc low ≡ n). rw (← i) p) (λ (i : suc low < n). d n i u) (eq-or-lt_of_le l))

  opens :
      (xs : List E) (low k : ℕ) → low + k ≡ length xs
      → Opens xs low (smallest (λ n. R.prefix (drop (pred n) xs)) (suc low) k) (longest_end R (drop low xs))
  unfolding smallest longest_end
  opens xs low zero e =
      let q : low ≡ length xs = omega arith in
      nowhere refl (rw (q, drop-length)) (λ n l u. absurd (omega arith))
  opens xs low (suc k) e = go (R.prefix (drop low xs)) refl (opens xs (suc low) k (omega arith))
    where
      go : (b : Bool) → R.prefix (drop low xs) ≡ b
          → Opens xs (suc low) (smallest (λ n. R.prefix (drop (pred n) xs)) (suc (suc low)) k) (longest_end R (drop (suc low) xs))
          → Opens xs low (smallest (λ n. R.prefix (drop (pred n) xs)) (suc low) (suc k)) (longest_end R (drop low xs))
      go true p f = at (suc low) (omega arith) (omega arith) (rw p) (longest_yes (drop low xs) p)
      go false p f = rw (p, longest_no (drop low xs) p (drop_one xs low (omega arith)).1) (opens_later xs low _ _ p f)

  -- ---- What a state stands for

  -- the context that is open begins where the kept events do
  record Opened (a : Standing E) (k : Kept E) (start : ℕ) : Type 0 where
    is_open : k.is_open ≡ true
    context : a.context ≡ Some start
    latest : a.latest ≡ start
    within : start ≤ length a.history

  -- None is open, and no start that the rules may take reads as a prefix. Where the last event is a motion, and so may be
  -- replaced, those before the kept events failed without it already.
  record Shut (a : Standing E) (k : Kept E) (start : ℕ) : Type 0 where
    is_open : k.is_open ≡ false
    context : a.context ≡ None
    above : after R a < start
    within : start ≤ suc (length a.history)
    dead : Dead a.history (after R a) (suc (length a.history))
    again :
        ends_in R.motion a.history ≡ true
        → (start ≤ length a.history) × Dead (without_last a.history) (after R a) start

  -- the same before an event takes its place: what is kept may read as a prefix with it, what lies before may not
  record Waiting (a : Standing E) (k : Kept E) (start : ℕ) : Type 0 where
    is_open : k.is_open ≡ false
    context : a.context ≡ None
    above : after R a < start
    within : start ≤ suc (length a.history)
    dead : Dead a.history (after R a) start

  -- the rules say `a`, the matcher keeps `k`
  record StandsFor (Closed : Standing E → Kept E → ℕ → Type 0) (a : Standing E) (k : Kept E) : Type 0 where
    -- the place of the first event that is kept
    start : ℕ
    start>0 : 0 < start
    latest≤ : a.latest ≤ length a.history
    last≤ : a.last ≤ length a.history
    events : k.events ≡ drop (pred start) a.history
    selected : k.selected ≡ suc a.last - start
    which : Opened a k start ⊎ Closed a k start

  abbrev Tracks : Standing E → Kept E → Type 0
  Tracks = StandsFor Shut

  abbrev Ready : Standing E → Kept E → Type 0
  Ready = StandsFor Waiting

  tracks_fresh : Tracks at_first fresh
  unfolding ends_in
  tracks_fresh =
      record {
        start = 1;
        start>0 = omega arith;
        latest≤ = omega arith;
        last≤ = omega arith;
        events = refl;
        selected = refl;
        which =
            inr
            (record {
              is_open = refl;
              context = refl;
              above = omega arith;
              within = omega arith;
              dead = λ n l u. absurd (omega arith);
              again = λ e. let z : ◌≡◌ {A = ℕ} 0 1 = cc in absurd (omega arith);
            });
      }

  -- ---- A motion that takes the place of another

  -- what is kept ends in a motion exactly where the history does
  ends_same : (a : Standing E) (k : Kept E) → Tracks a k → ends_in R.motion k.events ≡ ends_in R.motion a.history
  unfolding ends_in
  ends_same a k r = ⊎_elim (λ o. kept_some o.within) (λ s. by_last s (ends_in R.motion a.history) refl) r.which
    where
      kept_some : r.start ≤ length a.history → ends_in R.motion k.events ≡ ends_in R.motion a.history
      kept_some l = rw r.events (ends_drop R.motion a.history (pred r.start) (omega (arith, r.start>0)))

      kept_none : r.start ≡ suc (length a.history) → ends_in R.motion k.events ≡ false
      kept_none e =
          let n : pred r.start ≡ length a.history = omega arith in
          rw (r.events ∙ ap (λ i. drop i a.history) n ∙ drop-length a.history)

      by_last : Shut a k r.start → (b : Bool) → ends_in R.motion a.history ≡ b
          → ends_in R.motion k.events ≡ ends_in R.motion a.history
      by_last s true e = kept_some (s.again e).0
      by_last s false e =
          ⊎_elim
          (λ (q : r.start ≡ suc (length a.history)). kept_none q ∙ sym e)
          (λ (q : r.start < suc (length a.history)). kept_some (omega arith))
          (eq-or-lt_of_le s.within)

  module _ (a : Standing E) (k : Kept E) (r : Tracks a k) (ends : ends_in R.motion a.history ≡ true) where
    some_place : 0 < length a.history
    some_place = ends_some R.motion a.history ends

    less : suc (length (without_last a.history)) ≡ length a.history
    less = omega (arith, length_without a.history, some_place)

    module _ (l : r.start ≤ length a.history) where
      count : length k.events ≡ suc (length a.history) - r.start
      count = ap length r.events ∙ length-drop (pred r.start) a.history ∙ omega (arith, r.start>0)

      events_less : without_last k.events ≡ drop (pred r.start) (without_last a.history)
      events_less =
          ap without_last r.events ∙ sym (drop_without a.history (pred r.start) (omega (arith, r.start>0)))

      selected_less :
          falls_back (length k.events) k.selected ≡ suc (falls_back (length a.history) a.last) - r.start
      selected_less =
          ap (falls_back (length k.events)) r.selected
          ∙ falls_alike (length a.history) (length k.events) r.start a.last r.last≤ r.start>0 l count

      fallen_with : Opened (fallen a) (shortened R k) r.start ⊎ Waiting (fallen a) (shortened R k) r.start
          → Ready (fallen a) (shortened R k)
      fallen_with w =
          record {
            start = r.start;
            start>0 = r.start>0;
            latest≤ = omega (arith, less, falls_within (length a.history) a.latest r.latest≤ some_place);
            last≤ = omega (arith, less, falls_within (length a.history) a.last r.last≤ some_place);
            events = events_less;
            selected = selected_less;
            which = w;
          }

    fallen_opened : Opened a k r.start → Opened (fallen a) (shortened R k) r.start ⊎ Waiting (fallen a) (shortened R k) r.start
    fallen_opened o =
        ⊎_elim
        (λ (q : r.start ≡ length a.history).
        inr
        (record {
          is_open = rw (o.is_open, eq-eqb (length k.events) 1 (omega (arith, count o.within)));
          context = rw (o.context, eq-eqb r.start (length a.history) q);
          above =
              omega (
                arith,
                falls_within (length a.history) a.latest r.latest≤ some_place,
                falls_within (length a.history) a.last r.last≤ some_place,
              );
          within = omega (arith, less);
          dead = λ n l u.
              let e = falls_at (length a.history) a.latest (o.latest ∙ q) in absurd (omega arith);
        }))
        (λ (q : r.start < length a.history).
        inl
        (record {
          is_open = rw (o.is_open, ne_eqb (length k.events) 1 (λ e. omega (arith, count o.within)));
          context = rw (o.context, ne_eqb r.start (length a.history) (λ e. omega arith));
          latest = falls_below (length a.history) a.latest (omega (arith, o.latest)) ∙ o.latest;
          within = omega (arith, less);
        }))
        (eq-or-lt_of_le o.within)

    fallen_shut : Shut a k r.start → Waiting (fallen a) (shortened R k) r.start
    fallen_shut s =
        let g = s.again ends in
        let b = s.above in
        let e : falls_back (length a.history) a.latest ≡ a.latest
        = falls_below (length a.history) a.latest (omega (arith, g.0)) in
        let f : falls_back (length a.history) a.last ≡ a.last
        = falls_below (length a.history) a.last (omega (arith, g.0)) in
        record {
          is_open = rw s.is_open;
          context = rw s.context;
          above = omega arith;
          within = omega (arith, g.0, less);
          dead = λ n l u. g.1 n (omega arith) u;
        }

    fallen_ok : Ready (fallen a) (shortened R k)
    fallen_ok =
        ⊎_elim
        (λ o. fallen_with o.within (fallen_opened o))
        (λ s. fallen_with (s.again ends).0 (inr (fallen_shut s)))
        r.which

  -- nothing is replaced: a context that is open stays, and otherwise no start before the event matters
  kept_opened : (a : Standing E) (k : Kept E) (r : Tracks a k) → Opened a k r.start → Ready a (cond k.is_open k fresh)
  kept_opened a k r o =
      rw o.is_open
      (record {
        start = r.start;
        start>0 = r.start>0;
        latest≤ = r.latest≤;
        last≤ = r.last≤;
        events = r.events;
        selected = r.selected;
        which = inl (record { is_open = refl; context = o.context; latest = o.latest; within = o.within });
      })

  kept_shut : (a : Standing E) (k : Kept E) (r : Tracks a k) → Shut a k r.start → Ready a (cond k.is_open k fresh)
  kept_shut a k r s =
      rw s.is_open
      (record {
        start = suc (length a.history);
        start>0 = omega arith;
        latest≤ = r.latest≤;
        last≤ = r.last≤;
        events = sym (drop-length a.history);
        selected = omega (arith, r.last≤);
        which =
            inr
            (record {
              is_open = refl;
              context = s.context;
              above = omega (arith, r.latest≤, r.last≤);
              within = omega arith;
              dead = s.dead;
            });
      })

  left_ok : (a : Standing E) (k : Kept E) (x : E) → Tracks a k → Ready (left_for R a x) (left R k x)
  unfolding left_for left
  left_ok a k x r = rw (ends_same a k r) (go (R.motion x && ends_in R.motion a.history) refl)
    where
      go : (b : Bool) → (R.motion x && ends_in R.motion a.history) ≡ b
          → Ready (cond b (fallen a) a) (cond b (shortened R k) (cond k.is_open k fresh))
      go true q = fallen_ok a k r (and_right (R.motion x) (ends_in R.motion a.history) q)
      go false q = ⊎_elim (kept_opened a k r) (kept_shut a k r) r.which

  -- ---- Rule 3

  -- where the context stands after it: over the history h, and where `a` stood before
  data Placed (h : List E) (a : Standing E) (o : Option ℕ) (m : Kept E) : Type 0 where
    opened :
        (v : ℕ) → 0 < v → v ≤ length h → o ≡ Some v → m.is_open ≡ true → m.events ≡ drop (pred v) h
        → m.selected ≡ suc a.last - v → Placed h a o m
    shut :
        (start : ℕ) → o ≡ None → m.is_open ≡ false → m.selected ≡ 0 → m.events ≡ drop (pred start) h
        → after R a < start → start ≤ suc (length h) → Dead h (after R a) (suc (length h))
        → (ends_in R.motion h ≡ true → (start ≤ length h) × Dead (without_last h) (after R a) start) → Placed h a o m

  -- the one law that is asked of a reading: a stretch that reads as a prefix does so without its last event
  abbrev pub Closed : Type 0
  Closed = (x : E) (xs : List E) (y : E) → R.prefix (x ∷ (xs ++ (y ∷ []))) ≡ true → R.prefix (x ∷ xs) ≡ true

  module _ (closed : Closed) where
    dead_on : (x : E) (xs : List E) (y : E) → R.prefix (x ∷ xs) ≡ false → R.prefix (x ∷ (xs ++ (y ∷ []))) ≡ false
    dead_on x xs y f = go (R.prefix (x ∷ (xs ++ (y ∷ [])))) refl
      where
        go : (b : Bool) → R.prefix (x ∷ (xs ++ (y ∷ []))) ≡ b → b ≡ false
        go true q = let r : R.prefix (x ∷ xs) ≡ true = closed x xs y q in cc
        go false q = refl

    -- a start that does not read as a prefix never does so later
    dead_later :
        (xs : List E) (y : E) (n : ℕ) → n < length xs → R.prefix (drop n xs) ≡ false → R.prefix (drop n (xs ++ (y ∷ []))) ≡ false
    dead_later xs y n l f =
        let d = drop_one xs n l in
        rw (drop-append-le n xs (y ∷ []) (omega arith), d.1) (dead_on d.0 (drop (suc n) xs) y (rw d.1 at f))

    module _ (a : Standing E) (k : Kept E) (x : E) (r : Ready a k) where
      abbrev h : List E
      h = a.history ++ (x ∷ [])

      long : length h ≡ suc (length a.history)
      long = length_snoc a.history x

      start_within : r.start ≤ suc (length a.history)
      start_within = ⊎_elim (λ o. let l = o.within in omega arith) (λ w. w.within) r.which

      grown_is : grown R k x ≡ drop (pred r.start) h
      grown_is =
          rw (drop-append-le (pred r.start) a.history (x ∷ []) (omega (arith, start_within)), r.events)

      dead_now : (low : ℕ) → low ≤ length a.history → Dead a.history (after R a) (suc low) → Dead h (after R a) (suc low)
      dead_now low l d n u v = dead_later a.history x (pred n) (omega arith) (d n u v)

      -- the context does not go on: starts after `low` are tried, and those between the marks and it have failed
      module _ (low : ℕ) (lowest : after R a ≤ low) (l : low ≤ length a.history) (d : Dead a.history (after R a) (suc low))
          (tried : context_at R h a ≡ smallest (λ n. R.prefix (drop (pred n) h)) (suc low) (length h - low))
          (rest : unused R k x ≡ drop low h)
          (m : moved R k x ≡ reopened R (R.motion x) (unused R k x) (longest_end R (unused R k x))) where
        restart_at :
            (v : ℕ) → low < v → v ≤ length h → context_at R h a ≡ Some v → longest_end R (unused R k x) ≡ drop (pred v) h
            → Placed h a (context_at R h a) (moved R k x)
        restart_at v u w o e =
            let one = drop_one h (pred v) (omega arith) in
            let q : moved R k x ≡ record { events = one.0 ∷ drop (suc (pred v)) h; selected = 0; is_open = true }
            = m ∙ ap (reopened R (R.motion x) (unused R k x)) (e ∙ one.1) in
            opened v (omega arith) w o (ap (λ y. y.is_open) q) (ap (λ y. y.events) q ∙ sym one.1)
            (ap (λ y. y.selected) q ∙ omega arith)

        dead_all : Dead h low (suc (length h)) → Dead h (after R a) (suc (length h))
        dead_all f n u v = ⊎_elim (λ (q : n ≤ low). dead_now low l d n u (omega arith)) (λ (q : low < n). f n q v) (split n low)
          where
            split : (n low : ℕ) → (n ≤ low) ⊎ (low < n)
            split zero low = inl (omega arith)
            split (suc n) zero = inr (omega arith)
            split (suc n) (suc low) = ⊎_elim (λ (q : n ≤ low). inl (omega arith)) (λ (q : low < n). inr (omega arith)) (split n low)

        restart_none :
            context_at R h a ≡ None → longest_end R (unused R k x) ≡ [] → Dead h low (suc (length h))
            → (b : Bool) → R.motion x ≡ b → Placed h a (context_at R h a) (moved R k x)
        restart_none o e f true b =
            let q : moved R k x ≡ record { events = drop low h; selected = 0; is_open = false }
            = m ∙ ap₂ (λ mv ys. reopened R mv (unused R k x) ys) b e
            ∙ ap (λ ys. reopened R true ys []) rest in
            shut (suc low) o (ap (λ y. y.is_open) q) (ap (λ y. y.selected) q) (ap (λ y. y.events) q) (omega arith)
            (omega (arith, long)) (dead_all f)
            (λ z. (omega (arith, long), rw (without_snoc a.history x) d))
        restart_none o e f false b =
            let q : moved R k x ≡ record { events = []; selected = 0; is_open = false }
            = m ∙ ap₂ (λ mv ys. reopened R mv (unused R k x) ys) b e in
            shut (suc (length h)) o (ap (λ y. y.is_open) q) (ap (λ y. y.selected) q)
            (ap (λ y. y.events) q ∙ sym (drop-length h)) (omega (arith, long)) (omega arith) (dead_all f)
            (λ z. absurd (false≢true (sym b ∙ sym (ends_snoc R.motion a.history x) ∙ z)))

        restart_ok : Placed h a (context_at R h a) (moved R k x)
        restart_ok = go (opens h low (length h - low) (omega (arith, long)))
          where
            go : Opens h low (smallest (λ n. R.prefix (drop (pred n) h)) (suc low) (length h - low)) (longest_end R (drop low h))
                → Placed h a (context_at R h a) (moved R k x)
            go (at v u w o e) = restart_at v u w (tried ∙ o) (ap (longest_end R) rest ∙ e)
            go (nowhere o e f) = restart_none (tried ∙ o) (ap (longest_end R) rest ∙ e) f (R.motion x) refl

      -- a context is open
      placed_opened :
          Opened a k r.start → (b : Bool) → R.prefix (drop (pred r.start) h) ≡ b
          → Placed h a (context_at R h a) (moved R k x)
      unfolding moved
      placed_opened o true f =
          let g : R.prefix (grown R k x) ≡ true = ap R.prefix grown_is ∙ f in
          opened r.start r.start>0 (omega (arith, long, o.within)) (rw (o.context, f)) (rw (o.is_open, g))
          (rw (o.is_open, g) grown_is) (rw (o.is_open, g) r.selected)
      placed_opened o false f =
          let g : R.prefix (grown R k x) ≡ false = ap R.prefix grown_is ∙ f in
          let s = r.selected in
          let t = o.latest in
          let u : used_up R k ≡ max 1 k.selected = rw o.is_open in
          let i : pred r.start + used_up R k ≡ after R a = omega (arith, r.start>0) in
          restart_ok (after R a) (omega arith) (omega (arith, r.latest≤, r.last≤)) (λ n v w. absurd (omega arith))
          (rw (o.context, f))
          (ap (drop (used_up R k)) grown_is ∙ drop-drop (used_up R k) (pred r.start) h ∙ ap (λ n. drop n h) i)
          (rw (o.is_open, g))

      -- none is open
      placed_waiting : Waiting a k r.start → Placed h a (context_at R h a) (moved R k x)
      unfolding moved
      placed_waiting w =
          let b = w.above in
          let p : suc (pred r.start) ≡ r.start = omega (arith, r.start>0) in
          let d : Dead a.history (after R a) (suc (pred r.start)) = λ n u v. w.dead n u (omega arith) in
          restart_ok (pred r.start) (omega arith) (omega (arith, w.within)) d
          (rw w.context
          (skip_dead (λ n. R.prefix (drop (pred n) h)) (after R a) (pred r.start) (length h - after R a)
          (length h - pred r.start) (omega arith) (omega (arith, long, w.within, r.latest≤, r.last≤))
          (λ n u v. dead_now (pred r.start) (omega (arith, w.within)) d n u (omega arith))))
          (rw w.is_open grown_is)
          (rw w.is_open)

      placed : Placed h a (context_at R h a) (moved R k x)
      placed = ⊎_elim (λ o. placed_opened o (R.prefix (drop (pred r.start) h)) refl) placed_waiting r.which

  -- ---- Rule 4

  record Agreed (a : Standing E) (k : Kept E) (o : Option ℕ) : Type 0 where
    tracks : Tracks a k
    agrees : o ≡ a.selected

  module _ (h : List E) (a : Standing E) (m : Kept E) (latest≤ : a.latest ≤ length h) (last≤ : a.last ≤ length h) where
    -- a context from v is open, and o is selected
    tracks_opened :
        (v : ℕ) → 0 < v → v ≤ length h → m.is_open ≡ true → m.events ≡ drop (pred v) h
        → m.selected ≡ suc a.last - v → (o : Option ℕ) → Tracks (stands R h a (Some v) o) (marked R m o)
    tracks_opened v p l i e s None =
        record {
          start = v;
          start>0 = p;
          latest≤ = l;
          last≤ = last≤;
          events = e;
          selected = s;
          which = inl (record { is_open = i; context = refl; latest = refl; within = l });
        }
    tracks_opened v p l i e s (Some q) =
        record {
          start = v;
          start>0 = p;
          latest≤ = l;
          last≤ = omega arith;
          events = e;
          selected = ap length e ∙ length-drop (pred v) h ∙ omega arith;
          which = inl (record { is_open = i; context = refl; latest = refl; within = l });
        }

    finish :
        (c : Option ℕ) → Placed h a c m
        → Agreed (stands R h a c (selected_at R h c)) (marked R m (chosen_in R m)) (chosen_in R m)
    finish c (opened v p l o i e s) =
        let q : chosen_in R m ≡ R.chosen (drop (pred v) h) = rw (i, e) in
        rw (o, q) (record { tracks = tracks_opened v p l i e s (R.chosen (drop (pred v) h)); agrees = refl })
    finish c (shut v o i s e u w d g) =
        let q : chosen_in R m ≡ None = rw i in
        rw (o, q)
        (record {
          tracks = record {
            start = v;
            start>0 = omega arith;
            latest≤ = latest≤;
            last≤ = last≤;
            events = e;
            selected = omega arith;
            which = inr (record { is_open = i; context = refl; above = u; within = w; dead = d; again = g });
          };
          agrees = refl;
        })

  -- ---- Every heard event

  pub kept_snoc : (k : Kept E) (xs : List E) (e : E) → kept_all R k (xs ++ (e ∷ [])) ≡ kept R (kept_all R k xs) e
  unfolding kept_all
  kept_snoc k [] e = refl
  kept_snoc k (x ∷ xs) e = kept_snoc (kept R k x) xs e

  pub hears_append : (a : Standing E) (xs ys : List E) → hears_all R a (xs ++ ys) ≡ hears_all R (hears_all R a xs) ys
  unfolding hears_all
  hears_append a [] ys = refl
  hears_append a (x ∷ xs) ys = hears_append (hears R a x) xs ys

  module _ (closed : Closed) where
    step_ok : (a : Standing E) (k : Kept E) (x : E) → Tracks a k → Agreed (hears R a x) (kept R k x) (choice R k x)
    unfolding hears kept choice
    step_ok a k x r =
        let q = left_ok a k x r in
        let b = left_for R a x in
        let n = length_snoc b.history x in
        finish (b.history ++ (x ∷ [])) b (moved R (left R k x) x) (omega (arith, q.latest≤)) (omega (arith, q.last≤))
        (context_at R (b.history ++ (x ∷ [])) b) (placed closed b (left R k x) x q)

    tracks_all : (a : Standing E) (k : Kept E) (xs : List E) → Tracks a k → Tracks (hears_all R a xs) (kept_all R k xs)
    unfolding hears_all kept_all
    tracks_all a k [] r = r
    tracks_all a k (x ∷ xs) r = tracks_all (hears R a x) (kept R k x) xs (step_ok a k x r).tracks

    -- at every heard event the matcher selects what the rules name
    pub choice_snoc :
        (xs : List E) (e : E) → choice R (kept_all R fresh xs) e ≡ (hears_all R at_first (xs ++ (e ∷ []))).selected
    unfolding hears_all
    choice_snoc xs e =
        (step_ok (hears_all R at_first xs) (kept_all R fresh xs) e (tracks_all at_first fresh xs tracks_fresh)).agrees
        ∙ ap (λ a. a.selected) (sym (hears_append at_first xs (e ∷ [])))
