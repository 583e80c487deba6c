-- On a table that passes no limit no stretch that reads as a prefix is longer than 24 events, so that 15 is never given.
use Prim.Native.Nat.{ℕ, ◌≤◌}
use native.Mathlib.Omega.{arith}
use borrow.Author.Tests.{ltb-false, le-ltb}
use mathlib.Core.Path.{◌≡◌, refl, ap, ◌∙◌}
use mathlib.Core.Logic.{⊎_elim}
use mathlib.Core.Bool.{Bool, true, false, ◌&&◌, false≢true}
use Rattle.std.specs.Prelude.{Option, None, Some}
use mathlib.Core.List.{List, [], ◌∷◌, Memᴰ}
use lib.Dec.{ltb}
use lib.ListN.{length}
use Rattle.model.specs.Lists.{any}
use Rattle.model.specs.Limits.{sequence_limit}
use Rattle.model.specs.Setting.{Setting}
use Rattle.model.specs.Tables.{Production, Table}
use Rattle.model.specs.Counts.{Element, sequence}
use Rattle.model.specs.Compiling.{production_passes, passes_limit}
use Rattle.model.specs.Matching.{fits, follows, reads_as_prefix, reading_of}
use Rattle.model.specs.declared.events.Event.{Event}
use Rattle.model.specs.declared.answers.RecordRead.{RecordRead}
use Rattle.machine.specs.Never.{NeverFull}
use Rattle.machine.specs.Kept.{Kept, context_limit, left, longest_end, grown, unused, reopened, moved, keeps_too_many}
use Rattle.machine.proofs.Tests.{any_in, and_right, or_cases, or_no_left, or_no_right}

and_false : (b : Bool) → b && false ≡ false
and_false true = refl
and_false false = refl

-- ---- Stretches

productions_within :
    (ps : List Production) {p : Production} → any production_passes ps ≡ false → Memᴰ p ps → production_passes p ≡ false
productions_within ps {p} w m = go (production_passes p) refl
  where
    go : (b : Bool) → production_passes p ≡ b → b ≡ false
    go true q = let h : any production_passes ps ≡ true = any_in production_passes m q in cc
    go false q = refl

-- no production of a table within the limits has more than 24 events after expansion
pub sequence_short :
    (t : Table) {p : Production} → passes_limit t.productions ≡ false → Memᴰ p t.productions
    → length (sequence p) ≤ sequence_limit
unfolding passes_limit production_passes
sequence_short t {p} w m =
    ltb-false sequence_limit (length (sequence p))
    (or_no_left _ _ (or_no_left _ _ (productions_within t.productions (or_no_left _ _ w) m)))

module _ (setting : Setting) where
  follows_length :
      (two one : Option Event) (els : List Element) (xs : List Event) → follows setting two one els xs ≡ true
      → length xs ≤ length els
  unfolding follows
  follows_length two one els [] h = omega arith
  follows_length two one [] (y ∷ ys) h = let z : ◌≡◌ {A = ℕ} 0 1 = cc in omega arith
  follows_length two one (el ∷ els) (y ∷ ys) h =
      let l = follows_length one (Some y) els ys (and_right (fits setting two el y) _ h) in omega arith

  production_short :
      (xs : List Event) (p : Production) → production_passes p ≡ false → reads_as_prefix setting xs p ≡ true → length xs ≤ sequence_limit
  unfolding production_passes reads_as_prefix
  production_short xs p w h =
      let l : length (sequence p) ≤ sequence_limit = ltb-false sequence_limit (length (sequence p)) (or_no_left _ _ (or_no_left _ _ w)) in
      let m = follows_length None None (sequence p) xs h in
      omega arith

  productions_short :
      (xs : List Event) (ps : List Production) → any production_passes ps ≡ false → any (reads_as_prefix setting xs) ps ≡ true
      → length xs ≤ sequence_limit
  productions_short xs [] w h = let z : ◌≡◌ {A = ℕ} 0 1 = cc in omega arith
  productions_short xs (p ∷ ps) w h =
      ⊎_elim
      (λ r. production_short xs p (or_no_left (production_passes p) _ w) r)
      (λ r. productions_short xs ps (or_no_right (production_passes p) _ w) r)
      (or_cases (reads_as_prefix setting xs p) _ h)

  -- a stretch that reads as a prefix of a table within the limits has at most 24 events
  pub prefix_short :
      (t : Table) → passes_limit t.productions ≡ false → (xs : List Event) → (reading_of t setting).prefix xs ≡ true
      → length xs ≤ sequence_limit
  unfolding passes_limit
  prefix_short t w xs h = productions_short xs t.productions (or_no_left _ _ w) h

  -- ---- 15

  module _ (t : Table) (w : passes_limit t.productions ≡ false) where
    longest_short : (xs : List Event) → length (longest_end (reading_of t setting) xs) ≤ sequence_limit
    unfolding longest_end
    longest_short [] = omega arith
    longest_short (x ∷ xs) = go ((reading_of t setting).prefix (x ∷ xs)) refl (longest_short xs)
      where
        go : (b : Bool) → (reading_of t setting).prefix (x ∷ xs) ≡ b
            → length (longest_end (reading_of t setting) xs) ≤ sequence_limit
            → length (longest_end (reading_of t setting) (x ∷ xs)) ≤ sequence_limit
        go true q l = rw q (prefix_short t w (x ∷ xs) q)
        go false q l = rw q l

    -- a context that opens anew reads as a prefix
    reopened_short :
        (moves : Bool) (rest end : List Event) → length end ≤ sequence_limit
        → (reopened (reading_of t setting) moves rest end).is_open ≡ true
        → length (reopened (reading_of t setting) moves rest end).events ≤ sequence_limit
    reopened_short moves rest [] l o = absurd (false≢true o)
    reopened_short moves rest (y ∷ ys) l o = l

    -- whatever is left, a context that is open after rule 3 has at most 24 events
    pub moved_short :
        (k : Kept Event) (x : Event) → (moved (reading_of t setting) k x).is_open ≡ true
        → length (moved (reading_of t setting) k x).events ≤ sequence_limit
    unfolding moved
    moved_short k x = go (k.is_open && (reading_of t setting).prefix (grown (reading_of t setting) k x)) refl
      where
        go : (b : Bool) → k.is_open && (reading_of t setting).prefix (grown (reading_of t setting) k x) ≡ b
            → (moved (reading_of t setting) k x).is_open ≡ true
            → length (moved (reading_of t setting) k x).events ≤ sequence_limit
        go true q = rw q (λ o. prefix_short t w (grown (reading_of t setting) k x) (and_right k.is_open _ q))
        go false q =
            rw q
            (reopened_short ((reading_of t setting).motion x) (unused (reading_of t setting) k x)
            (longest_end (reading_of t setting) (unused (reading_of t setting) k x))
            (longest_short (unused (reading_of t setting) k x)))

    not_full : (k : Kept Event) → (k.is_open ≡ true → length k.events ≤ sequence_limit) → keeps_too_many t setting k ≡ false
    not_full k l = go k.is_open refl
      where
        go : (b : Bool) → k.is_open ≡ b → b && ltb context_limit (length k.events) ≡ false
        go true q = le-ltb context_limit (length k.events) (l q)
        go false q = refl

-- 15 is never given
pub never_full : NeverFull
never_full t w setting k (RecordRead.Event x) =
    let R = reading_of t setting in
    ap (λ b. R.known x && b) (not_full setting t w (moved R (left R k x) x) (moved_short setting t w (left R k x) x))
    ∙ and_false (R.known x)
never_full t w setting k (RecordRead.Refused n) = refl
