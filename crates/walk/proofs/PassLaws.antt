-- One pass over the productions finds what model's rules ask of the table.
use Prim.Native.Nat.{ℕ, zero, suc, ◌+◌, ◌-◌, ◌≤◌, ◌<◌}
use native.Mathlib.Omega.{arith}
use native.Mathlib.Numerals.{add-one}
use borrow.Author.Tests.{eq-eqb, ne_eqb, eqb-true, eqb-false}
use mathlib.Core.Path.{◌≡◌, refl, sym, ap, ap₂, ◌∙◌}
use mathlib.Core.Bool.{Bool, true, false, cond, ◌&&◌, ◌||◌}
use Rattle.std.specs.Prelude.{Option, None, Some}
use mathlib.Core.List.{List, [], ◌∷◌}
use lib.Dec.{eqb}
use lib.ListN.{length, get_or, take, drop}
use lib.Seq.{slice-cons, slice_empty}
use Rattle.words.specs.Words.{word_at}
use Rattle.words.specs.Runs.{run, total}
use Rattle.words.proofs.RunLaws.{total_more, total_add, total_same, total_part}
use Rattle.model.specs.Setting.{Setting}
use Rattle.model.specs.Lists.{any, earliest}
use Rattle.model.specs.Tables.{Production, Table}
use Rattle.model.specs.Counts.{Element, expanded, sequence}
use Rattle.model.specs.Matching.{fits, follows, reads_as_prefix, is_whole_sequence, reading_of}
use Rattle.model.specs.Selection.{Reading}
use Rattle.model.specs.declared.events.Event.{Event}
use Rattle.machine.specs.Kept.{longest_end}
use Rattle.machine.proofs.Track.{longest_yes, longest_no}
use Rattle.tables.specs.Layout.{production_events_at}
use Rattle.tables.specs.Reading.{production_total, event_total, production_events, first_event, event_entry, production_entry, decode}
use Rattle.follow.specs.declared.Followed.{Followed}
use Rattle.walk.specs.declared.Passed.{Passed}
use Rattle.states.specs.State.{zero_event}
use Rattle.filter.specs.Filter.{Outside}
use Rattle.walk.specs.Walk.{Skipped, followed, pass_next, passes, passed, passed_in}
use Rattle.follow.specs.Follow.{walked}
use Rattle.fields.proofs.TableFacts.{TableFacts}

-- ---- One production

abbrev reads : Followed → Bool
reads Followed.No = false
reads Followed.Prefix = true
reads Followed.Whole = true

abbrev completes : Followed → Bool
completes Followed.No = false
completes Followed.Prefix = false
completes Followed.Whole = true

module _ (setting : Setting) where
  walked_reads : (two one : Option Event) (els : List Element) (xs : List Event)
      → reads (walked setting two one els xs) ≡ follows setting two one els xs
  unfolding walked follows
  walked_reads two one [] [] = refl
  walked_reads two one (el ∷ els) [] = refl
  walked_reads two one [] (x ∷ xs) = refl
  walked_reads two one (el ∷ els) (x ∷ xs) = go (fits setting two el x) refl (walked_reads one (Some x) els xs)
    where
      go : (b : Bool) → fits setting two el x ≡ b
          → reads (walked setting one (Some x) els xs) ≡ follows setting one (Some x) els xs
          → reads (cond b (walked setting one (Some x) els xs) Followed.No) ≡ b && follows setting one (Some x) els xs
      go true q i = i
      go false q i = refl

  eqb_suc : (a b : ℕ) → eqb (suc a) (suc b) ≡ eqb a b
  eqb_suc a b = go (eqb a b) refl
    where
      go : (t : Bool) → eqb a b ≡ t → eqb (suc a) (suc b) ≡ t
      go true q = let e : a ≡ b = eqb-true a b q in eq-eqb (suc a) (suc b) (ap suc e)
      go false q = let n : a ≡ b → ⊥ = eqb-false a b q in ne_eqb (suc a) (suc b) (λ h. n (omega arith))

  and_false : (a : Bool) → a && false ≡ false
  and_false true = refl
  and_false false = refl

  walked_completes : (two one : Option Event) (els : List Element) (xs : List Event)
      → completes (walked setting two one els xs) ≡ eqb (length xs) (length els) && follows setting two one els xs
  unfolding walked follows
  walked_completes two one [] [] = refl
  walked_completes two one (el ∷ els) [] = rw (ne_eqb 0 (suc (length els)) (λ h. omega arith))
  walked_completes two one [] (x ∷ xs) = sym (and_false (eqb (suc (length xs)) 0))
  walked_completes two one (el ∷ els) (x ∷ xs) =
      rw (eqb_suc (length xs) (length els)) (go (fits setting two el x) (walked_completes one (Some x) els xs))
    where
      go : (b : Bool)
          → completes (walked setting one (Some x) els xs) ≡ eqb (length xs) (length els) && follows setting one (Some x) els xs
          → completes (cond b (walked setting one (Some x) els xs) Followed.No)
          ≡ eqb (length xs) (length els) && (b && follows setting one (Some x) els xs)
      go true i = i
      go false i = sym (and_false (eqb (length xs) (length els)))

  followed_reads : (xs : List Event) (p : Production) → reads (followed setting xs p) ≡ reads_as_prefix setting xs p
  unfolding followed reads_as_prefix
  followed_reads xs p = walked_reads None None (sequence p) xs

  followed_completes : (xs : List Event) (p : Production) → completes (followed setting xs p) ≡ is_whole_sequence setting xs p
  unfolding followed is_whole_sequence reads_as_prefix
  followed_completes xs p = walked_completes None None (sequence p) xs

-- ---- All productions

abbrev pub some_reads : Passed → Bool
some_reads Passed.No = false
some_reads Passed.Prefix = true
some_reads (Passed.Chosen p) = true

pub some_read : (r : Passed) → (r ≡ Passed.No → ⊥) → some_reads r ≡ true
some_read Passed.No h = absurd (h refl)
some_read Passed.Prefix h = refl
some_read (Passed.Chosen p) h = refl

abbrev pub chosen_by : Passed → Option ℕ
chosen_by Passed.No = None
chosen_by Passed.Prefix = None
chosen_by (Passed.Chosen p) = Some p

module _ (f : Production → Followed) where
  passes_reads : (i : ℕ) (seen : Bool) (ps : List Production) → some_reads (passes f i seen ps) ≡ seen || any (λ p. reads (f p)) ps
  unfolding passes
  passes_reads i true [] = refl
  passes_reads i false [] = refl
  passes_reads i seen (p ∷ ps) = go (f p) refl (passes_reads (suc i) seen ps) (passes_reads (suc i) true ps)
    where
      true_or : (s : Bool) → true ≡ s || true
      true_or true = refl
      true_or false = refl

      go : (r : Followed) → f p ≡ r
          → some_reads (passes f (suc i) seen ps) ≡ seen || any (λ p. reads (f p)) ps
          → some_reads (passes f (suc i) true ps) ≡ true
          → some_reads (pass_next r i (passes f (suc i) seen ps) (passes f (suc i) true ps)) ≡ seen || (reads r || any (λ p. reads (f p)) ps)
      go Followed.No q a b = a
      go Followed.Prefix q a b = b ∙ true_or seen
      go Followed.Whole q a b = true_or seen

  passes_chosen : (i : ℕ) (seen : Bool) (ps : List Production) → chosen_by (passes f i seen ps) ≡ earliest (λ p. completes (f p)) i ps
  unfolding passes
  passes_chosen i true [] = refl
  passes_chosen i false [] = refl
  passes_chosen i seen (p ∷ ps) = go (f p) refl (passes_chosen (suc i) seen ps) (passes_chosen (suc i) true ps)
    where
      go : (r : Followed) → f p ≡ r
          → chosen_by (passes f (suc i) seen ps) ≡ earliest (λ p. completes (f p)) (suc i) ps
          → chosen_by (passes f (suc i) true ps) ≡ earliest (λ p. completes (f p)) (suc i) ps
          → chosen_by (pass_next r i (passes f (suc i) seen ps) (passes f (suc i) true ps))
          ≡ cond (completes r) (Some i) (earliest (λ p. completes (f p)) (suc i) ps)
      go Followed.No q a b = a
      go Followed.Prefix q a b = b
      go Followed.Whole q a b = refl

any_each : {A : Type 0} (f g : A → Bool) → ((x : A) → f x ≡ g x) → (xs : List A) → any f xs ≡ any g xs
any_each f g h [] = refl
any_each f g h (x ∷ xs) = ap₂ ◌||◌ (h x) (any_each f g h xs)

earliest_each : {A : Type 0} (f g : A → Bool) → ((x : A) → f x ≡ g x) → (i : ℕ) (xs : List A) → earliest f i xs ≡ earliest g i xs
earliest_each f g h i [] = refl
earliest_each f g h i (x ∷ xs) = ap₂ (λ (b : Bool) (o : Option ℕ). cond b (Some i) o) (h x) (earliest_each f g h (suc i) xs)

module _ (t : Table) (setting : Setting) where
  pub passed_prefix : (xs : List Event) → some_reads (passed t setting xs) ≡ (reading_of t setting).prefix xs
  unfolding passed
  passed_prefix xs =
      passes_reads (followed setting xs) 0 false t.productions
      ∙ any_each (λ p. reads (followed setting xs p)) (reads_as_prefix setting xs) (followed_reads setting xs) t.productions

  pub passed_chosen : (xs : List Event) → chosen_by (passed t setting xs) ≡ (reading_of t setting).chosen xs
  unfolding passed
  passed_chosen xs =
      passes_chosen (followed setting xs) 0 false t.productions
      ∙ earliest_each (λ p. completes (followed setting xs p)) (is_whole_sequence setting xs) (followed_completes setting xs) 0 t.productions

-- ---- The pass as a loop over the table's bytes

module _ (setting : Setting) (l : List ℕ) (xs : List Event) where
  -- what is left of it at production p
  pub onward : ℕ → Bool → Passed
  onward p seen = passes (followed setting xs) p seen (run (production_entry l) p (production_total l - p))

  pub onward_start : passed (decode l) setting xs ≡ onward 0 false
  unfolding onward passed decode
  onward_start = let e : production_total l - 0 ≡ production_total l = omega arith in rw e

  pub onward_end : (p : ℕ) (seen : Bool) → production_total l ≤ p → onward p seen ≡ cond seen Passed.Prefix Passed.No
  unfolding onward run passes
  onward_end p seen h = let e : production_total l - p ≡ 0 = omega arith in rw e

  onward_step : (p : ℕ) (seen : Bool) → p < production_total l
      → onward p seen ≡ pass_next (followed setting xs (production_entry l p)) p (onward (p + 1) seen) (onward (p + 1) true)
  unfolding onward run passes
  onward_step p seen h = let e : production_total l - p ≡ suc (production_total l - (p + 1)) = omega arith in rw (e, add-one)

  -- the walk that the code makes for production p
  pub production_walk : (p : ℕ)
      → followed setting xs (production_entry l p)
      ≡ walked setting None None (expanded (run (event_entry l) (first_event l p) (production_events l p))) xs
  unfolding followed sequence production_entry
  production_walk p = refl

  pub onward_no : (p : ℕ) (seen : Bool) (r : Followed) → p < production_total l → r ≡ followed setting xs (production_entry l p)
      → r ≡ Followed.No → onward p seen ≡ onward (p + 1) seen
  onward_no p seen r h e q =
      onward_step p seen h ∙ ap (λ (s : Followed). pass_next s p (onward (p + 1) seen) (onward (p + 1) true)) (sym e ∙ q)

  pub onward_prefix : (p : ℕ) (seen : Bool) (r : Followed) → p < production_total l → r ≡ followed setting xs (production_entry l p)
      → r ≡ Followed.Prefix → onward p seen ≡ onward (p + 1) true
  onward_prefix p seen r h e q =
      onward_step p seen h ∙ ap (λ (s : Followed). pass_next s p (onward (p + 1) seen) (onward (p + 1) true)) (sym e ∙ q)

  pub onward_whole : (p : ℕ) (seen : Bool) (r : Followed) → p < production_total l → r ≡ followed setting xs (production_entry l p)
      → r ≡ Followed.Whole → onward p seen ≡ Passed.Chosen p
  onward_whole p seen r h e q =
      onward_step p seen h ∙ ap (λ (s : Followed). pass_next s p (onward (p + 1) seen) (onward (p + 1) true)) (sym e ∙ q)

pub next_events : (l : List ℕ) (p : ℕ) → first_event l (p + 1) ≡ first_event l p + production_events l p
unfolding first_event production_events
next_events l p = total_more (word_at l) production_events_at p

pub first_events : (l : List ℕ) → first_event l 0 ≡ 0
unfolding first_event total
first_events l = refl

-- productions that begin before a bound are stepped over
pub skipped_start : (l : List ℕ) (low : ℕ) → Skipped l low 0 0
skipped_start l low = record { most = omega arith; place = sym (first_events l); over = λ q h. absurd (omega arith) }

pub skipped_step : (l : List ℕ) (low at p size : ℕ) → Skipped l low at p → at < low → p < production_total l → size ≡ production_events l p
    → Skipped l low (at + size) (p + 1)
skipped_step l low at p size s h d e =
    record { most = omega arith; place = rw (s.place, e) (sym (next_events l p)); over = λ q k. go q k (eqb q p) refl }
  where
    go : (q : ℕ) → q < p + 1 → (t : Bool) → eqb q p ≡ t → first_event l q < low
    go q k true r = rw (eqb-true q p r, ← s.place) h
    go q k false r =
        let n : q ≡ p → ⊥ = eqb-false q p r in
        s.over q (omega arith)

-- several productions have as many events as lie between
events_span : (l : List ℕ) (p n : ℕ) → first_event l (p + n) ≡ first_event l p + total (production_events l) p n
unfolding first_event production_events
events_span l p n =
    total_add (word_at l) production_events_at p n
    ∙ ap (λ (t : ℕ). total (word_at l) production_events_at p + t) (total_same (word_at l) (production_events l) (production_events_at + p) p n shifted)
  where
    shifted : (i : ℕ) → i < n → word_at l (production_events_at + p + i) ≡ word_at l (production_events_at + (p + i))
    shifted i h = let e : production_events_at + p + i ≡ production_events_at + (p + i) = omega arith in ap (word_at l) e

events_past : (l : List ℕ) (at p n size : ℕ) → at ≡ first_event l p → size ≡ total (production_events l) p n → at + size ≡ first_event l (p + n)
events_past l at p n size q e = rw (q, e) (sym (events_span l p n))

module _ (l : List ℕ) (f : TableFacts l) where
  events_most : (p : ℕ) → p ≤ production_total l → first_event l p ≤ 256
  events_most p h =
      let e : p + (production_total l - p) ≡ production_total l = omega arith in
      let s : first_event l (production_total l) ≡ first_event l p + total (production_events l) p (production_total l - p)
      = ap (first_event l) (sym e) ∙ events_span l p (production_total l - p) in
      omega (arith, f.sum, f.events)

  pub past_most : (at p n size : ℕ) → at ≡ first_event l p → p + n ≤ production_total l → size ≡ total (production_events l) p n → at + size ≤ 256
  past_most at p n size q m e = omega (arith, events_past l at p n size q e, events_most (p + n) m)

  -- one more of them
  pub span_most : (p n : ℕ) → p + n < production_total l → total (production_events l) p n + production_events l (p + n) ≤ 256
  span_most p n h = omega (arith, events_span l p n, f.within (p + n) h, f.events)

  -- each has an event, so it begins before the next
  events_less : (q p : ℕ) → q < p → p ≤ production_total l → first_event l q < first_event l p
  unfolding first_event production_events
  events_less q p h m = omega (arith, total_part (word_at l) production_events_at q p h, f.some q (omega arith))

  pub skipped_leap : (low at p n size : ℕ) → Skipped l low at p → p + n ≤ production_total l → size ≡ total (production_events l) p n
      → at + size ≤ low → Skipped l low (at + size) (p + n)
  skipped_leap low at p n size s m e h =
      record { most = m; place = there; over = λ q k. omega (arith, events_less q (p + n) k m, there) }
    where
      there : at + size ≡ first_event l (p + n)
      there = events_past l at p n size s.place e

-- where the pass stands: at production p, whose events begin at `at`
module _ (setting : Setting) (l : List ℕ) (xs : List Event) where
  pub record Passing (seen : Bool) (at p : ℕ) : Type 0 where
    pub low : p ≤ production_total l
    pub place : at ≡ first_event l p
    pub comes : passed (decode l) setting xs ≡ onward setting l xs p seen

  pub passing_start : Passing false 0 0
  passing_start = record { low = omega arith; place = sym (first_events l); comes = onward_start setting l xs }

  module _ (seen : Bool) (at p size : ℕ) (w : Passing seen at p) (h : p < production_total l) (e : size ≡ production_events l p) where
    abbrev walk : Followed
    walk = walked setting None None (expanded (run (event_entry l) at size)) xs

    walk_is : walk ≡ followed setting xs (production_entry l p)
    walk_is = rw (w.place, e) (sym (production_walk setting l xs p))

    placed : at + size ≡ first_event l (p + 1)
    placed = rw (w.place, e) (sym (next_events l p))

    pub passing_no : (r : Followed) → r ≡ walk → r ≡ Followed.No → Passing seen (at + size) (p + 1)
    passing_no r q n =
        record { low = omega arith; place = placed; comes = w.comes ∙ onward_no setting l xs p seen r h (q ∙ walk_is) n }

    pub passing_prefix : (r : Followed) → r ≡ walk → r ≡ Followed.Prefix → Passing true (at + size) (p + 1)
    passing_prefix r q n =
        record { low = omega arith; place = placed; comes = w.comes ∙ onward_prefix setting l xs p seen r h (q ∙ walk_is) n }

    pub passing_whole : (r : Followed) → r ≡ walk → r ≡ Followed.Whole → passed (decode l) setting xs ≡ Passed.Chosen p
    passing_whole r q n = w.comes ∙ onward_whole setting l xs p seen r h (q ∙ walk_is) n

  pub passing_end : (seen : Bool) (at p : ℕ) → Passing seen at p → production_total l ≤ p
      → passed (decode l) setting xs ≡ cond seen Passed.Prefix Passed.No
  passing_end seen at p w h = w.comes ∙ onward_end setting l xs p seen h

  -- productions before the bounds
  module _ (low high : ℕ) (f : TableFacts l) (o : Outside l setting.keyboard xs low high) where
    outside_low : (p : ℕ) → p < production_total l → first_event l p < low → followed setting xs (production_entry l p) ≡ Followed.No
    outside_low p h b =
        production_walk setting l xs p
        ∙ o.before setting refl (first_event l p) (production_events l p) (f.some p h) (f.within p h) b

    onward_over : (p : ℕ) → p ≤ production_total l → ((q : ℕ) → q < p → first_event l q < low)
        → passed (decode l) setting xs ≡ onward setting l xs p false
    onward_over zero h b = onward_start setting l xs
    onward_over (suc p) h b =
        let d : p < production_total l = omega arith in
        let a : first_event l p < low = b p (omega arith) in
        rw (← add-one)
        (onward_over p (omega arith) (λ q c. b q (omega arith))
        ∙ onward_no setting l xs p false (followed setting xs (production_entry l p)) d refl (outside_low p d a))

    pub passing_over : (at p : ℕ) → Skipped l low at p → Passing false at p
    passing_over at p s = record { low = s.most; place = s.place; comes = onward_over p s.most s.over }

    -- and past them
    outside_high : (p : ℕ) → p < production_total l → high ≤ first_event l p → followed setting xs (production_entry l p) ≡ Followed.No
    outside_high p h b =
        production_walk setting l xs p
        ∙ o.after setting refl (first_event l p) (production_events l p) (f.some p h) (f.within p h) b

    onward_past : (seen : Bool) (k p : ℕ) → p + k ≡ production_total l → high ≤ first_event l p
        → onward setting l xs p seen ≡ cond seen Passed.Prefix Passed.No
    onward_past seen zero p e b = onward_end setting l xs p seen (omega arith)
    onward_past seen (suc k) p e b =
        let d : p < production_total l = omega arith in
        let n : high ≤ first_event l (p + 1) = omega (arith, next_events l p) in
        onward_no setting l xs p seen (followed setting xs (production_entry l p)) d refl (outside_high p d b)
        ∙ onward_past seen k (p + 1) (omega arith) n

    pub passing_past : (seen : Bool) (at p : ℕ) → Passing seen at p → high ≤ at
        → passed (decode l) setting xs ≡ cond seen Passed.Prefix Passed.No
    passing_past seen at p w h =
        let l₀ = w.low in
        w.comes ∙ onward_past seen (production_total l - p) p (omega arith) (rw (← w.place) h)

-- ---- The smallest start

module _ (t : Table) (setting : Setting) (events : List Event) (to : ℕ) (long : length events ≡ 25) (room : to ≤ 25) where
  abbrev R : Reading Event
  R = reading_of t setting

  -- the stretch from a start on
  abbrev pub on_from : ℕ → List Event
  on_from at = drop at (take to events)

  on_cons : (at : ℕ) → at < to → on_from at ≡ get_or events at zero_event ∷ on_from (at + 1)
  on_cons at h = rw add-one (slice-cons at to events zero_event h (omega arith))

  pub start_no : (at : ℕ) (r : Passed) → at < to → r ≡ passed t setting (on_from at) → r ≡ Passed.No
      → longest_end R (on_from at) ≡ longest_end R (on_from (at + 1))
  start_no at r h e q =
      longest_no R (on_from at) (sym (passed_prefix t setting (on_from at)) ∙ ap some_reads (sym e ∙ q)) (on_cons at h)

  pub start_yes : (at : ℕ) (r : Passed) → at < to → r ≡ passed t setting (on_from at) → some_reads r ≡ true
      → on_from at ≡ longest_end R (on_from at)
  start_yes at r h e q =
      sym (longest_yes R (on_from at) (sym (passed_prefix t setting (on_from at)) ∙ ap some_reads (sym e) ∙ q))

  -- a stretch that is not empty
  pub start_in : (at : ℕ) → at < to → passed t setting (on_from at) ≡ passed_in t setting (on_from at)
  start_in at h = rw (on_cons at h)

  on_end : on_from to ≡ []
  on_end = slice_empty to events

  pub start_end : (at : ℕ) → at ≡ to → on_from at ≡ longest_end R (on_from at)
  unfolding longest_end
  start_end at e = rw (e, on_end)

  pub start_none : (at : ℕ) → at ≡ to → Passed.No ≡ passed_in t setting (on_from at)
  start_none at e = rw (e, on_end)

-- a production's events are among the table's
pub record Place (l : List ℕ) (at p size : ℕ) : Type 0 where
  pub there : p < production_total l
  pub few : p < 64
  pub is_size : size ≡ production_events l p
  pub some : 1 ≤ size
  pub within : at + size ≤ event_total l
  pub small : at + size ≤ 256

pub place_of : (l : List ℕ) → TableFacts l → (at p size n : ℕ) → n ≡ production_total l → p < n → at ≡ first_event l p
    → size ≡ production_events l p → Place l at p size
place_of l f at p size n c h e s =
    let t : p < production_total l = omega arith in
    let w = f.within p t in
    let o = f.some p t in
    let m = f.events in
    let d = f.productions in
    record { there = t; few = omega arith; is_size = s; some = omega arith; within = omega arith; small = omega arith }
