-- What is left for an event, the event in its slot, and the answer.
use Prim.Native.Nat.{ℕ, max, ◌+◌, ◌-◌, ◌≤◌, ◌<◌}
use native.Mathlib.Omega.{arith}
use native.Mathlib.Numerals.{add-one}
use borrow.Author.Tests.{ltb-true, ltb-false}
use mathlib.Core.Path.{◌≡◌, refl, sym, ap, ap₂, ◌∙◌}
use mathlib.Core.Bool.{Bool, true, false, cond, not, ◌&&◌, false≢true}
use Rattle.std.specs.Prelude.{Option}
use mathlib.Core.List.{List, [], ◌∷◌, ◌++◌}
use lib.Dec.{eqb, ltb}
use lib.ListN.{length, get_or, take, drop}
use lib.Seq.{length-take-le, length-slice, slice_empty, slice-cons, get_or-take, take-take, take-length}
use Rattle.words.proofs.Bools.{and_right, and_both}
use Rattle.records.specs.Ranges.{EventRanges}
use Rattle.model.specs.Codes.{is_motion}
use Rattle.model.specs.Setting.{Setting}
use Rattle.model.specs.Tables.{Table}
use Rattle.model.specs.Selection.{Reading, ends_in, without_last, falls_back}
use Rattle.model.specs.Matching.{reading_of}
use Rattle.model.specs.Demand.{selection}
use Rattle.model.specs.declared.events.Event.{Event}
use Rattle.machine.specs.Kept.{Kept, fresh, shortened, left, longest_end, grown, unused, reopened, moved, chosen_in, choice, marked, kept, hear}
use Rattle.machine.proofs.Lists.{length_snoc, length_without, as_snoc, without_snoc, ends_some}
use Rattle.machine.proofs.Bounded.{LeftBounded, left_bounded}
use Rattle.tables.specs.Whole.{whole}
use Rattle.states.specs.declared.State.{State}
use Rattle.acting.specs.declared.Answer.{Answer}
use Rattle.acting.specs.declared.moves.Left.{Left}
use Rattle.walk.specs.declared.Passed.{Passed}
use Rattle.states.specs.State.{zero_event, slots_of, put_slot, in_slots, kept_of, state_with, state_keeping}
use Rattle.resolving.specs.Gathering.{MapsReady}
use Rattle.follow.specs.Follow.{WalkReady}
use Rattle.walk.specs.Walk.{passed, passed_in}
use Rattle.acting.specs.Moves.{moves, kept_in, left_marks, short_marks, answer_with, answer_of, restarted}
use Rattle.acting.specs.Act.{step_answer}
use Rattle.states.proofs.SlotLaws.{length_slots, length_put, put_more, put_last, take_put}
use Rattle.states.proofs.StateLaws.{StateFacts, InRanges, ranges_more, slots_kept, length_kept, kept_ranges, kept_bounded}
use Rattle.walk.proofs.PassLaws.{some_reads, chosen_by, passed_prefix, passed_chosen}

-- ---- What is left

module _ (R : Reading Event) where
  -- it is of the first events that were kept
  pub left_first : (k : Kept Event) (x : Event)
      → (length (left R k x).events ≤ length k.events) × ((left R k x).events ≡ take (length (left R k x).events) k.events)
  unfolding left
  left_first k x = go (R.motion x && ends_in R.motion k.events) k.is_open
    where
      First : List Event → Type 0
      First xs = (length xs ≤ length k.events) × (xs ≡ take (length xs) k.events)

      shorter : First (without_last k.events)
      shorter =
          let n = length_without k.events in
          (omega arith, ap (λ (j : ℕ). take j k.events) (sym n))

      go : (a b : Bool) → First (cond a (shortened R k) (cond b k fresh)).events
      go true b = shorter
      go false true = (omega arith, sym (take-length k.events))
      go false false = (omega arith, refl)

  pub ranges_left : (k : Kept Event) (x : Event) → InRanges k.events → InRanges (left R k x).events
  ranges_left k x r i h =
      let n = (left_first k x).0 in
      let m = length (left R k x).events in
      rw ((left_first k x).1, get_or-take m k.events i zero_event h) (r i (omega arith))

  -- an open context with the event, in its slots: the next one, or that of the event that is replaced
  left_put : (k : Kept Event) (x : Event) → length k.events ≤ 24 → (left R k x).is_open ≡ true
      → put_slot (in_slots k.events) (length (left R k x).events) x ≡ in_slots (grown R (left R k x) x)
  unfolding left
  left_put k x h = go (R.motion x && ends_in R.motion k.events) refl k.is_open
    where
      Put : Kept Event → Type 0
      Put l = l.is_open ≡ true → put_slot (in_slots k.events) (length l.events) x ≡ in_slots (grown R l x)

      replaced : ends_in R.motion k.events ≡ true
          → put_slot (in_slots k.events) (length (without_last k.events)) x ≡ in_slots (without_last k.events ++ (x ∷ []))
      replaced e =
          let q = as_snoc k.events (ends_some R.motion k.events e) in
          let w : without_last k.events ≡ q.0 = ap without_last q.2 ∙ without_snoc q.0 q.1 in
          let n = length_snoc q.0 q.1 in
          let m : length k.events ≡ length (q.0 ++ (q.1 ∷ [])) = ap length q.2 in
          ap₂ (λ (ys zs : List Event). put_slot (in_slots ys) (length zs) x) q.2 w
          ∙ put_last q.0 q.1 x (omega arith)
          ∙ sym (ap (λ (ys : List Event). in_slots (ys ++ (x ∷ []))) w)

      go : (a : Bool) → (R.motion x && ends_in R.motion k.events) ≡ a → (b : Bool) → Put (cond a (shortened R k) (cond b k fresh))
      go true q b o = replaced (and_right (R.motion x) (ends_in R.motion k.events) q)
      go false q true o = put_more k.events x (omega arith)
      go false q false o = absurd (false≢true o)

-- ---- And its marks

-- nothing is replaced where nothing is kept
pub replaces_none : (b : Bool) (kept : ℕ) (xs : List Event) → kept ≡ 0 → false ≡ (b && ends_in moves (take kept xs))
unfolding ends_in
replaces_none true kept xs e = rw e
replaces_none false kept xs e = refl

module _ (bytes : List ℕ) (kept selected : ℕ) (is_open : Bool) (x : Event) (h : kept ≤ 24) where
  abbrev k : Kept Event
  k = kept_in bytes kept selected is_open

  -- whether the event replaces the last one
  abbrev replaced : Bool
  replaced = is_motion x.code && ends_in moves (take kept (slots_of bytes))

  kept_length : length k.events ≡ kept
  kept_length = length-take-le kept (slots_of bytes) (omega (arith, length_slots bytes))

  pub replaced_some : replaced ≡ true → 0 < kept
  replaced_some q =
      let n = ends_some moves k.events (and_right (is_motion x.code) (ends_in moves k.events) q) in
      omega (arith, kept_length)

  module _ (t : Table) (setting : Setting) where
    pub left_short : replaced ≡ true → short_marks kept selected is_open ≡ left_marks (left (reading_of t setting) k x)
    unfolding left
    left_short q =
        rw q
        (ap (λ (n : ℕ). short_marks n selected is_open) (sym kept_length)
        ∙ ap (λ (n : ℕ). marks n) (sym (length_without k.events)))
      where
        marks : ℕ → Left
        marks n =
            record { kept = n; selected = falls_back (length k.events) selected; «open» = is_open && not (eqb (length k.events) 1) }

    pub left_same : replaced ≡ false → is_open ≡ true
        → ◌≡◌ {A = Left} (record { kept = kept; selected = selected; «open» = true }) (left_marks (left (reading_of t setting) k x))
    unfolding left
    left_same q o =
        rw (q, o) (ap (λ (n : ℕ). record { kept = n; selected = selected; «open» = true }) (sym kept_length))

    pub left_nothing : replaced ≡ false → is_open ≡ false
        → ◌≡◌ {A = Left} (record { kept = 0; selected = 0; «open» = false }) (left_marks (left (reading_of t setting) k x))
    unfolding left
    left_nothing q o = rw (q, o)

-- ---- The answer

module _ (t : Table) (setting : Setting) where
  abbrev R : Reading Event
  R = reading_of t setting

  hear_is : (k : Kept Event) (x : Event) → step_answer (hear t setting k x) ≡ answer_of t setting (moved R (left R k x) x)
  unfolding answer_of kept choice
  hear_is k x = refl

  -- what the code makes of a pass that found this
  found_answer : (found : Passed) (k : Kept Event) → chosen_in R k ≡ chosen_by found
      → answer_with found (length k.events) k.selected k.is_open (in_slots k.events) ≡ answer_of t setting k
  unfolding answer_of step_answer answer_with state_keeping state_with
  found_answer found k q = by found ∙ sym (ap answer q)
    where
      answer : Option ℕ → Answer
      answer o = record { matched = selection t setting o; state = state_keeping (marked R k o) }

      by : (found : Passed)
          → answer_with found (length k.events) k.selected k.is_open (in_slots k.events) ≡ answer (chosen_by found)
      by Passed.No = refl
      by Passed.Prefix = refl
      by (Passed.Chosen p) = refl

  moved_on : (k : Kept Event) (x : Event) → (k.is_open && R.prefix (grown R k x)) ≡ true
      → moved R k x ≡ record { events = grown R k x; selected = k.selected; is_open = true }
  unfolding moved
  moved_on k x p = rw p

  moved_again : (k : Kept Event) (x : Event) → (k.is_open && R.prefix (grown R k x)) ≡ false
      → moved R k x ≡ reopened R (R.motion x) (unused R k x) (longest_end R (unused R k x))
  unfolding moved
  moved_again k x p = rw p

  -- the context goes on
  goes_on : (k : Kept Event) (x : Event) (found : Passed) → k.is_open ≡ true → found ≡ passed t setting (grown R k x)
      → some_reads found ≡ true
      → answer_with found (length (grown R k x)) k.selected true (in_slots (grown R k x)) ≡ answer_of t setting (moved R k x)
  goes_on k x found o e q =
      let p : R.prefix (grown R k x) ≡ true = sym (passed_prefix t setting (grown R k x)) ∙ ap some_reads (sym e) ∙ q in
      found_answer found (record { events = grown R k x; selected = k.selected; is_open = true })
      (sym (ap chosen_by e ∙ passed_chosen t setting (grown R k x)))
      ∙ ap (answer_of t setting) (sym (moved_on k x (and_both k.is_open (R.prefix (grown R k x)) o p)))

  -- it does not, or none is open
  starts_anew : (k : Kept Event) (x : Event) → (k.is_open && R.prefix (grown R k x)) ≡ false
      → restarted t setting (R.motion x) (unused R k x) ≡ answer_of t setting (moved R k x)
  unfolding restarted
  starts_anew k x p = ap (answer_of t setting) (sym (moved_again k x p))

  moves_on : (k : Kept Event) (x : Event) (found : Passed) → k.is_open ≡ true → found ≡ passed t setting (grown R k x)
      → found ≡ Passed.No
      → restarted t setting (R.motion x) (drop (max 1 k.selected) (grown R k x)) ≡ answer_of t setting (moved R k x)
  moves_on k x found o e q =
      let p : R.prefix (grown R k x) ≡ false = sym (passed_prefix t setting (grown R k x)) ∙ ap some_reads (sym e ∙ q) in
      let u : (k.is_open && R.prefix (grown R k x)) ≡ false = rw (o, p) in
      ap (λ (b : Bool). restarted t setting (R.motion x) (drop (cond b (max 1 k.selected) 0) (grown R k x))) (sym o)
      ∙ starts_anew k x u

  opens_anew : (k : Kept Event) (x : Event) → k.is_open ≡ false
      → restarted t setting (R.motion x) (drop 0 (grown R k x)) ≡ answer_of t setting (moved R k x)
  opens_anew k x o =
      let u : (k.is_open && R.prefix (grown R k x)) ≡ false = ap (λ (b : Bool). b && R.prefix (grown R k x)) o in
      ap (λ (b : Bool). restarted t setting (R.motion x) (drop (cond b (max 1 k.selected) 0) (grown R k x))) (sym o)
      ∙ starts_anew k x u

  -- ---- What the code makes of a new start

  module _ (events : List Event) (to used at : ℕ) (moving : Bool) (found : Passed)
      (long : length events ≡ 25) (room : to ≤ 25) (within : at ≤ to)
      (ends : drop at (take to events) ≡ longest_end R (drop used (take to events)))
      (is_found : found ≡ passed_in t setting (drop at (take to events))) where
    abbrev rest : List Event
    rest = drop used (take to events)

    -- with these events kept
    kept_answer : (from : ℕ) (k : Kept Event) → from ≤ to → drop from (take to events) ≡ k.events → k.selected ≡ 0
        → chosen_in R k ≡ chosen_by found
        → answer_with found (to - from) 0 k.is_open (in_slots (drop from (take to events))) ≡ answer_of t setting k
    kept_answer from k h e z q =
        let n : to - from ≡ length k.events = sym (length-slice from to events (omega arith)) ∙ ap length e in
        rw (n, e, ← z) (found_answer found k q)

    opened_at : at < to
        → answer_with found (to - at) 0 true (in_slots (drop at (take to events))) ≡ restarted t setting moving rest
    unfolding restarted
    opened_at h =
        let y = get_or events at zero_event in
        let ys = drop (at + 1) (take to events) in
        let c : drop at (take to events) ≡ y ∷ ys = rw add-one (slice-cons at to events zero_event h (omega arith)) in
        let k : Kept Event = record { events = y ∷ ys; selected = 0; is_open = true } in
        let q : chosen_by found ≡ R.chosen (y ∷ ys) = ap chosen_by (is_found ∙ ap (passed_in t setting) c) ∙ passed_chosen t setting (y ∷ ys) in
        kept_answer at k within c refl (sym q)
        ∙ ap (λ (zs : List Event). answer_of t setting (reopened R moving rest zs)) (sym c ∙ ends)

    none_opens : (from : ℕ) → at ≡ to → from ≡ cond moving used to → used ≤ to
        → answer_with found (to - from) 0 false (in_slots (drop from (take to events))) ≡ restarted t setting moving rest
    unfolding restarted
    none_opens from h e u =
        let z : drop at (take to events) ≡ [] = ap (λ (j : ℕ). drop j (take to events)) h ∙ slice_empty to events in
        let q : chosen_by found ≡ chosen_by Passed.No = ap chosen_by (is_found ∙ ap (passed_in t setting) z) in
        rw e (by moving (sym q))
        ∙ ap (λ (zs : List Event). answer_of t setting (reopened R moving rest zs)) (sym z ∙ ends)
      where
        by : (b : Bool) → chosen_in R fresh ≡ chosen_by found
            → answer_with found (to - cond b used to) 0 false (in_slots (drop (cond b used to) (take to events)))
            ≡ answer_of t setting (record { events = cond b rest []; selected = 0; is_open = false })
        by true q = kept_answer used (record { events = rest; selected = 0; is_open = false }) u refl refl q
        by false q = kept_answer to fresh (omega arith) (slice_empty to events) refl q

    -- what is kept ends where they end
    pub from_within : (from : ℕ) → used ≤ to → from ≡ cond (ltb at to) at (cond moving used to) → from ≤ to
    from_within from u e = rw e (go (ltb at to) moving)
      where
        go : (a b : Bool) → cond a at (cond b used to) ≤ to
        go true b = within
        go false true = u
        go false false = omega arith

    pub restart_is : (from : ℕ) (bytes : List ℕ) → used ≤ to → from ≡ cond (ltb at to) at (cond moving used to)
        → bytes ≡ in_slots (drop from (take to events))
        → answer_with found (to - from) 0 (ltb at to) bytes ≡ restarted t setting moving rest
    restart_is from bytes u e m = rw m (go (ltb at to) refl e)
      where
        go : (b : Bool) → ltb at to ≡ b → from ≡ cond b at (cond moving used to)
            → answer_with found (to - from) 0 b (in_slots (drop from (take to events))) ≡ restarted t setting moving rest
        go true q g = rw g (opened_at (ltb-true at to q))
        go false q g = let w = ltb-false at to q in none_opens from (omega arith) g u

-- ---- A whole state with the event in its slot

module _ (t : Table) (setting : Setting) (s : State) (f : StateFacts s) (x : Event) where
  abbrev left_of : Kept Event
  left_of = left (reading_of t setting) (kept_of s) x

  pub left_of_bounded : LeftBounded left_of
  left_of_bounded = left_bounded (reading_of t setting) (kept_of s) x (kept_bounded s f)

  left_slots : left_of.events ≡ take (length left_of.events) (slots_of s.events)
  unfolding kept_of
  left_slots =
      let q = left_first (reading_of t setting) (kept_of s) x in
      let h : length left_of.events ≤ length (kept_of s).events = q.0 in
      let n = length_kept s f in
      q.1 ∙ take-take (length left_of.events) s.kept (slots_of s.events) (omega arith)

  module _ (r : Left) (e : r ≡ left_marks (left (reading_of t setting) (kept_in s.events s.kept s.selected s.«open») x)) where
    marks_are : r ≡ left_marks left_of
    unfolding kept_of
    marks_are = e

    kept_is : r.kept ≡ length left_of.events
    kept_is = ap (λ (a : Left). a.kept) marks_are

    selected_is : r.selected ≡ left_of.selected
    selected_is = ap (λ (a : Left). a.selected) marks_are

    open_is : r.«open» ≡ left_of.is_open
    open_is = ap (λ (a : Left). a.«open») marks_are

    -- the event has a slot
    pub left_room : r.kept ≤ 24
    left_room = let m = left_of_bounded.few in omega (arith, kept_is)

    pub left_within : r.selected ≤ r.kept
    left_within = let m = left_of_bounded.within in omega (arith, kept_is, selected_is)

    module _ (bytes : List ℕ) (g : bytes ≡ put_slot s.events r.kept x) where
      abbrev taken : List Event
      taken = take (r.kept + 1) (slots_of bytes)

      taken_is : taken ≡ grown (reading_of t setting) left_of x
      taken_is =
          let m = left_room in
          ap (λ (l : List ℕ). take (r.kept + 1) (slots_of l)) g
          ∙ take_put s.events r.kept x f.long (omega arith)
          ∙ ap (λ (j : ℕ). take j (slots_of s.events) ++ (x ∷ [])) kept_is
          ∙ ap (λ (ys : List Event). ys ++ (x ∷ [])) (sym left_slots)

      bytes_are : r.«open» ≡ true → bytes ≡ in_slots (grown (reading_of t setting) left_of x)
      unfolding kept_of
      bytes_are o =
          let n = length_kept s f in
          let m = f.few in
          g ∙ ap₂ (λ (l : List ℕ) (j : ℕ). put_slot l j x) (sym (slots_kept s f)) kept_is
          ∙ left_put (reading_of t setting) (kept_of s) x (omega arith) (sym open_is ∙ o)

      grown_ranges : EventRanges x → InRanges taken
      grown_ranges w =
          rw taken_is (ranges_more left_of.events x (ranges_left (reading_of t setting) (kept_of s) x (kept_ranges s f)) w)

      -- what a walk along them may rely on
      pub left_ready : (l maps : List ℕ) → whole l ≡ true → MapsReady maps → EventRanges x → WalkReady l maps bytes (r.kept + 1)
      left_ready l maps w m v =
          let n = left_room in
          let c : length taken ≡ r.kept + 1 = ap length taken_is ∙ length_snoc left_of.events x ∙ sym (add-one (length left_of.events)) ∙ ap (λ (j : ℕ). j + 1) (sym kept_is) in
          record {
            is_whole = w;
            mapped = m;
            long = ap length g ∙ length_put s.events r.kept x ∙ f.long;
            room = omega arith;
            ranges = λ j h. rw (← get_or-take (r.kept + 1) (slots_of bytes) j zero_event h) (grown_ranges v j (omega arith));
          }

      pub heard_shut : r.«open» ≡ false
          → restarted t setting (is_motion x.code) (drop 0 taken) ≡ step_answer (hear t setting (kept_of s) x)
      heard_shut o =
          ap (λ (ys : List Event). restarted t setting (is_motion x.code) (drop 0 ys)) taken_is
          ∙ opens_anew t setting left_of x (sym open_is ∙ o)
          ∙ sym (hear_is t setting (kept_of s) x)

      pub heard_no : (found : Passed) (used : ℕ) → r.«open» ≡ true → found ≡ passed t setting (drop 0 taken) → found ≡ Passed.No
          → used ≡ max 1 r.selected
          → restarted t setting (is_motion x.code) (drop used taken) ≡ step_answer (hear t setting (kept_of s) x)
      heard_no found used o p q u =
          ap₂ (λ (j : ℕ) (ys : List Event). restarted t setting (is_motion x.code) (drop j ys)) (u ∙ ap (max 1) selected_is) taken_is
          ∙ moves_on t setting left_of x found (sym open_is ∙ o) (p ∙ ap (passed t setting) taken_is) q
          ∙ sym (hear_is t setting (kept_of s) x)

      pub heard_yes : (found : Passed) → r.«open» ≡ true → found ≡ passed t setting (drop 0 taken) → some_reads found ≡ true
          → answer_with found (r.kept + 1) r.selected true bytes ≡ step_answer (hear t setting (kept_of s) x)
      heard_yes found o p q =
          let n : r.kept + 1 ≡ length (grown (reading_of t setting) left_of x) = omega (arith, kept_is, length_snoc left_of.events x) in
          rw (n, selected_is, bytes_are o)
          (goes_on t setting left_of x found (sym open_is ∙ o) (p ∙ ap (passed t setting) taken_is) q)
          ∙ sym (hear_is t setting (kept_of s) x)
