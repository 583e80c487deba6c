-- What is left of a walk, by the places of the next element and of the next event.
use Prim.Native.Nat.{ℕ, suc, ◌+◌, ◌-◌, ◌≤◌, ◌<◌}
use native.Mathlib.Omega.{arith}
use native.Mathlib.Numerals.{add-one}
use borrow.Author.Tests.{le-ltb}
use mathlib.Core.Path.{◌≡◌, sym, ap, ap₂, ◌∙◌}
use mathlib.Core.Bool.{Bool, true, false, cond}
use Rattle.std.specs.Prelude.{Option, None, Some}
use mathlib.Core.List.{List, [], ◌∷◌, ◌++◌}
use lib.Dec.{ltb, leb-suc-suc}
use lib.ListN.{length, get_or, take, drop, length-append, get_or-append}
use lib.Seq.{drop-cons, drop_at, drop-nil, get_or-take, slice_empty, length-take-le}
use Rattle.words.specs.Runs.{run}
use Rattle.model.specs.Setting.{Setting}
use Rattle.model.specs.Counts.{Element, elements_of, expanded, quick}
use Rattle.model.specs.Matching.{in_time, fits}
use Rattle.model.specs.declared.events.Event.{Event}
use Rattle.counts.proofs.Elements.{element_count_lem, count_at_least}
use Rattle.counts.proofs.Places.{element_at, timed_later}
use Rattle.tables.specs.Reading.{event_entry}
use Rattle.follow.specs.declared.Followed.{Followed}
use Rattle.states.specs.State.{zero_event, event_in, slots_of}
use Rattle.states.proofs.SlotLaws.{in_slot}
use Rattle.follow.specs.Follow.{element_of, fits_after, walked, size_in}
use Rattle.follow.proofs.EventLaws.{fits_same}

-- ---- Elements

module _ (l : List ℕ) (last : ℕ) where
  -- the elements from element k of event i on
  pub left : ℕ → ℕ → List Element
  left i k = drop k (expanded (run (event_entry l) i (last - i)))

  split : (i : ℕ) → i < last
      → expanded (run (event_entry l) i (last - i)) ≡ elements_of (event_entry l i) ++ expanded (run (event_entry l) (suc i) (last - suc i))
  unfolding run expanded
  split i h = let s : last - i ≡ suc (last - suc i) = omega arith in rw s

  size_elements : (i : ℕ) → length (elements_of (event_entry l i)) ≡ size_in l i
  unfolding elements_of size_in
  size_elements i = element_count_lem (event_entry l i).count (event_entry l i)

  element_is : (i k : ℕ) (d : Element) → k < size_in l i → get_or (elements_of (event_entry l i)) k d ≡ element_of (event_entry l i) k
  unfolding elements_of size_in element_of
  element_is i k d h = element_at (event_entry l i).count (event_entry l i) d k h

  pub left_cons : (i k : ℕ) → i < last → k < size_in l i → left i k ≡ element_of (event_entry l i) k ∷ left i (k + 1)
  unfolding left
  left_cons i k h m =
      let d : Element = element_of (event_entry l i) k in
      let rest = expanded (run (event_entry l) (suc i) (last - suc i)) in
      let s = size_elements i in
      let n : k < length (elements_of (event_entry l i)) = omega arith in
      let b : k < length (elements_of (event_entry l i) ++ rest) = omega (arith, length-append (elements_of (event_entry l i)) rest) in
      let g : get_or (elements_of (event_entry l i) ++ rest) k d ≡ element_of (event_entry l i) k
      = get_or-append (elements_of (event_entry l i)) rest d k n ∙ element_is i k d m in
      ap (drop k) (split i h)
      ∙ drop-cons (elements_of (event_entry l i) ++ rest) k d b
      ∙ ap₂ (λ (a : Element) (q : List Element). a ∷ q) g
      (ap (drop (suc k)) (sym (split i h)) ∙ ap (λ (q : ℕ). drop q (expanded (run (event_entry l) i (last - i)))) (sym (add-one k)))

  pub left_turn_lem : (i k : ℕ) → i < last → k ≡ size_in l i → left i k ≡ left (i + 1) 0
  unfolding left
  left_turn_lem i k h e =
      ap (drop k) (split i h)
      ∙ drop_at (elements_of (event_entry l i)) (expanded (run (event_entry l) (suc i) (last - suc i))) k (size_elements i ∙ sym e)
      ∙ ap (λ (q : ℕ). expanded (run (event_entry l) q (last - q))) (sym (add-one i))

  pub left_over : (i k : ℕ) → last ≤ i → left i k ≡ []
  unfolding left run expanded
  left_over i k h = let s : last - i ≡ 0 = omega arith in rw s (drop-nil k)

  pub size_pos : (i : ℕ) → 0 < size_in l i
  unfolding size_in
  size_pos i = count_at_least (event_entry l i).code (event_entry l i).count

-- ---- Events

-- the event d before place i of a stretch, if there is one
abbrev ago : ℕ → ℕ → Event → Option Event
ago d i x = cond (ltb i d) None (Some x)

module _ (setting : Setting) (l : List ℕ) (last : ℕ) (events : List Event) (from to : ℕ) where
  pub rest : ℕ → ℕ → ℕ → Followed
  rest i k j =
      walked setting (ago 2 (j - from) (get_or events (j - 2) zero_event)) (ago 1 (j - from) (get_or events (j - 1) zero_event))
      (left l last i k) (drop j (take to events))

  pub rest_start : (i : ℕ)
      → walked setting None None (expanded (run (event_entry l) i (last - i))) (drop from (take to events)) ≡ rest i 0 from
  unfolding rest left
  rest_start i = let z : from - from ≡ 0 = omega arith in rw z

  module _ (long : length events ≡ 25) (room : to ≤ 25) where
    list : (j : ℕ) → j < to → drop j (take to events) ≡ get_or events j zero_event ∷ drop (j + 1) (take to events)
    list j h =
        let n : j < length (take to events) = omega (arith, length-take-le to events (omega arith)) in
        rw (add-one) (drop-cons (take to events) j zero_event n ∙ ap (λ (x : Event). x ∷ drop (suc j) (take to events)) (get_or-take to events j zero_event h))

    pub rest_over : (i k j : ℕ) → last ≤ i → j < to → rest i k j ≡ Followed.No
    unfolding rest walked
    rest_over i k j h m = rw (left_over l last i k h, list j m)

    two : (j : ℕ) → from ≤ j → ago 1 (j - from) (get_or events (j - 1) zero_event) ≡ ago 2 (j + 1 - from) (get_or events (j + 1 - 2) zero_event)
    two j h =
        let s : j + 1 - 2 ≡ j - 1 = omega arith in
        let t : j + 1 - from ≡ suc (j - from) = omega arith in
        rw (s, t, leb-suc-suc (suc (j - from)) 1)

    one : (j : ℕ) → from ≤ j → Some (get_or events j zero_event) ≡ ago 1 (j + 1 - from) (get_or events (j + 1 - 1) zero_event)
    one j h =
        let s : j + 1 - 1 ≡ j = omega arith in
        rw (s, le-ltb (j + 1 - from) 1 (omega arith))

    module _ (i k j at : ℕ) (h : i < last) (m : k < size_in l i) (b : j < to) (f : k + from ≤ j) (a : 2 ≤ k → at ≡ j - 2) where
      abbrev now : Bool
      now = fits_after setting (get_or events at zero_event).time (element_of (event_entry l i) k) (get_or events j zero_event)

      timed : (element_of (event_entry l i) k).timed ≡ true
          → in_time setting (ago 2 (j - from) (get_or events (j - 2) zero_event)) (get_or events j zero_event)
          ≡ quick setting.time (get_or events at zero_event).time (get_or events j zero_event).time
      unfolding element_of
      timed q =
          let p : 2 ≤ k = timed_later (event_entry l i).code (event_entry l i).count k q in
          let e : at ≡ j - 2 = a p in
          rw (le-ltb (j - from) 2 (omega arith), e)

      same : fits setting (ago 2 (j - from) (get_or events (j - 2) zero_event)) (element_of (event_entry l i) k) (get_or events j zero_event) ≡ now
      same =
          fits_same setting (get_or events at zero_event).time (ago 2 (j - from) (get_or events (j - 2) zero_event))
          (element_of (event_entry l i) k) (get_or events j zero_event) timed

      step : rest i k j ≡ cond now (rest i (k + 1) (j + 1)) Followed.No
      unfolding rest walked
      step =
          let g : from ≤ j = omega arith in
          rw (left_cons l last i k h m, list j b, same, two j g, one j g)

      pub rest_no : (r : Bool) → r ≡ now → r ≡ false → rest i k j ≡ Followed.No
      rest_no r e q = step ∙ ap (λ (t : Bool). cond t (rest i (k + 1) (j + 1)) Followed.No) (sym e ∙ q)

      pub rest_on : (r : Bool) → r ≡ now → r ≡ true → rest i k j ≡ rest i (k + 1) (j + 1)
      rest_on r e q = step ∙ ap (λ (t : Bool). cond t (rest i (k + 1) (j + 1)) Followed.No) (sym e ∙ q)

  pub rest_turn : (i k j : ℕ) → i < last → k ≡ size_in l i → rest i k j ≡ rest (i + 1) 0 j
  unfolding rest
  rest_turn i k j h e = rw (left_turn_lem l last i k h e)

  pub rest_prefix : (i k j : ℕ) → i < last → k < size_in l i → j ≡ to → rest i k j ≡ Followed.Prefix
  unfolding rest walked
  rest_prefix i k j h m e = rw (e, slice_empty to events, left_cons l last i k h m)

  pub rest_whole : (i k j : ℕ) → last ≤ i → j ≡ to → rest i k j ≡ Followed.Whole
  unfolding rest walked
  rest_whole i k j h e = rw (e, slice_empty to events, left_over l last i k h)

-- what is read of the slots and of the element is what the walk asks
pub read_fit : (setting : Setting) (bytes : List ℕ) (el : Element) (j at : ℕ) (x b : Event) (r : Bool) → j < 25 → at < 25
    → x ≡ event_in bytes j → b ≡ event_in bytes at → r ≡ fits_after setting b.time el x
    → r ≡ fits_after setting (get_or (slots_of bytes) at zero_event).time el (get_or (slots_of bytes) j zero_event)
read_fit setting bytes el j at x b r h k p q e = rw (← in_slot bytes j h, ← in_slot bytes at k, ← p, ← q) e

-- ---- The walk of a production

module _ (setting : Setting) (l : List ℕ) (first n : ℕ) (events : List Event) (from to : ℕ) where
  abbrev pub target : Followed
  target = walked setting None None (expanded (run (event_entry l) first n)) (drop from (take to events))

  -- where the walk stands: at element k of event i, and at event j of the stretch
  pub record Walks (i k j : ℕ) : Type 0 where
    pub low : first ≤ i
    pub high : i ≤ first + n
    pub started : k + from ≤ j
    pub most : j ≤ to
    pub inside : i < first + n → k < size_in l i
    pub long : length events ≡ 25
    pub comes : target ≡ rest setting l (first + n) events from to i k j

  pub walks_start : length events ≡ 25 → from ≤ to → Walks first 0 from
  walks_start h m =
      let e : n ≡ first + n - first = omega arith in
      record {
        low = omega arith;
        high = omega arith;
        started = omega arith;
        most = m;
        inside = λ q. size_pos l (first + n) first;
        long = h;
        comes = ap (λ (q : ℕ). walked setting None None (expanded (run (event_entry l) first q)) (drop from (take to events))) e
            ∙ rest_start setting l (first + n) events from to first;
      }

  module _ (room : to ≤ 25) (i k j : ℕ) (w : Walks i k j) where
    -- the elements are used up before the events
    pub walks_over : first + n ≤ i → j < to → target ≡ Followed.No
    walks_over h m = w.comes ∙ rest_over setting l (first + n) events from to w.long room i k j h m

    module _ (h : i < first + n) (m : j < to) (at : ℕ) (a : 2 ≤ k → at ≡ j - 2) (r : Bool)
        (e : r ≡ fits_after setting (get_or events at zero_event).time (element_of (event_entry l i) k) (get_or events j zero_event)) where
      pub walks_no : r ≡ false → target ≡ Followed.No
      walks_no q =
          w.comes ∙ rest_no setting l (first + n) events from to w.long room i k j at h (w.inside h) m w.started a r e q

      on : r ≡ true → target ≡ rest setting l (first + n) events from to i (k + 1) (j + 1)
      on q =
          w.comes ∙ rest_on setting l (first + n) events from to w.long room i k j at h (w.inside h) m w.started a r e q

      -- the next element of the same event
      pub walks_on : r ≡ true → (k + 1 ≡ size_in l i → ⊥) → Walks i (k + 1) (j + 1)
      walks_on q d =
          let s : k < size_in l i = w.inside h in
          let b = w.started in
          let t : k + 1 < size_in l i = omega arith in
          record {
            low = w.low;
            high = w.high;
            started = omega arith;
            most = omega arith;
            inside = λ z. t;
            long = w.long;
            comes = on q;
          }

      -- the next event
      pub walks_turn : r ≡ true → k + 1 ≡ size_in l i → Walks (i + 1) 0 (j + 1)
      walks_turn q d =
          let b = w.started in
          let o = w.low in
          record {
            low = omega arith;
            high = omega arith;
            started = omega arith;
            most = omega arith;
            inside = λ z. size_pos l (first + n) (i + 1);
            long = w.long;
            comes = on q ∙ rest_turn setting l (first + n) events from to i (k + 1) (j + 1) h d;
          }

    pub walks_prefix : to ≤ j → i < first + n → target ≡ Followed.Prefix
    walks_prefix b h =
        let m = w.most in
        let e : j ≡ to = omega arith in
        w.comes ∙ rest_prefix setting l (first + n) events from to i k j h (w.inside h) e

    pub walks_whole : to ≤ j → first + n ≤ i → target ≡ Followed.Whole
    walks_whole b h =
        let m = w.most in
        let e : j ≡ to = omega arith in
        w.comes ∙ rest_whole setting l (first + n) events from to i k j h e

  -- the first event does not fit the first element
  pub walks_other : length events ≡ 25 → to ≤ 25 → from < to → 1 ≤ n → (r : Bool)
      → r ≡ fits_after setting (get_or events from zero_event).time (element_of (event_entry l first) 0) (get_or events from zero_event)
      → r ≡ false → target ≡ Followed.No
  walks_other h room m o r e q =
      let b : from ≤ to = omega arith in
      let d : first < first + n = omega arith in
      walks_no room first 0 from (walks_start h b) d m from (λ z. absurd (omega arith)) r e q
