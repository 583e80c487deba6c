-- An event that begins a production along which a stretch reads as a prefix passes the quick test, and so stands within the
-- bounds of those that pass.
use Prim.Native.Nat.{ℕ, ◌+◌, ◌-◌, ◌*◌, ◌%◌, ◌≤◌, ◌<◌}
use native.Mathlib.Omega.{arith}
use borrow.Author.Tests.{eq-eqb, ltb-true, ltb-false, le-leb}
use Rattle.std.proofs.lemmas.Bool.Decides.{nat_tests}
use mathlib.Core.Logic.{inl, inr}
use Rattle.std.proofs.lemmas.Bool.{cases_lt, and_cases}
use Rattle.std.proofs.lemmas.Nat.{le_or_l, le_or_r}
use mathlib.Core.Path.{◌≡◌, refl, sym, ap, ◌∙◌}
use mathlib.Core.Bool.{Bool, true, false, cond, not, ◌&&◌, ◌||◌}
use mathlib.Core.List.{List}
use lib.Bits.{bit_and, bit_or, and_le_r}
use lib.Dec.{eqb, ltb}
use lib.ListN.{length, get_or, take, drop}
use Rattle.words.specs.Words.{word_at}
use Rattle.words.proofs.Bools.{and_right}
use Rattle.keyboard.specs.Folds.{fold, folded}
use Rattle.keyboard.proofs.Folds.{asked_in}
use Rattle.model.specs.Setting.{Setting, first_keysym, second_keysym}
use Rattle.model.specs.Asked.{Test, asks_bit_set, asked}
use Rattle.model.specs.Modifiers.{bit, state_meets}
use Rattle.model.specs.declared.events.Event.{Event}
use Rattle.model.specs.declared.events.KeptEvent.{KeptEvent}
use Rattle.modifiers.proofs.Digits.{bit_and_lem}
use Rattle.modifiers.proofs.Masks.{same_bits, bit_mask}
use Rattle.modifiers.proofs.Meeting.{bits_met_lem}
use Rattle.resolving.specs.Gathering.{resolved_test}
use Rattle.resolving.proofs.Asking.{asked_below}
use Rattle.records.specs.Ranges.{EventRanges}
use Rattle.counts.specs.Elements.{releases, element_count, element_code}
use Rattle.tables.specs.Layout.{counts_at, sets_at, lows_at, highs_at}
use Rattle.tables.specs.Reading.{is_flag, event_from_words, event_entry, event_total}
use Rattle.filter.specs.declared.Sought.{Sought}
use Rattle.follow.specs.declared.Followed.{Followed}
use Rattle.states.specs.State.{zero_event}
use Rattle.filter.specs.Filter.{Outside}
use Rattle.follow.specs.Follow.{event_meets, detail_asked, bits_meet, element_of, fits_after, size_in}
use Rattle.fields.specs.Fields.{flags_in, value_in}
use Rattle.filter.specs.Filter.{sought_of, suits, code_seems, detail_seems, seems, may_begin, pairs, code_begins, PassersWithin}
use Rattle.fields.proofs.TableFacts.{EntryFacts, TableFacts}
use Rattle.follow.proofs.EventLaws.{meets_asked, detail_had}
use Rattle.follow.proofs.FollowLaws.{target, Walks, walks_start, walks_other, walks_over, walks_no, walks_turn}

-- ---- The code

first_code : (own count : ℕ) (s : Sought) → element_code own count 0 ≡ s.code → code_seems own s ≡ true
unfolding element_code code_seems releases
first_code own count s e = grind (arith, nat_tests)

-- ---- The detail

-- the bytes of a table are bytes
abbrev pub Bytes : List ℕ → Type 0
Bytes l = (k : ℕ) → get_or l k 0 < 256

word_below : (l : List ℕ) → Bytes l → (k : ℕ) → word_at l k < 65536
unfolding word_at
word_below l b k = omega (arith, b (2 * k), b (2 * k + 1))

low_is : (l : List ℕ) → Bytes l → (i : ℕ) → folded (value_in l i) ≡ fold (word_at l (lows_at + i))
unfolding folded value_in
low_is l b i =
    let h = word_below l b (lows_at + i) in
    let e : (word_at l (lows_at + i) + 65536 * word_at l (highs_at + i)) % 65536 ≡ word_at l (lows_at + i) = omega arith in
    ap fold e

sought_code : (map : List ℕ) (x : Event) → x.code ≡ (sought_of map x).code
unfolding sought_of
sought_code map x = refl

-- a state that has the bits of a mask has those of a mask within it
bits_within : (state wide set : ℕ) → wide < 8192 → set < 8192 → ((k : ℕ) → k < 13 → bit k set ≡ true → bit k wide ≡ true)
    → bit_and state wide ≡ wide → bit_and state set ≡ set
bits_within state wide set hw hs within e =
    same_bits 13 (bit_and state set) set (omega (arith, and_le_r state set)) hs (λ k h. bit_and_lem k state set ∙ go k h)
  where
    go : (k : ℕ) → k < 13 → bit k state && bit k set ≡ bit k set
    go k h =
        let w : bit k set ≡ true → bit k wide ≡ true = within k h in
        let a : bit k state && bit k wide ≡ bit k wide = sym (bit_and_lem k state wide) ∙ ap (bit k) e in
        grind (arith, w)

-- plain bits asked set are among those that names resolve to
set_within : (setting : Setting) (e : KeptEvent) (k : ℕ) → k < 13 → bit k e.set ≡ true → bit k (asked setting e).set ≡ true
unfolding asked asks_bit_set
set_within setting e k h q = bit_mask (asks_bit_set setting e) k h ∙ rw q

asked_low : (setting : Setting) (e : KeptEvent) → ((asked setting e).set < 8192) × ((asked setting e).clear < 8192)
asked_low setting e = asked_below setting e (resolved_test (asked setting e)) refl

-- the bits, of the bits and the detail
first_part : (map : List ℕ) (set clear : ℕ) (l : List ℕ) (i : ℕ) (x : Event) → bits_meet map set clear (event_entry l i) x ≡ true
    → state_meets set clear (is_flag 2 (flags_in l i)) x.state ≡ true
unfolding bits_meet event_entry event_from_words flags_in
first_part map set clear l i x m = grind arith

-- the masks, of what a state meets
set_met : (set clear : ℕ) (clause : Bool) (state : ℕ) → set < 8192 → clear < 8192 → state_meets set clear clause state ≡ true
    → bit_and state set ≡ set
unfolding state_meets
set_met set clear clause state hs hc m = grind (arith, nat_tests, bits_met_lem set clear state hs hc)

has_set : (map l : List ℕ) (i : ℕ) (x : Event) → bit_and x.state (event_entry l i).set ≡ (event_entry l i).set → suits l i (sought_of map x) ≡ true
unfolding suits sought_of event_entry event_from_words
has_set map l i x e = eq-eqb (bit_and x.state (word_at l (sets_at + i))) (word_at l (sets_at + i)) e

module _ (setting : Setting) (l : List ℕ) (i : ℕ) (x : Event) (r : EventRanges x) where
  abbrev test : Test
  test = asked setting (event_entry l i)

  bits_part : event_meets setting (event_entry l i) x ≡ true
      → bits_meet setting.keyboard test.set test.clear (event_entry l i) x ≡ true
  bits_part m =
      and_right (not test.dead) (bits_meet setting.keyboard test.set test.clear (event_entry l i) x)
      (sym (meets_asked setting (event_entry l i) x r) ∙ m)

  state_part : event_meets setting (event_entry l i) x ≡ true
      → state_meets test.set test.clear (is_flag 2 (flags_in l i)) x.state ≡ true
  state_part m = first_part setting.keyboard test.set test.clear l i x (bits_part m)

  suits_state : EntryFacts l i → event_meets setting (event_entry l i) x ≡ true → suits l i (sought_of setting.keyboard x) ≡ true
  suits_state f m =
      let b = asked_low setting (event_entry l i) in
      has_set setting.keyboard l i x
      (bits_within x.state test.set (event_entry l i).set b.0 f.set_below (set_within setting (event_entry l i))
      (set_met test.set test.clear (is_flag 2 (flags_in l i)) x.state b.0 b.1 (state_part m)))

module _ (setting : Setting) (x : Event) where
  none_asked : (low : ℕ) → low ≡ 0 → detail_seems low (sought_of setting.keyboard x) ≡ true
  unfolding detail_seems
  none_asked low e = rw e

  asked_seems : (set clear : ℕ) (colon : Bool) (value low : ℕ) → folded value ≡ fold low → detail_asked setting.keyboard set clear colon value x ≡ true
      → detail_seems low (sought_of setting.keyboard x) ≡ true
  unfolding detail_asked detail_seems sought_of
  asked_seems set clear colon value low w e =
      let k = first_keysym setting.keyboard x.detail in
      let m = second_keysym setting.keyboard x.detail in
      grind (arith, nat_tests, w, asked_in k m value set clear colon x.state)

  module _ (l : List ℕ) (b : Bytes l) (i : ℕ) (f : EntryFacts l i) (r : EventRanges x) where
    detail_seems_lem : event_meets setting (event_entry l i) x ≡ true → detail_seems (word_at l (lows_at + i)) (sought_of setting.keyboard x) ≡ true
    detail_seems_lem m = go (is_flag 4 (flags_in l i)) refl
      where
        go : (t : Bool) → is_flag 4 (flags_in l i) ≡ t → detail_seems (word_at l (lows_at + i)) (sought_of setting.keyboard x) ≡ true
        go true q =
            let t = asked setting (event_entry l i) in
            asked_seems t.set t.clear (is_flag 1 (flags_in l i)) (value_in l i) (word_at l (lows_at + i)) (low_is l b i)
            (detail_had setting.keyboard t.set t.clear l i x q (bits_part setting l i x r m))
        go false q = none_asked (word_at l (lows_at + i)) (f.bare q)

    -- ---- The event

    module _ (before : ℕ) where
      seems_fits : fits_after setting before (element_of (event_entry l i) 0) x ≡ true → seems l i (sought_of setting.keyboard x) ≡ true
      unfolding fits_after element_of seems
      seems_fits e =
          let c : element_code (event_entry l i).code (event_entry l i).count 0 ≡ x.code = grind (arith, nat_tests) in
          let m : event_meets setting (event_entry l i) x ≡ true = grind arith in
          rw (f.code_word, first_code (event_entry l i).code (event_entry l i).count (sought_of setting.keyboard x) (c ∙ sought_code setting.keyboard x)) (detail_seems_lem m)

      suits_fits : fits_after setting before (element_of (event_entry l i) 0) x ≡ true → suits l i (sought_of setting.keyboard x) ≡ true
      unfolding fits_after element_of
      suits_fits e =
          let m : event_meets setting (event_entry l i) x ≡ true = grind arith in
          suits_state setting l i x r f m

      -- an event that does not pass does not fit
      pub fits_suits : suits l i (sought_of setting.keyboard x) ≡ false → fits_after setting before (element_of (event_entry l i) 0) x ≡ false
      fits_suits q = grind (arith, suits_fits)

      pub fits_seems : seems l i (sought_of setting.keyboard x) ≡ false → fits_after setting before (element_of (event_entry l i) 0) x ≡ false
      fits_seems q = grind (arith, seems_fits)

-- ---- A production

module _ (setting : Setting) (l : List ℕ) (f : TableFacts l) (b : Bytes l) (first n : ℕ) (events : List Event) (from to : ℕ)
    (long : length events ≡ 25) (room : to ≤ 25) (m : from < to) (o : 1 ≤ n) (w : first + n ≤ event_total l)
    (ranges : (j : ℕ) → j < to → EventRanges (get_or events j zero_event)) where
  abbrev x : ℕ → Event
  x j = get_or events j zero_event

  -- whether event j fits the first element of event i
  abbrev fit : ℕ → ℕ → Bool
  fit i j = fits_after setting (x j).time (element_of (event_entry l i) 0) (x j)

  suits_not : suits l first (sought_of setting.keyboard (x from)) ≡ false → target setting l first n events from to ≡ Followed.No
  suits_not q =
      let h : first < event_total l = omega arith in
      walks_other setting l first n events from to long room m o (fit first from) refl
      (fits_suits setting (x from) l b first (f.entry first h) (ranges from m) (x from).time q)

  -- the first event of the stretch does not pass
  pub seems_not : seems l first (sought_of setting.keyboard (x from)) ≡ false → target setting l first n events from to ≡ Followed.No
  seems_not q =
      let h : first < event_total l = omega arith in
      walks_other setting l first n events from to long room m o (fit first from) refl
      (fits_seems setting (x from) l b first (f.entry first h) (ranges from m) (x from).time q)

  single : word_at l (counts_at + first) ≤ 1 → 0 + 1 ≡ size_in l first
  unfolding size_in element_count
  single c =
      let h : first < event_total l = omega arith in
      let e : (event_entry l first).count ≤ 1 = rw (← (f.entry first h).count_word) c in
      rw (le-leb (event_entry l first).count 1 e)

  -- the first event of the production is met once, and the second event of the stretch does not pass at the next
  second_not : word_at l (counts_at + first) ≤ 1 → from + 1 < to → seems l (first + 1) (sought_of setting.keyboard (x (from + 1))) ≡ false
      → target setting l first n events from to ≡ Followed.No
  second_not c h q = go (fit first from) refl
    where
      less : from ≤ to
      less = omega arith

      turned : fit first from ≡ true → Walks setting l first n events from to (first + 1) 0 (from + 1)
      turned e =
          let d : first < first + n = omega arith in
          walks_turn setting l first n events from to room first 0 from (walks_start setting l first n events from to long less) d m from
          (λ z. absurd (omega arith)) (fit first from) refl e (single c)

      more : (t : Bool) → ltb (first + 1) (first + n) ≡ t → fit first from ≡ true → target setting l first n events from to ≡ Followed.No
      more true k e =
          let d : first + 1 < first + n = ltb-true (first + 1) (first + n) k in
          let i : first + 1 < event_total l = omega arith in
          walks_no setting l first n events from to room (first + 1) 0 (from + 1) (turned e) d h (from + 1) (λ z. absurd (omega arith))
          (fit (first + 1) (from + 1)) refl
          (fits_seems setting (x (from + 1)) l b (first + 1) (f.entry (first + 1) i) (ranges (from + 1) h) (x (from + 1)).time q)
      more false k e =
          walks_over setting l first n events from to room (first + 1) 0 (from + 1) (turned e) (ltb-false (first + 1) (first + n) k) h

      go : (t : Bool) → fit first from ≡ t → target setting l first n events from to ≡ Followed.No
      go true e = more (ltb (first + 1) (first + n)) refl e
      go false e = walks_other setting l first n events from to long room m o (fit first from) refl e

  pub begins_not : may_begin l (sought_of setting.keyboard (x from)) first ≡ false → target setting l first n events from to ≡ Followed.No
  unfolding may_begin
  begins_not q = elim (and_cases (seems l first (sought_of setting.keyboard (x from))) (suits l first (sought_of setting.keyboard (x from))) q) [
    | inl e ↦ seems_not e
    | inr e ↦ suits_not e
  ]

  pub pairs_not : (two : Sought) → from + 1 < to → two ≡ sought_of setting.keyboard (x (from + 1)) → pairs l (sought_of setting.keyboard (x from)) two first ≡ false
      → target setting l first n events from to ≡ Followed.No
  unfolding pairs
  pairs_not two h et q = elim (and_cases (seems l first (sought_of setting.keyboard (x from))) (not (eqb (word_at l (counts_at + first)) 1) || seems l (first + 1) two) q) [
    | inl e ↦ seems_not e
    | inr e ↦
        let d : word_at l (counts_at + first) ≤ 1 = grind (arith, nat_tests) in
        let n : seems l (first + 1) two ≡ false = grind arith in
        second_not d h (ap (seems l (first + 1)) (sym et) ∙ n)
  ]

  -- the code alone is another
  pub code_not : code_begins l (sought_of setting.keyboard (x from)) first ≡ false → target setting l first n events from to ≡ Followed.No
  unfolding code_begins seems
  code_not q = seems_not (rw q)

-- ---- Where events stand that pass a test

-- what is joined by `|` is at least each of its parts
module _ (f : ℕ → Bool) where
  -- of the first n events, the number of each that passes is in the joined one
  abbrev pub Joined : (ℕ → ℕ) → (n joined : ℕ) → Type 0
  Joined number n joined = (j : ℕ) → j < n → f j ≡ true → number j ≤ joined

  joined_step : (number : ℕ → ℕ) (i joined : ℕ) → Joined number i joined → (t : Bool) → t ≡ f i → (a : ℕ) → a ≡ cond t (number i) 0
      → Joined number (i + 1) (bit_or joined a)
  joined_step number i joined w t e a ea j h q = elim (cases_lt j i) [
    | inl k ↦ omega (arith, w j k q, le_or_l joined a)
    | inr k ↦
        let m : j ≡ i = omega arith in
        let v : a ≡ number i = ea ∙ ap (λ (s : Bool). cond s (number i) 0) (e ∙ ap f (sym m) ∙ q) in
        rw m (omega (arith, le_or_r joined a))
  ]

  -- the numbers i + 1 and 256 - i
  abbrev pub Noted : (n high turned : ℕ) → Type 0
  Noted n high turned = Joined (λ j. j + 1) n high × Joined (λ j. 256 - j) n turned

  pub noted_step : (i high turned : ℕ) → Noted i high turned → (t : Bool) → t ≡ f i → (a b : ℕ) → a ≡ cond t (i + 1) 0
      → b ≡ cond t (256 - i) 0 → Noted (i + 1) (bit_or high a) (bit_or turned b)
  noted_step i high turned w t e a b ea eb =
      (joined_step (λ j. j + 1) i high w.0 t e a ea, joined_step (λ j. 256 - j) i turned w.1 t e b eb)

-- an event that does not stand there begins no production along which the stretch reads as a prefix
pub outside_of : (l map : List ℕ) (events : List Event) (from to : ℕ) (f : ℕ → Bool)
    → ((setting : Setting) → setting.keyboard ≡ map → (first n : ℕ) → 1 ≤ n → first + n ≤ event_total l → f first ≡ false → target setting l first n events from to ≡ Followed.No)
    → (low high : ℕ) → PassersWithin f (event_total l) low high → Outside l map (drop from (take to events)) low high
outside_of l map events from to f none-there low high w =
    record {
      before = λ setting e first n o b h. none-there setting e first n o b (out first (omega arith) (λ d. absurd (omega (arith, d.0))));
      after = λ setting e first n o b h. none-there setting e first n o b (out first (omega arith) (λ d. absurd (omega (arith, d.1))));
    }
  where
    out : (i : ℕ) → i < event_total l → ((low ≤ i) × (i < high) → f i ≡ false) → f i ≡ false
    out i h k = let p = w i h in grind (arith, p, k)

module _ (map l : List ℕ) (f : TableFacts l) (b : Bytes l) (events : List Event) (from to : ℕ) (long : length events ≡ 25) (room : to ≤ 25)
    (m : from < to) (ranges : (j : ℕ) → j < to → EventRanges (get_or events j zero_event)) (one : Sought)
    (eo : one ≡ sought_of map (get_or events from zero_event)) (low high : ℕ) where
  -- under a setting with this map
  sought_in : (setting : Setting) → setting.keyboard ≡ map → (j : ℕ) (s : Sought) → s ≡ sought_of map (get_or events j zero_event)
      → sought_of setting.keyboard (get_or events j zero_event) ≡ s
  sought_in setting e j s q = ap (λ (m : List ℕ). sought_of m (get_or events j zero_event)) e ∙ sym q

  pub outside_code : PassersWithin (code_begins l one) (event_total l) low high → Outside l map (drop from (take to events)) low high
  outside_code =
      outside_of l map events from to (code_begins l one)
      (λ setting e first n o w q. code_not setting l f b first n events from to long room m o w ranges (ap (λ (s : Sought). code_begins l s first) (sought_in setting e from one eo) ∙ q))
      low high

  pub outside_begins : PassersWithin (may_begin l one) (event_total l) low high → Outside l map (drop from (take to events)) low high
  outside_begins =
      outside_of l map events from to (may_begin l one)
      (λ setting e first n o w q. begins_not setting l f b first n events from to long room m o w ranges (ap (λ (s : Sought). may_begin l s first) (sought_in setting e from one eo) ∙ q))
      low high

  pub outside_pairs : (two : Sought) → from + 1 < to → two ≡ sought_of map (get_or events (from + 1) zero_event)
      → PassersWithin (pairs l one two) (event_total l) low high → Outside l map (drop from (take to events)) low high
  outside_pairs two h et =
      outside_of l map events from to (pairs l one two)
      (λ setting e first n o w q. pairs_not setting l f b first n events from to long room m o w ranges two h (sym (sought_in setting e (from + 1) two et)) (ap (λ (s : Sought). pairs l s two first) (sought_in setting e from one eo) ∙ q))
      low high
