-- A whole state and what it stands for determine each other.
use Prim.Native.Nat.{ℕ, zero, suc, ◌+◌, ◌*◌, ◌-◌, ◌≤◌, ◌<◌}
use native.Mathlib.Omega.{arith}
use native.Mathlib.Nat.{zero-add}
use borrow.Author.Tests.{eqb-true, eq-eqb}
use Rattle.std.proofs.lemmas.Bool.Decides.{nat_tests}
use mathlib.Core.Path.{◌≡◌, refl, sym, ap, ◌∙◌}
use mathlib.Core.Bool.{Bool, true, false, ◌&&◌, false≢true}
use mathlib.Core.List.{List, [], ◌∷◌, ◌++◌}
use lib.Dec.{eqb}
use lib.ListN.{length, get_or, take}
use lib.Seq.{get_or-take, length-take-le}
use Rattle.words.specs.Runs.{every}
use Rattle.words.proofs.RunLaws.{every_at, every_all}
use Rattle.records.specs.Ranges.{EventRanges}
use Rattle.model.specs.Codes.{is_motion}
use Rattle.model.specs.Selection.{ends_in}
use Rattle.model.specs.declared.events.Event.{Event}
use Rattle.machine.specs.Kept.{Kept, Bounded, fresh}
use Rattle.states.specs.declared.State.{State}
use Rattle.states.specs.State.{zero_event, slot_bytes, event_in, slots_of, kept_of, in_slots, state_with, state_keeping, fresh_state, event_whole, low_bytes, used_whole, byte_zero, slots_whole, marks_whole, last_whole, whole_state}
use Rattle.states.proofs.SlotLaws.{length_slots, in_slot, length_in, slot_used, take_slots, byte_unused, low_used, slots_read}

-- ---- One slot

pub event_ranges : (e : Event) → event_whole e ≡ true → EventRanges e
unfolding event_whole
event_ranges e q =
    record {
      code_least = grind (arith, nat_tests);
      code_most = grind (arith, nat_tests);
      state_most = grind (arith, nat_tests);
      keycode_least = λ h. grind (arith, nat_tests);
    }

pub ranges_event : (e : Event) → EventRanges e → event_whole e ≡ true
unfolding event_whole
ranges_event e r = grind (arith, nat_tests, r.code_least, r.code_most, r.state_most, r.keycode_least)

-- ---- What a whole state has

pub record StateFacts (s : State) : Type 0 where
  pub long : length s.events ≡ 200
  pub few : s.kept ≤ 24
  pub within : s.selected ≤ s.kept
  -- an open context has an event
  pub opened : s.«open» ≡ true → 0 < s.kept
  -- where none is open nothing is used up
  pub shut : s.«open» ≡ false → s.selected ≡ 0
  pub low : (i : ℕ) → i < s.kept → low_bytes s.events i ≡ true
  pub used : (i : ℕ) → i < s.kept → EventRanges (event_in s.events i)
  pub unused : (k : ℕ) → 8 * s.kept ≤ k → k < 200 → get_or s.events k 0 ≡ 0
  -- where none is open the last event is one that a motion replaces
  pub last : s.«open» ≡ false → 0 < s.kept → is_motion (event_in s.events (s.kept - 1)).code ≡ true

pub state_facts : (s : State) → whole_state s ≡ true → StateFacts s
unfolding whole_state marks_whole slots_whole last_whole used_whole byte_zero
state_facts s q =
    let low : every (low_bytes s.events) 0 s.kept ≡ true = grind (arith, nat_tests) in
    let used : every (used_whole s.events) 0 s.kept ≡ true = grind (arith, nat_tests) in
    let unused : every (byte_zero s.events) (8 * s.kept) (slot_bytes - 8 * s.kept) ≡ true = grind (arith, nat_tests) in
    let few : s.kept ≤ 24 = grind (arith, nat_tests) in
    record {
      long = grind (arith, nat_tests);
      few = few;
      within = grind (arith, nat_tests);
      opened = λ o. grind (arith, nat_tests);
      shut = λ o. grind (arith, nat_tests);
      low = λ i h. rw zero-add at (every_at (low_bytes s.events) 0 s.kept i low h);
      used = λ i h. event_ranges (event_in s.events i) (rw zero-add at (every_at (used_whole s.events) 0 s.kept i used h));
      unused = λ k h l.
          let e : 8 * s.kept + (k - 8 * s.kept) ≡ k = omega arith in
          let b : k - 8 * s.kept < slot_bytes - 8 * s.kept = omega arith in
          eqb-true (get_or s.events k 0) 0
          (ap (byte_zero s.events) (sym e) ∙ every_at (byte_zero s.events) (8 * s.kept) (slot_bytes - 8 * s.kept) (k - 8 * s.kept) unused b);
      last = λ o h. grind (arith, nat_tests);
    }

pub marks_few : (kept selected : ℕ) (is_open : Bool) → marks_whole kept selected is_open ≡ true → kept ≤ 24
unfolding marks_whole
marks_few kept selected is_open q = grind (arith, nat_tests)

-- marks that are not whole are those of no whole state
pub marks_not : (s : State) → marks_whole s.kept s.selected s.«open» ≡ false → whole_state s ≡ false
unfolding whole_state
marks_not s q = rw q (no_part (eqb (length s.events) slot_bytes))
  where
    no_part : (a : Bool) → (a && false && slots_whole s.events s.kept && last_whole s.events s.kept s.«open») ≡ false
    no_part true = refl
    no_part false = refl

pub facts_state : (s : State) → StateFacts s → whole_state s ≡ true
unfolding whole_state marks_whole slots_whole last_whole used_whole byte_zero
facts_state s f =
    let low : every (low_bytes s.events) 0 s.kept ≡ true = every_all (low_bytes s.events) 0 s.kept (λ i h. rw zero-add (f.low i h)) in
    let used : every (used_whole s.events) 0 s.kept ≡ true
    = every_all (used_whole s.events) 0 s.kept (λ i h. rw zero-add (ranges_event (event_in s.events i) (f.used i h))) in
    let unused : every (byte_zero s.events) (8 * s.kept) (slot_bytes - 8 * s.kept) ≡ true
    = every_all (byte_zero s.events) (8 * s.kept) (slot_bytes - 8 * s.kept)
    (λ i h. eq-eqb (get_or s.events (8 * s.kept + i) 0) 0 (f.unused (8 * s.kept + i) (omega arith) (omega arith))) in
    grind (arith, nat_tests, f.long, f.few, f.within, f.opened, f.shut, f.last)

-- ---- The laws

pub kept_state : (k : Kept Event) → length k.events ≤ 25 → kept_of (state_keeping k) ≡ k
unfolding kept_of state_keeping state_with
kept_state k h = rw (take_slots k.events h)

module _ (s : State) (f : StateFacts s) where
  pub length_kept : length (take s.kept (slots_of s.events)) ≡ s.kept
  length_kept = let m = f.few in length-take-le s.kept (slots_of s.events) (omega (arith, length_slots s.events))

  -- the slots hold the events that are kept, and zero
  pub slots_kept : in_slots (take s.kept (slots_of s.events)) ≡ s.events
  slots_kept = let m = f.few in slots_read s.events s.kept f.long (omega arith) f.low f.unused

  pub state_kept : state_keeping (kept_of s) ≡ s
  unfolding kept_of state_keeping state_with
  state_kept = rw (length_kept, slots_kept)

-- ---- The state that stands for events in range

-- every event has the ranges of one that was read
abbrev pub InRanges : List Event → Type 0
InRanges xs = (i : ℕ) → i < length xs → EventRanges (get_or xs i zero_event)

pub ranges_tail : (x : Event) (xs : List Event) → InRanges (x ∷ xs) → InRanges xs
ranges_tail x xs r i h = r (suc i) (omega arith)

pub ranges_more : (xs : List Event) (x : Event) → InRanges xs → EventRanges x → InRanges (xs ++ (x ∷ []))
ranges_more [] x r e zero h = e
ranges_more [] x r e (suc i) h = absurd (omega arith)
ranges_more (y ∷ ys) x r e zero h = r zero (omega arith)
ranges_more (y ∷ ys) x r e (suc i) h = ranges_more ys x (ranges_tail y ys r) e i (omega arith)

-- whether it is a motion event
abbrev pub moves : Event → Bool
moves x = is_motion x.code

-- the last of a list that is not empty
pub ends_last : (f : Event → Bool) (xs : List Event) → 0 < length xs → ends_in f xs ≡ f (get_or xs (length xs - 1) zero_event)
unfolding ends_in
ends_last f [] h = absurd (omega arith)
ends_last f (x ∷ []) h = refl
ends_last f (x ∷ y ∷ ys) h =
    let a : suc (length ys) - 1 ≡ length ys = omega arith in
    let b : suc (suc (length ys)) - 1 ≡ suc (length ys) = omega arith in
    ends_last f (y ∷ ys) (omega arith)
    ∙ ap (λ (k : ℕ). f (get_or (y ∷ ys) k zero_event)) a
    ∙ sym (ap (λ (k : ℕ). f (get_or (x ∷ y ∷ ys) k zero_event)) b)

-- the last of the slots that are used
pub ends_slot : (l : List ℕ) (n : ℕ) → 0 < n → n ≤ 25
    → ends_in moves (take n (slots_of l)) ≡ is_motion (event_in l (n - 1)).code
ends_slot l n h b =
    let c : length (take n (slots_of l)) ≡ n = length-take-le n (slots_of l) (omega (arith, length_slots l)) in
    ends_last moves (take n (slots_of l)) (omega arith)
    ∙ ap moves
    (ap (λ (k : ℕ). get_or (take n (slots_of l)) (k - 1) zero_event) c
    ∙ get_or-take n (slots_of l) (n - 1) zero_event (omega arith)
    ∙ sym (in_slot l (n - 1) (omega arith)))

pub bounded_whole : (k : Kept Event) → Bounded moves k → InRanges k.events → whole_state (state_keeping k) ≡ true
unfolding state_keeping state_with
bounded_whole k b r =
    let m = b.few in
    facts_state (state_keeping k) (
    record {
      long = length_in k.events (omega arith);
      few = b.few;
      within = b.within;
      opened = b.opened;
      shut = b.shut;
      low = λ i h. low_used k.events i h;
      used = λ i h. rw (slot_used k.events i h) (r i h);
      unused = λ i h l. byte_unused k.events i h;
      last = λ o h.
          ap moves (slot_used k.events (length k.events - 1) (omega arith))
          ∙ sym (ends_last moves k.events h) ∙ b.replaceable o h;
    }
    )

pub kept_ranges : (s : State) → StateFacts s → InRanges (kept_of s).events
unfolding kept_of
kept_ranges s f i h =
    let m = f.few in
    let b : i < s.kept = omega (arith, length_kept s f) in
    rw (get_or-take s.kept (slots_of s.events) i zero_event b, ← in_slot s.events i (omega arith)) (f.used i b)

pub kept_bounded : (s : State) → StateFacts s → Bounded moves (kept_of s)
unfolding kept_of
kept_bounded s f =
    let n = length_kept s f in
    let m = f.few in
    let w = f.within in
    record {
      few = omega arith;
      within = omega arith;
      opened = λ o. let z = f.opened o in omega arith;
      shut = f.shut;
      replaceable = λ o h. let z : 0 < s.kept = omega arith in ends_slot s.events s.kept z (omega arith) ∙ f.last o z;
    }

-- ---- The fresh state

pub fresh_kept : kept_of fresh_state ≡ fresh
unfolding kept_of state_with
fresh_kept = refl

fresh_bounded : Bounded moves fresh
fresh_bounded =
    record {
      few = omega arith;
      within = omega arith;
      opened = λ o. absurd (false≢true o);
      shut = λ o. refl;
      replaceable = λ o h. absurd (omega arith);
    }

pub fresh_whole : whole_state fresh_state ≡ true
unfolding state_keeping
fresh_whole = bounded_whole fresh fresh_bounded (λ i h. absurd (omega arith))
