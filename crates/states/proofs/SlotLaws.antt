-- Events in bytes: what is stored is read back, and bytes in which events are read are the bytes of those events.
use Prim.Native.Nat.{ℕ, zero, suc, ◌+◌, ◌*◌, ◌-◌, ◌%◌, ◌/◌, ◌≤◌, ◌<◌}
use native.Mathlib.Omega.{arith}
use native.Mathlib.Nat.{zero-add}
use Rattle.std.proofs.lemmas.Bool.Decides.{nat_tests}
use mathlib.Core.Path.{◌≡◌, refl, sym, ap, ap₂, ◌∙◌}
use mathlib.Core.Bool.{true, ◌&&◌}
use mathlib.Core.List.{List, [], ◌∷◌, ◌++◌, append-nil, append_assoc}
use native.Mathlib.Numerals.{add-one}
use Rattle.std.proofs.lemmas.List.Folds.{list_all_more}
use lib.Dec.{eqb}
use lib.ListN.{length, get_or, set, take, drop, length-set, length-append, length-drop, take-append-drop}
use lib.Seq.{take_at, drop_at, take-add, take-append-le, ext_get_or, get_or-drop, get_or-take, length-take-le, drop-append-add, sets, sets-eq, length-sets, get_or-append-add}
use Rattle.words.specs.Words.{word_at, zeros}
use Rattle.words.specs.Runs.{run, every}
use Rattle.std.specs.List.{list_all}
use Rattle.words.proofs.Laws.{length_zeros, get_d_zeros, zeros_add}
use Rattle.words.proofs.RunLaws.{every_more, length_run, get_d_run, run_append, run_more, run_last, run_list, run_same}
use Rattle.keyboard.specs.Maps.{number_from}
use Rattle.model.specs.declared.events.Event.{Event}
use Rattle.states.specs.State.{zero_event, event_bytes, event_from, event_in, slots_of, put_slot, events_bytes, in_slots, low_bytes, event_whole, used_whole, byte_zero}

-- ---- The slots of bytes

pub length_slots : (l : List ℕ) → length (slots_of l) ≡ 25
unfolding slots_of
length_slots l = length_run (event_in l) 0 25

pub in_slot : (l : List ℕ) (j : ℕ) → j < 25 → event_in l j ≡ get_or (slots_of l) j zero_event
unfolding slots_of
in_slot l j h = sym (get_d_run (event_in l) 0 25 j zero_event h ∙ ap (event_in l) (zero-add j))

-- the first n of them
pub first_slots : (l : List ℕ) (n : ℕ) → n ≤ 25 → take n (slots_of l) ≡ run (event_in l) 0 n
unfolding slots_of
first_slots l n h =
    let e : 25 ≡ n + (25 - n) = omega arith in
    ap (λ (m : ℕ). take n (run (event_in l) 0 m)) e
    ∙ ap (take n) (run_append (event_in l) 0 n (25 - n))
    ∙ take_at (run (event_in l) 0 n) (run (event_in l) (0 + n) (25 - n)) n (length_run (event_in l) 0 n)

-- ---- One event

pub event_path : (a b : Event) → a.code ≡ b.code → a.detail ≡ b.detail → a.time ≡ b.time → a.state ≡ b.state → a ≡ b
event_path a b p q r s = λ i. record { code = p i; detail = q i; time = r i; state = s i }

-- what is stored is read back
read_stored : (x : Event) (rest : List ℕ) → event_from (event_bytes x ++ rest) ≡ x
unfolding event_from event_bytes number_from
read_stored x rest =
    let s : x.state % 256 + 256 * (x.state / 256) ≡ x.state = omega arith in
    let t : x.time % 256 + 256 * (x.time / 256 % 256) + 65536 * (x.time / 65536 % 256) + 16777216 * (x.time / 16777216) ≡ x.time = omega arith in
    rw (s, t)

-- the bytes from which an event is read are those of the event
stored_read : (d : List ℕ) → 8 ≤ length d → get_or d 2 0 < 256 → get_or d 4 0 < 256 → get_or d 5 0 < 256 → get_or d 6 0 < 256
    → event_bytes (event_from d) ≡ take 8 d
unfolding event_from event_bytes number_from
stored_read [] h p q r s = absurd (omega arith)
stored_read (a ∷ []) h p q r s = absurd (omega arith)
stored_read (a ∷ b ∷ []) h p q r s = absurd (omega arith)
stored_read (a ∷ b ∷ c ∷ []) h p q r s = absurd (omega arith)
stored_read (a ∷ b ∷ c ∷ d ∷ []) h p q r s = absurd (omega arith)
stored_read (a ∷ b ∷ c ∷ d ∷ e ∷ []) h p q r s = absurd (omega arith)
stored_read (a ∷ b ∷ c ∷ d ∷ e ∷ f ∷ []) h p q r s = absurd (omega arith)
stored_read (a ∷ b ∷ c ∷ d ∷ e ∷ f ∷ g ∷ []) h p q r s = absurd (omega arith)
stored_read (a ∷ b ∷ c ∷ d ∷ e ∷ f ∷ g ∷ k ∷ l) h p q r s =
    let u : (c + 256 * d) % 256 ≡ c = omega arith in
    let v : (c + 256 * d) / 256 ≡ d = omega arith in
    let w : (e + 256 * f + 65536 * g + 16777216 * k) % 256 ≡ e = omega arith in
    let i : (e + 256 * f + 65536 * g + 16777216 * k) / 256 ≡ f + 256 * g + 65536 * k = omega arith in
    let j : (e + 256 * f + 65536 * g + 16777216 * k) / 65536 ≡ g + 256 * k = omega arith in
    let x : (f + 256 * g + 65536 * k) % 256 ≡ f = omega arith in
    let y : (g + 256 * k) % 256 ≡ g = omega arith in
    let z : (e + 256 * f + 65536 * g + 16777216 * k) / 16777216 ≡ k = omega arith in
    rw (u, v, w, i, j, x, y, z)

-- ---- One slot

-- the event in a slot, by the places of its fields
pub event_at : (l : List ℕ) (j time state : ℕ) → time ≡ number_from l (8 * j + 4) → state ≡ word_at l (4 * j + 1)
    → ◌≡◌ {A = Event} (record { code = get_or l (8 * j) 0; detail = get_or l (8 * j + 1) 0; time = time; state = state }) (event_in l j)
unfolding event_in event_from number_from word_at
event_at l j time state t s =
    let at : (k : ℕ) → get_or (drop (8 * j) l) k 0 ≡ get_or l (8 * j + k) 0 = λ k. get_or-drop (8 * j) l k 0 in
    let z : 8 * j + 0 ≡ 8 * j = omega arith in
    let a : 8 * j + 4 + 1 ≡ 8 * j + 5 = omega arith in
    let b : 8 * j + 4 + 2 ≡ 8 * j + 6 = omega arith in
    let c : 8 * j + 4 + 3 ≡ 8 * j + 7 = omega arith in
    let e : 2 * (4 * j + 1) ≡ 8 * j + 2 = omega arith in
    let f : 2 * (4 * j + 1) + 1 ≡ 8 * j + 3 = omega arith in
    rw (t, s, a, b, c, f, e, at 0, at 1, at 2, at 3, at 4, at 5, at 6, at 7, z)

pub length_put : (l : List ℕ) (j : ℕ) (x : Event) → length (put_slot l j x) ≡ length l
unfolding put_slot
length_put l j x = length-sets l (8 * j) (event_bytes x)

-- its code alone
pub slot_code : (l : List ℕ) (j : ℕ) → get_or l (8 * j) 0 ≡ (event_in l j).code
unfolding event_in event_from
slot_code l j =
    let z : 8 * j + 0 ≡ 8 * j = omega arith in
    rw (get_or-drop (8 * j) l 0 0, z)

-- the eight stores
pub stores : (l : List ℕ) (j : ℕ) (x : Event)
    → set
    (set
    (set
    (set
    (set (set (set (set l (8 * j) x.code) (8 * j + 1) x.detail) (8 * j + 2) (x.state % 256)) (8 * j + 3) (x.state / 256))
    (8 * j + 4) (x.time % 256))
    (8 * j + 5) (x.time / 256 % 256))
    (8 * j + 6) (x.time / 65536 % 256))
    (8 * j + 7) (x.time / 16777216)
    ≡ put_slot l j x
unfolding put_slot event_bytes
stores l j x =
    let a : 8 * j + 1 ≡ suc (8 * j) = omega arith in
    let b : 8 * j + 2 ≡ suc (suc (8 * j)) = omega arith in
    let c : 8 * j + 3 ≡ suc (suc (suc (8 * j))) = omega arith in
    let d : 8 * j + 4 ≡ suc (suc (suc (suc (8 * j)))) = omega arith in
    let e : 8 * j + 5 ≡ suc (suc (suc (suc (suc (8 * j))))) = omega arith in
    let f : 8 * j + 6 ≡ suc (suc (suc (suc (suc (suc (8 * j)))))) = omega arith in
    let g : 8 * j + 7 ≡ suc (suc (suc (suc (suc (suc (suc (8 * j))))))) = omega arith in
    rw (a, b, c, d, e, f, g)

-- ---- Slots tested one after the other

pub used_none : (l : List ℕ) → every (used_whole l) 0 0 ≡ true
unfolding every
used_none l = refl

pub used_more : (l : List ℕ) (n : ℕ) → every (used_whole l) 0 (n + 1) ≡ (every (used_whole l) 0 n && event_whole (event_in l n))
unfolding used_whole
used_more l n = rw (every_more, zero-add)

-- every byte of a part is zero
pub zero_part : (l : List ℕ) (k n : ℕ) → k + n ≤ length l → list_all (λ b. eqb b 0) (take n (drop k l)) ≡ every (byte_zero l) k n
unfolding every byte_zero
zero_part l k zero h = refl
zero_part l k (suc n) h =
    let m : n < length (drop k l) = omega (arith, length-drop k l) in
    ap (λ (i : ℕ). list_all (λ b. eqb b 0) (take i (drop k l))) (sym (add-one n))
    ∙ list_all_more (λ b. eqb b 0) (drop k l) n 0 m
    ∙ ap₂ ◌&&◌ (zero_part l k n (omega arith)) (ap (λ (b : ℕ). eqb b 0) (get_or-drop k l n 0))

-- ---- Events one after the other

length_event : (x : Event) → length (event_bytes x) ≡ 8
unfolding event_bytes
length_event x = refl

length_bytes : (xs : List Event) → length (events_bytes xs) ≡ 8 * length xs
unfolding events_bytes
length_bytes [] = refl
length_bytes (x ∷ xs) =
    omega (arith, length-append (event_bytes x) (events_bytes xs), length_event x, length_bytes xs)

bytes_append : (xs ys : List Event) → events_bytes (xs ++ ys) ≡ events_bytes xs ++ events_bytes ys
unfolding events_bytes
bytes_append [] ys = refl
bytes_append (x ∷ xs) ys =
    ap (λ (r : List ℕ). event_bytes x ++ r) (bytes_append xs ys) ∙ sym (append_assoc (event_bytes x) (events_bytes xs) (events_bytes ys))

pub length_in : (xs : List Event) → length xs ≤ 25 → length (in_slots xs) ≡ 200
unfolding in_slots
length_in xs h =
    omega (arith, length-append (events_bytes xs) (zeros (200 - 8 * length xs)), length_bytes xs, length_zeros (200 - 8 * length xs))

drop_event_lem : (x : Event) (r : List ℕ) (i : ℕ) → drop (8 * suc i) (event_bytes x ++ r) ≡ drop (8 * i) r
unfolding event_bytes
drop_event_lem x r i =
    let e : 8 * suc i ≡ suc (suc (suc (suc (suc (suc (suc (suc (8 * i)))))))) = omega arith in
    rw e

event_among : (xs : List Event) (r : List ℕ) (i : ℕ) → i < length xs → event_in (events_bytes xs ++ r) i ≡ get_or xs i zero_event
unfolding event_in events_bytes
event_among [] r i h = absurd (omega arith)
event_among (x ∷ xs) r zero h = ap event_from (append_assoc (event_bytes x) (events_bytes xs) r) ∙ read_stored x (events_bytes xs ++ r)
event_among (x ∷ xs) r (suc i) h =
    ap (λ (l : List ℕ). event_from (drop (8 * suc i) l)) (append_assoc (event_bytes x) (events_bytes xs) r)
    ∙ ap event_from (drop_event_lem x (events_bytes xs ++ r) i)
    ∙ event_among xs r i (omega arith)

bytes_among : (xs : List Event) (r : List ℕ) (i : ℕ) → i < length xs
    → take 8 (drop (8 * i) (events_bytes xs ++ r)) ≡ event_bytes (get_or xs i zero_event)
unfolding events_bytes event_bytes
bytes_among [] r i h = absurd (omega arith)
bytes_among (x ∷ xs) r zero h = refl
bytes_among (x ∷ xs) r (suc i) h =
    ap (λ (l : List ℕ). take 8 (drop (8 * suc i) l)) (append_assoc (event_bytes x) (events_bytes xs) r)
    ∙ ap (take 8) (drop_event_lem x (events_bytes xs ++ r) i)
    ∙ bytes_among xs r i (omega arith)

byte_among : (xs : List Event) (i k : ℕ) → i < length xs → k < 8
    → get_or (in_slots xs) (8 * i + k) 0 ≡ get_or (event_bytes (get_or xs i zero_event)) k 0
unfolding in_slots
byte_among xs i k h b =
    sym (get_or-take 8 (drop (8 * i) (events_bytes xs ++ zeros (200 - 8 * length xs))) k 0 b ∙ get_or-drop (8 * i) (events_bytes xs ++ zeros (200 - 8 * length xs)) k 0)
    ∙ ap (λ (l : List ℕ). get_or l k 0) (bytes_among xs (zeros (200 - 8 * length xs)) i h)

-- the events that are in the slots
pub slot_used : (xs : List Event) (i : ℕ) → i < length xs → event_in (in_slots xs) i ≡ get_or xs i zero_event
unfolding in_slots
slot_used xs i h = event_among xs (zeros (200 - 8 * length xs)) i h

pub take_slots : (xs : List Event) → length xs ≤ 25 → take (length xs) (slots_of (in_slots xs)) ≡ xs
take_slots xs h =
    first_slots (in_slots xs) (length xs) h
    ∙ run_list (event_in (in_slots xs)) 0 (length xs) xs zero_event refl
    (λ i b. ap (event_in (in_slots xs)) (zero-add i) ∙ slot_used xs i b)

-- every byte after them is zero
pub byte_unused : (xs : List Event) (k : ℕ) → 8 * length xs ≤ k → get_or (in_slots xs) k 0 ≡ 0
unfolding in_slots
byte_unused xs k h =
    let n = length_bytes xs in
    let e : k ≡ length (events_bytes xs) + (k - 8 * length xs) = omega arith in
    ap (λ (m : ℕ). get_or (events_bytes xs ++ zeros (200 - 8 * length xs)) m 0) e
    ∙ get_or-append-add (events_bytes xs) (zeros (200 - 8 * length xs)) (k - 8 * length xs) 0
    ∙ get_d_zeros (200 - 8 * length xs) (k - 8 * length xs)

drop_zeros : (r : List ℕ) → drop 8 (zeros 8 ++ r) ≡ r
unfolding zeros
drop_zeros r = refl

-- one event more
pub put_more : (xs : List Event) (x : Event) → length xs < 25 → put_slot (in_slots xs) (length xs) x ≡ in_slots (xs ++ (x ∷ []))
unfolding put_slot in_slots events_bytes
put_more xs x h =
    let n : length (events_bytes xs) ≡ 8 * length xs = length_bytes xs in
    let m : length (xs ++ (x ∷ [])) ≡ length xs + 1 = length-append xs (x ∷ []) in
    let o : 200 - 8 * length xs ≡ 8 + (200 - 8 * length (xs ++ (x ∷ []))) = omega arith in
    let z : zeros (200 - 8 * length xs) ≡ zeros 8 ++ zeros (200 - 8 * length (xs ++ (x ∷ [])))
    = ap zeros o ∙ sym (zeros_add 8 (200 - 8 * length (xs ++ (x ∷ [])))) in
    let b : 8 * length xs + length (event_bytes x) ≤ length (in_slots xs) = omega (arith, length_in xs (omega arith), length_event x) in
    let d : 8 * length xs + length (event_bytes x) ≡ length (events_bytes xs) + 8 = omega (arith, length_event x) in
    sets-eq (event_bytes x) (in_slots xs) (8 * length xs) b
    ∙ ap₂ (λ (p q : List ℕ). p ++ event_bytes x ++ q)
    (take_at (events_bytes xs) (zeros (200 - 8 * length xs)) (8 * length xs) n)
    (ap (λ (k : ℕ). drop k (events_bytes xs ++ zeros (200 - 8 * length xs))) d
    ∙ drop-append-add (events_bytes xs) (zeros (200 - 8 * length xs)) 8
    ∙ ap (drop 8) z ∙ drop_zeros (zeros (200 - 8 * length (xs ++ (x ∷ [])))))
    ∙ ap (λ (l : List ℕ). l ++ zeros (200 - 8 * length (xs ++ (x ∷ []))))
    (ap (λ (l : List ℕ). events_bytes xs ++ l) (sym (append-nil (event_bytes x))) ∙ sym (bytes_append xs (x ∷ [])))

-- ---- A slot that is stored into

module _ {A : Type 0} (l vs : List A) (i : ℕ) (h : i + length vs ≤ length l) where
  take_sets : take i (sets l i vs) ≡ take i l
  take_sets =
      let n = length-take-le i l (omega arith) in
      ap (take i) (sets-eq vs l i h)
      ∙ take-append-le i (take i l ++ vs) (drop (i + length vs) l) (omega (arith, length-append (take i l) vs))
      ∙ take_at (take i l) vs i n

  drop_sets : drop (i + length vs) (sets l i vs) ≡ drop (i + length vs) l
  drop_sets =
      let n = length-take-le i l (omega arith) in
      ap (drop (i + length vs)) (sets-eq vs l i h)
      ∙ drop_at (take i l ++ vs) (drop (i + length vs) l) (i + length vs) (omega (arith, length-append (take i l) vs))

  sets_again : (ws : List A) → length ws ≡ length vs → sets (sets l i vs) i ws ≡ sets l i ws
  sets_again ws e =
      let n = length-sets l i vs in
      sets-eq ws (sets l i vs) i (omega arith)
      ∙ ap₂ (λ (p q : List A). p ++ ws ++ q) take_sets
      (ap (λ (k : ℕ). drop (i + k) (sets l i vs)) e ∙ drop_sets ∙ ap (λ (k : ℕ). drop (i + k) l) (sym e))
      ∙ sym (sets-eq ws l i (omega arith))

module _ (l : List ℕ) (k : ℕ) (x : Event) (h : 8 * k + 8 ≤ length l) where
  -- it holds the event
  put_same : event_in (put_slot l k x) k ≡ x
  unfolding event_in put_slot
  put_same =
      let n = length-take-le (8 * k) l (omega arith) in
      let b : 8 * k + length (event_bytes x) ≤ length l = omega (arith, length_event x) in
      ap (λ (p : List ℕ). event_from (drop (8 * k) p))
      (sets-eq (event_bytes x) l (8 * k) b ∙ append_assoc (take (8 * k) l) (event_bytes x) (drop (8 * k + length (event_bytes x)) l))
      ∙ ap event_from (drop_at (take (8 * k) l) (event_bytes x ++ drop (8 * k + length (event_bytes x)) l) (8 * k) n)
      ∙ read_stored x (drop (8 * k + length (event_bytes x)) l)

  put_below : (i j : ℕ) → i < k → j < 8 → get_or (drop (8 * i) (put_slot l k x)) j 0 ≡ get_or (drop (8 * i) l) j 0
  unfolding put_slot
  put_below i j b c =
      let n : 8 * i + j < 8 * k = omega arith in
      get_or-drop (8 * i) (sets l (8 * k) (event_bytes x)) j 0
      ∙ sym (get_or-take (8 * k) (sets l (8 * k) (event_bytes x)) (8 * i + j) 0 n)
      ∙ ap (λ (p : List ℕ). get_or p (8 * i + j) 0) (take_sets l (event_bytes x) (8 * k) (omega (arith, length_event x)))
      ∙ get_or-take (8 * k) l (8 * i + j) 0 n
      ∙ sym (get_or-drop (8 * i) l j 0)

  -- those before it hold what they held
  put_before : (i : ℕ) → i < k → event_in (put_slot l k x) i ≡ event_in l i
  unfolding event_in event_from number_from
  put_before i b =
      let at : (j : ℕ) → j < 8 → get_or (drop (8 * i) (put_slot l k x)) j 0 ≡ get_or (drop (8 * i) l) j 0 = λ j c. put_below i j b c in
      rw (at 0 (omega arith), at 1 (omega arith), at 2 (omega arith), at 3 (omega arith), at 4 (omega arith), at 5 (omega arith), at 6 (omega arith), at 7 (omega arith))

-- what was in it is gone
put_again : (l : List ℕ) (k : ℕ) (m x : Event) → 8 * k + 8 ≤ length l → put_slot (put_slot l k m) k x ≡ put_slot l k x
unfolding put_slot
put_again l k m x h =
    let a = length_event m in
    let b = length_event x in
    sets_again l (event_bytes m) (8 * k) (omega arith) (event_bytes x) (omega arith)

-- the slots up to it
pub take_put : (l : List ℕ) (k : ℕ) (x : Event) → length l ≡ 200 → k < 25
    → take (k + 1) (slots_of (put_slot l k x)) ≡ take k (slots_of l) ++ (x ∷ [])
take_put l k x n h =
    let b : 8 * k + 8 ≤ length l = omega arith in
    first_slots (put_slot l k x) (k + 1) (omega arith)
    ∙ run_more (event_in (put_slot l k x)) 0 k
    ∙ ap₂ (λ (p : List Event) (y : Event). p ++ (y ∷ []))
    (run_same (event_in (put_slot l k x)) (event_in l) 0 0 k (λ i c. rw zero-add (put_before l k x b i c)) ∙ sym (first_slots l k (omega arith)))
    (ap (event_in (put_slot l k x)) (zero-add k) ∙ put_same l k x b)

-- another event in the place of the last
pub put_last : (ys : List Event) (m x : Event) → length ys < 25
    → put_slot (in_slots (ys ++ (m ∷ []))) (length ys) x ≡ in_slots (ys ++ (x ∷ []))
put_last ys m x h =
    let n = length_in ys (omega arith) in
    ap (λ (l : List ℕ). put_slot l (length ys) x) (sym (put_more ys m h))
    ∙ put_again (in_slots ys) (length ys) m x (omega arith)
    ∙ put_more ys x h

-- ---- Bytes in which events are read

-- the low bytes of slot i
record Low (l : List ℕ) (i : ℕ) : Type 0 where
  second : get_or l (8 * i + 2) 0 < 256
  fourth : get_or l (8 * i + 4) 0 < 256
  fifth : get_or l (8 * i + 5) 0 < 256
  sixth : get_or l (8 * i + 6) 0 < 256

low_parts : (l : List ℕ) (i : ℕ) → low_bytes l i ≡ true → Low l i
unfolding low_bytes
low_parts l i q =
    record {
      second = grind (arith, nat_tests);
      fourth = grind (arith, nat_tests);
      fifth = grind (arith, nat_tests);
      sixth = grind (arith, nat_tests);
    }

low_all : (l : List ℕ) (i : ℕ) → Low l i → low_bytes l i ≡ true
unfolding low_bytes
low_all l i w = grind (arith, nat_tests, w.second, w.fourth, w.fifth, w.sixth)

-- of bytes they are
pub low_bytes_lem : (l : List ℕ) (i : ℕ) → ((k : ℕ) → k < length l → get_or l k 0 < 256) → 8 * i + 8 ≤ length l → low_bytes l i ≡ true
low_bytes_lem l i h m =
    low_all l i
    (record {
      second = h (8 * i + 2) (omega arith);
      fourth = h (8 * i + 4) (omega arith);
      fifth = h (8 * i + 5) (omega arith);
      sixth = h (8 * i + 6) (omega arith);
    })

-- of events in slots they are
pub low_used : (xs : List Event) (i : ℕ) → i < length xs → low_bytes (in_slots xs) i ≡ true
unfolding event_bytes
low_used xs i h =
    low_all (in_slots xs) i
    (record {
      second = rw (byte_among xs i 2 h (omega arith)) (omega arith);
      fourth = rw (byte_among xs i 4 h (omega arith)) (omega arith);
      fifth = rw (byte_among xs i 5 h (omega arith)) (omega arith);
      sixth = rw (byte_among xs i 6 h (omega arith)) (omega arith);
    })

slot_bytes_lem : (l : List ℕ) (n : ℕ) → 8 ≤ length (drop (8 * n) l) → Low l n → event_bytes (event_in l n) ≡ take 8 (drop (8 * n) l)
unfolding event_in
slot_bytes_lem l n m o =
    stored_read (drop (8 * n) l) m (rw (get_or-drop (8 * n) l 2 0) o.second) (rw (get_or-drop (8 * n) l 4 0) o.fourth)
    (rw (get_or-drop (8 * n) l 5 0) o.fifth) (rw (get_or-drop (8 * n) l 6 0) o.sixth)

bytes_read : (l : List ℕ) (n : ℕ) → 8 * n ≤ length l → ((i : ℕ) → i < n → low_bytes l i ≡ true)
    → events_bytes (run (event_in l) 0 n) ≡ take (8 * n) l
unfolding events_bytes run
bytes_read l zero h w = refl
bytes_read l (suc n) h w =
    let m : 8 ≤ length (drop (8 * n) l) = omega (arith, length-drop (8 * n) l) in
    let o = low_parts l n (w n (omega arith)) in
    let e : 8 * suc n ≡ 8 * n + 8 = omega arith in
    let r : event_bytes (event_in l n) ≡ take 8 (drop (8 * n) l) = slot_bytes_lem l n m o in
    ap events_bytes (run_last (event_in l) 0 n ∙ ap (λ (k : ℕ). run (event_in l) 0 n ++ (event_in l k ∷ [])) (zero-add n))
    ∙ bytes_append (run (event_in l) 0 n) (event_in l n ∷ [])
    ∙ ap₂ (λ (p q : List ℕ). p ++ q) (bytes_read l n (omega arith) (λ i b. w i (omega arith))) (append-nil (event_bytes (event_in l n)) ∙ r)
    ∙ sym (ap (λ (k : ℕ). take k l) e ∙ take-add (8 * n) 8 l)

-- bytes that hold n events and then zero are the bytes of those events
pub slots_read : (l : List ℕ) (n : ℕ) → length l ≡ 200 → n ≤ 25 → ((i : ℕ) → i < n → low_bytes l i ≡ true)
    → ((k : ℕ) → 8 * n ≤ k → k < 200 → get_or l k 0 ≡ 0) → in_slots (take n (slots_of l)) ≡ l
unfolding in_slots
slots_read l n h m w z =
    let c : length (take n (slots_of l)) ≡ n = length-take-le n (slots_of l) (omega (arith, length_slots l)) in
    ap₂ (λ (p : List ℕ) (k : ℕ). p ++ zeros (200 - 8 * k)) (ap events_bytes (first_slots l n m) ∙ bytes_read l n (omega arith) w) c
    ∙ ap (λ (p : List ℕ). take (8 * n) l ++ p) rest
    ∙ take-append-drop (8 * n) l
  where
    rest : zeros (200 - 8 * n) ≡ drop (8 * n) l
    rest =
        let a = length_zeros (200 - 8 * n) in
        let b = length-drop (8 * n) l in
        ext_get_or 0 (zeros (200 - 8 * n)) (drop (8 * n) l) (omega arith)
        (λ i f. get_d_zeros (200 - 8 * n) i ∙ sym (get_or-drop (8 * n) l i 0 ∙ z (8 * n + i) (omega arith) (omega arith)))
