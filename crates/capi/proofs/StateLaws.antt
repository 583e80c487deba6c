-- A whole state and its bytes determine each other.
use Prim.Native.Nat.{ℕ, zero, suc, ◌+◌, ◌≤◌, ◌<◌}
use native.Mathlib.Omega.{arith}
use borrow.Author.Tests.{leb-true, eqb-true}
use mathlib.Core.Path.{◌≡◌, refl, sym, ap, ap₂, ◌∙◌}
use mathlib.Core.Bool.{Bool, true, false, cond, ◌&&◌}
use mathlib.Core.List.{List, [], ◌∷◌, ◌++◌, append_assoc}
use lib.Dec.{eqb, leb}
use lib.ListN.{length, get_or, take, drop, length-append, length-drop, take-append-drop}
use lib.Seq.{length-take-le, take_at, drop_at, take-add, get_or-drop, ext_get_or}
use Rattle.words.specs.Words.{word_bytes, word_at, zeros}
use Rattle.words.specs.Runs.{run}
use Rattle.words.proofs.Bools.{and_left, and_right}
use Rattle.words.proofs.Laws.{length_zeros, get_d_zeros}
use Rattle.words.proofs.Images.{word_image, bytes_run}
use Rattle.states.specs.declared.State.{State}
use Rattle.states.specs.State.{whole_state, in_slots, state_with, fresh_state}
use Rattle.states.specs.State as slots
use Rattle.states.proofs.StateLaws.{StateFacts, state_facts}
use Rattle.capi.specs.State.{marks_of, store, marks_read, load_events, load}
use Rattle.capi.specs.Laws.{StateLaws}
use Rattle.capi.proofs.StateBytes.{state_path, length_marks}

-- ---- Store, then load

open_mark : (b : Bool) → eqb (cond b 1 0) 1 ≡ b
open_mark true = refl
open_mark false = refl

open_small : (b : Bool) → cond b 1 0 ≤ 1
open_small true = omega arith
open_small false = omega arith

marks_ok : (b : Bool) → (leb (cond b 1 0) 1 && eqb 0 0) ≡ true
marks_ok true = refl
marks_ok false = refl

module _ (s : State) (f : StateFacts s) where
  length_events : length (take 192 s.events) ≡ 192
  length_events = length-take-le 192 s.events (omega (arith, f.long))

  -- the 25th slot is zero
  last_slot : drop 192 s.events ≡ zeros 8
  last_slot =
      ext_get_or 0 (drop 192 s.events) (zeros 8)
      (omega (arith, length-drop 192 s.events, f.long, length_zeros 8))
      (λ i h.
      let m = f.few in
      let b : 192 + i < 200 = omega (arith, length-drop 192 s.events, f.long) in
      get_or-drop 192 s.events i 0 ∙ f.unused (192 + i) (omega arith) b ∙ sym (get_d_zeros 8 i))

  module _ (rest : List ℕ) where
    abbrev after : List ℕ
    after = take 192 s.events ++ rest

    abbrev bytes : List ℕ
    bytes = word_bytes (marks_of s) ++ after

    word : (k : ℕ) → k < 4 → get_or (marks_of s) k 0 < 65536 → word_at bytes k ≡ get_or (marks_of s) k 0
    word k h b = word_image (marks_of s) after k h b

    word_kept : word_at bytes 0 ≡ s.kept
    word_kept = let m = f.few in word 0 (omega arith) (omega arith)

    word_selected : word_at bytes 1 ≡ s.selected
    word_selected = let m = f.few in let n = f.within in word 1 (omega arith) (omega arith)

    word_open : word_at bytes 2 ≡ cond s.«open» 1 0
    word_open = let m = open_small s.«open» in word 2 (omega arith) (omega arith)

    word_zero : word_at bytes 3 ≡ 0
    word_zero = word 3 (omega arith) (omega arith)

    read : marks_read bytes ≡ true
    unfolding marks_read
    read = ap₂ (λ (a b : ℕ). leb a 1 && eqb b 0) word_open word_zero ∙ marks_ok s.«open»

    events_back : load_events bytes ≡ s.events
    unfolding load_events
    events_back =
        ap (λ (l : List ℕ). take 192 l ++ zeros 8) (drop_at (word_bytes (marks_of s)) after 8 (length_marks (marks_of s) refl))
        ∙ ap₂ (λ (a b : List ℕ). a ++ b) (take_at (take 192 s.events) rest 192 length_events) (sym last_slot)
        ∙ take-append-drop 192 s.events

    bytes_back : load bytes ≡ s
    unfolding load
    bytes_back =
        state_path (load bytes) s
        (ap (λ (b : Bool). cond b (word_at bytes 0) 25) read ∙ word_kept)
        word_selected
        (ap (λ (n : ℕ). eqb n 1) word_open ∙ open_mark s.«open»)
        events_back

    pub state_back : load (store s ++ rest) ≡ s
    unfolding store
    state_back = ap load (append_assoc (word_bytes (marks_of s)) (take 192 s.events) rest) ∙ bytes_back

  pub length_store : length (store s) ≡ 200
  unfolding store
  length_store = omega (arith, length-append (word_bytes (marks_of s)) (take 192 s.events), length_marks (marks_of s) refl, length_events)

-- ---- Load, then store

mark_open : (n : ℕ) → leb n 1 ≡ true → cond (eqb n 1) 1 0 ≡ n
mark_open zero h = refl
mark_open (suc zero) h = refl
mark_open (suc (suc n)) h = let k = leb-true (suc (suc n)) 1 h in absurd (omega arith)

words_path : (a b c d p q r : ℕ) → a ≡ p → c ≡ q → d ≡ r → ◌≡◌ {A = List ℕ} (a ∷ b ∷ c ∷ d ∷ []) (p ∷ b ∷ q ∷ r ∷ [])
words_path a b c d p q r e f g = λ i. e i ∷ b ∷ f i ∷ g i ∷ []

module _ (l : List ℕ) (w : whole_state (load l) ≡ true) where
  marks_of_whole : (b : Bool) → marks_read l ≡ b → b ≡ true
  unfolding load
  marks_of_whole true e = refl
  marks_of_whole false e =
      let m : cond (marks_read l) (word_at l 0) 25 ≤ 24 = (state_facts (load l) w).few in
      let n : 25 ≤ 24 = rw e at m in
      absurd (omega arith)

  is_read : marks_read l ≡ true
  is_read = marks_of_whole (marks_read l) refl

  marks_words : marks_of (load l) ≡ run (word_at l) 0 4
  unfolding load run marks_read
  marks_words =
      words_path (cond (marks_read l) (word_at l 0) 25) (word_at l 1) (cond (eqb (word_at l 2) 1) 1 0) 0 (word_at l 0) (word_at l 2) (word_at l 3)
      (ap (λ (b : Bool). cond b (word_at l 0) 25) is_read)
      (mark_open (word_at l 2) (and_left (leb (word_at l 2) 1) (eqb (word_at l 3) 0) is_read))
      (sym (eqb-true (word_at l 3) 0 (and_right (leb (word_at l 2) 1) (eqb (word_at l 3) 0) is_read)))

  pub store_load : ((i : ℕ) → get_or l i 0 < 256) → 200 ≤ length l → l ≡ store (load l) ++ drop 200 l
  unfolding store load load_events
  store_load b h =
      let e : take 8 l ≡ word_bytes (marks_of (load l)) = bytes_run l 0 4 b (omega arith) ∙ ap word_bytes (sym marks_words) in
      let k : 192 ≤ length (drop 8 l) = omega (arith, length-drop 8 l) in
      let g = sym (take_at (take 192 (drop 8 l)) (zeros 8) 192 (length-take-le 192 (drop 8 l) k)) in
      sym (take-append-drop 200 l) ∙ ap (λ (x : List ℕ). x ++ drop 200 l) (take-add 8 192 l ∙ ap₂ (λ (x y : List ℕ). x ++ y) e g)

-- ---- The fresh state

pub fresh_bytes_lem : store fresh_state ≡ zeros 200
unfolding store word_bytes state_with in_slots slots.events_bytes zeros
fresh_bytes_lem = refl

pub state_laws : StateLaws
state_laws =
    record {
      long = λ s w. length_store s (state_facts s w);
      back = λ s w rest. state_back s (state_facts s w) rest;
      exact = λ l b h w. store_load l w b h;
    }
