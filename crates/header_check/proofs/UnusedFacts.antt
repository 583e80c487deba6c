-- What the tests of the unused words say of each section.
use Prim.Native.Nat.{ℕ, zero, suc, ◌+◌, ◌≤◌}
use native.Mathlib.Omega.{arith}
use mathlib.Core.Path.{◌≡◌, refl}
use mathlib.Core.List.{List, [], ◌∷◌, ◌++◌}
use mathlib.Core.Bool.{true}
use Rattle.words.specs.Words.{word_at}
use Rattle.words.specs.Runs.{every, zero_between, zero_in}
use Rattle.words.proofs.Bools.{and_left, and_right, chain_parts}
use Rattle.tables.specs.Layout.{for_each, event_fields, call_fields, parameter_fields, capacities}
use Rattle.header_check.specs.Unused.{production_sections, event_sections, keysym_sections, call_sections, parameter_sections, unused_ok}
use Rattle.header_check.proofs.HeaderFacts.{HeaderFacts}

-- sections of these capacities, from word s on: n words of each are used, and the others are 0
pub data Rests (l : List ℕ) : (cs ns : List ℕ) → ℕ → Type 0 where
  none : {s : ℕ} → Rests l [] [] s
  more : {c n s : ℕ} {cs ns : List ℕ} → n ≤ c → zero_between l s n c ≡ true → Rests l cs ns (s + c) → Rests l (c ∷ cs) (n ∷ ns) s

-- ---- k sections of one capacity, one after the other from word s on

abbrev pub in_row : (c k s : ℕ) → List ℕ
in_row c zero s = []
in_row c (suc k) s = s ∷ in_row c k (s + c)

abbrev past_row : (c k s : ℕ) → ℕ
past_row c zero s = s
past_row c (suc k) s = past_row c k (s + c)

abbrev times : (n k : ℕ) → List ℕ → List ℕ
times n zero ns = ns
times n (suc k) ns = n ∷ times n k ns

row_rests : (l : List ℕ) (c n k s : ℕ) {cs ns : List ℕ} → n ≤ c → zero_in l (in_row c k s) n c ≡ true → Rests l cs ns (past_row c k s)
    → Rests l (times c k cs) (times n k ns) s
unfolding zero_in
row_rests l c n zero s h e r = r
row_rests l c n (suc k) s h e r =
    let first = zero_between l s n c in
    let others = zero_in l (in_row c k (s + c)) n c in
    more h (and_left first others e) (row_rests l c n k (s + c) h (and_right first others e) r)

-- ---- All of them

-- how many words of each section the header says are used
abbrev pub used : List ℕ → List ℕ
used l =
    8
    ∷ word_at l 4 ∷ word_at l 4
    ∷ (for_each event_fields (word_at l 5) ++ (for_each call_fields (word_at l 6) ++ for_each parameter_fields (word_at l 7)))

header_used : (l : List ℕ) → zero_between l 0 8 8 ≡ true
unfolding zero_between every
header_used l = refl

pub rest_facts : (l : List ℕ) → HeaderFacts l → unused_ok l ≡ true → zero_in l keysym_sections (word_at l 5) 256 ≡ true → Rests l capacities (used l) 0
unfolding unused_ok
rest_facts l h e k =
    let r =
    chain_parts (zero_in l production_sections (word_at l 4) 64)
    (zero_in l event_sections (word_at l 5) 256 ∷ zero_in l call_sections (word_at l 6) 128 ∷ zero_in l parameter_sections (word_at l 7) 256 ∷ []) e in
    let all : 8 ≤ 8 = omega arith in
    more all (header_used l)
    (row_rests l 64 (word_at l 4) 2 8 h.productions r.0
    (row_rests l 256 (word_at l 5) 7 136 h.events r.1.0
    (row_rests l 256 (word_at l 5) 8 1928 h.events k
    (row_rests l 128 (word_at l 6) 4 3976 h.calls r.1.1.0
    (row_rests l 256 (word_at l 7) 2 4488 h.parameters r.1.1.1.0 none)))))
