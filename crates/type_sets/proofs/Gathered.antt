-- The set gathered from the words of a table's events is the set of their types: bit by bit it is the scan for one type.
use Prim.Native.Nat.{ℕ, zero, suc, ◌+◌, ◌*◌, ◌/◌, ◌%◌, ◌^◌, ◌≤◌, ◌<◌}
use native.Mathlib.Omega.{arith}
use native.Mathlib.Nat.{mod-eq_of_lt, zero-add}
use borrow.Author.Tests.{ltb-true}
use Rattle.std.proofs.lemmas.Bool.Decides.{nat_tests}
use mathlib.Core.Path.{◌≡◌, refl, sym, ap, ap₂, ◌∙◌}
use mathlib.Core.Bool.{Bool, true, false, cond, not, ◌&&◌, ◌||◌}
use mathlib.Core.List.{List}
use lib.Bits.{bit_or, or_lt}
use lib.Dec.{eqb, leb, ltb}
use lib.Pow.{pow-lt}
use Rattle.words.specs.Words.{word_at}
use Rattle.words.proofs.RunLaws.{every_at}
use Rattle.model.specs.Modifiers.{bit}
use Rattle.modifiers.proofs.Digits.{digit, bit_none, bit_or_lem, bit_power}
use Rattle.modifiers.proofs.Masks.{digit_odd, same_bits}
use Rattle.tables.specs.Layout.{codes_at, counts_at}
use Rattle.tables.specs.Reading.{event_total, event_entry, decode}
use Rattle.fields.proofs.TableFacts.{EntryFacts, TableFacts}
use Rattle.types.specs.Types.{any_below, other_code, has_either}
use Rattle.types.proofs.TypeLaws.{either_type}
use Rattle.type_sets.specs.TypeSet.{names_type, type_set}
use Rattle.type_sets.specs.Scan.{masks_joined, code_at, counted_at, code_bit, low_bit, pairs_of, types_gathered}
use Rattle.type_sets.proofs.TypeMask.{mask_below_lt, bit_mask_below}
use Rattle.type_sets.proofs.Joined.{bit_joined, joined_below, joined_same, joined_map, joined_each}

-- ---- Tests of the first events

either_below : (f g : ℕ → Bool) (n : ℕ) → any_below f n || any_below g n ≡ any_below (λ i. f i || g i) n
unfolding any_below
either_below f g zero = refl
either_below f g (suc n) = grind (arith, either_below f g n)

same_below : (f g : ℕ → Bool) (n : ℕ) → ((i : ℕ) → i < n → f i ≡ g i) → any_below f n ≡ any_below g n
unfolding any_below
same_below f g zero e = refl
same_below f g (suc n) e = ap₂ ◌||◌ (same_below f g n (λ i h. e i (omega arith))) (e n (omega arith))

-- ---- Counted events

or_pairs : (a b c d : Bool)
    → 12 * digit (a || b) + 48 * digit (c || d) ≡ bit_or (12 * digit a + 48 * digit c) (12 * digit b + 48 * digit d)
or_pairs true true true true = refl
or_pairs true true true false = refl
or_pairs true true false true = refl
or_pairs true true false false = refl
or_pairs true false true true = refl
or_pairs true false true false = refl
or_pairs true false false true = refl
or_pairs true false false false = refl
or_pairs false true true true = refl
or_pairs false true true false = refl
or_pairs false true false true = refl
or_pairs false true false false = refl
or_pairs false false true true = refl
or_pairs false false true false = refl
or_pairs false false false true = refl
or_pairs false false false false = refl

pairs_bits : (t : ℕ) → pairs_of t ≡ 12 * digit (bit 1 t) + 48 * digit (bit 2 t)
unfolding pairs_of
pairs_bits t = ap₂ (λ (x y : ℕ). 12 * x + 48 * y) (sym (digit_odd (t / 2))) (sym (digit_odd (t / 4)))

pairs_join : (x y : ℕ) → pairs_of (bit_or x y) ≡ bit_or (pairs_of x) (pairs_of y)
pairs_join x y =
    pairs_bits (bit_or x y)
    ∙ ap₂ (λ (a b : Bool). 12 * digit a + 48 * digit b) (bit_or_lem 1 x y) (bit_or_lem 2 x y)
    ∙ or_pairs (bit 1 x) (bit 1 y) (bit 2 x) (bit 2 y)
    ∙ sym (ap₂ bit_or (pairs_bits x) (pairs_bits y))

-- what one event of this code and count adds
abbrev pair_bits : (code count : ℕ) → ℕ
pair_bits code count = cond (eqb count 1) 0 (cond (ltb code 4) 12 48)

pairs_added : (own count : ℕ) → 2 ≤ own → 1 ≤ count → (leb count 1 || leb own 5) ≡ true
    → pairs_of (cond (eqb count 1) 0 own) ≡ pair_bits own count
unfolding pairs_of
pairs_added own count low least few = grind (arith, nat_tests)

-- ---- One event

key_pair : (c : ℕ) → bit c 12 ≡ eqb 2 c || eqb 3 c
key_pair c = bit_or_lem c 4 8 ∙ ap₂ ◌||◌ (bit_power c 2) (bit_power c 3)

button_pair : (c : ℕ) → bit c 48 ≡ eqb 4 c || eqb 5 c
button_pair c = bit_or_lem c 16 32 ∙ ap₂ ◌||◌ (bit_power c 4) (bit_power c 5)

words_have : (own count c : ℕ) → 2 ≤ own → 1 ≤ count → (leb count 1 || leb own 5) ≡ true
    → eqb own c || bit c (pair_bits own count) ≡ eqb own c || (eqb own (other_code c) && not (eqb count 1))
words_have own count c low least few = grind (arith, nat_tests, bit_none c, key_pair c, button_pair c)

pairs_below : (own count : ℕ) → pair_bits own count < 64
pairs_below own count = grind (arith, nat_tests)

-- ---- All events

module _ (l : List ℕ) (f : TableFacts l) where
  abbrev n : ℕ
  n = event_total l

  code_bit_lem : (i : ℕ) → i < n → code_bit l i ≡ 2 ^ (event_entry l i).code
  unfolding code_bit code_at
  code_bit_lem i h =
      let e : EntryFacts l i = f.entry i h in
      let m : (event_entry l i).code % 64 ≡ (event_entry l i).code = mod-eq_of_lt (omega (arith, e.code_high)) in
      rw (e.code_word, m)

  -- what event i adds for its count
  abbrev pair_at : ℕ → ℕ
  pair_at i = pair_bits (word_at l (codes_at + i)) (word_at l (counts_at + i))

  event_has : (c i : ℕ) → i < n → bit c (code_bit l i) || bit c (pair_at i) ≡ has_either l c (other_code c) i
  unfolding has_either
  event_has c i h =
      let e : EntryFacts l i = f.entry i h in
      rw (code_bit_lem i h, e.code_word, e.count_word)
      (ap (λ (b : Bool). b || bit c (pair_bits (event_entry l i).code (event_entry l i).count)) (bit_power c (event_entry l i).code)
      ∙ words_have (event_entry l i).code (event_entry l i).count c e.code_low e.count_low e.counted)

  -- codes that are all below 32 have the same bits in 32 as in 64
  low_same : ltb (masks_joined (code_at l) 0 n) 32 ≡ true → masks_joined (low_bit l) 0 n ≡ masks_joined (code_bit l) 0 n
  unfolding low_bit code_bit
  low_same q = joined_same (low_bit l) (code_bit l) 0 n (λ i h. same i h)
    where
      same : (i : ℕ) → i < n → low_bit l (0 + i) ≡ code_bit l (0 + i)
      same i h =
          let b : code_at l (0 + i) < 32 = ltb-true (code_at l (0 + i)) 32 (every_at (λ k. ltb (code_at l k) 32) 0 n i (sym (joined_each (code_at l) 0 5 n) ∙ q) h) in
          let a : code_at l (0 + i) % 32 ≡ code_at l (0 + i) = mod-eq_of_lt b in
          let c : code_at l (0 + i) % 64 ≡ code_at l (0 + i) = mod-eq_of_lt (omega arith) in
          rw (a, c)

  codes_are : (b : Bool) → ltb (masks_joined (code_at l) 0 n) 32 ≡ b → cond b (masks_joined (low_bit l) 0 n) (masks_joined (code_bit l) 0 n) ≡ masks_joined (code_bit l) 0 n
  codes_are true q = low_same q
  codes_are false q = refl

  pairs_none : pairs_of 0 ≡ 0
  unfolding pairs_of
  pairs_none = refl

  pair_at_lem : (i : ℕ) → i < n → pairs_of (counted_at l (0 + i)) ≡ pair_at (0 + i)
  unfolding counted_at code_at
  pair_at_lem i h =
      let e : EntryFacts l i = f.entry i h in
      rw (zero-add, e.code_word, e.count_word)
      (pairs_added (event_entry l i).code (event_entry l i).count e.code_low e.count_low e.counted)

  pairs_are : pairs_of (masks_joined (counted_at l) 0 n) ≡ masks_joined pair_at 0 n
  pairs_are =
      joined_map pairs_of pairs_none pairs_join (counted_at l) 0 n
      ∙ joined_same (λ i. pairs_of (counted_at l i)) pair_at 0 n (λ i h. pair_at_lem i h)

  gathered_is : types_gathered l n ≡ bit_or (masks_joined (code_bit l) 0 n) (masks_joined pair_at 0 n)
  unfolding types_gathered
  gathered_is = ap₂ bit_or (codes_are (ltb (masks_joined (code_at l) 0 n) 32) refl) pairs_are

  bits : (c : ℕ) → bit c (types_gathered l n) ≡ names_type (decode l).productions c
  bits c =
      ap (bit c) gathered_is
      ∙ bit_or_lem c (masks_joined (code_bit l) 0 n) (masks_joined pair_at 0 n)
      ∙ ap₂ ◌||◌ (bit_joined (code_bit l) c n) (bit_joined pair_at c n)
      ∙ either_below (λ i. bit c (code_bit l i)) (λ i. bit c (pair_at i)) n
      ∙ same_below (λ i. bit c (code_bit l i) || bit c (pair_at i)) (has_either l c (other_code c)) n (λ i h. event_has c i h)
      ∙ either_type c l f

  code_below : (i : ℕ) → i < n → code_bit l i < 2 ^ 35
  code_below i h =
      let e : EntryFacts l i = f.entry i h in
      let b : (event_entry l i).code < 35 = omega (arith, e.code_high) in
      rw (code_bit_lem i h) (pow-lt b)

  pair_below : (i : ℕ) → pair_at i < 2 ^ 35
  pair_below i = let b = pairs_below (word_at l (codes_at + i)) (word_at l (counts_at + i)) in omega arith

  gathered_below : types_gathered l n < 2 ^ 35
  gathered_below =
      rw gathered_is
      (or_lt 35 (masks_joined (code_bit l) 0 n) (masks_joined pair_at 0 n)
      (joined_below (code_bit l) 0 35 n (λ i h. rw zero-add (code_below i h)))
      (joined_below pair_at 0 35 n (λ i h. pair_below (0 + i))))

  -- the scan gives the set
  pub gathered_types : types_gathered l (event_total l) ≡ type_set (decode l).productions
  unfolding type_set
  gathered_types =
      same_bits 35 (types_gathered l n) (type_set (decode l).productions) gathered_below (mask_below_lt 35 (names_type (decode l).productions))
      (λ c h. bits c ∙ sym (bit_mask_below 35 (names_type (decode l).productions) c h))
