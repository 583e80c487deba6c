-- No name is longer than a spelling tells, each is made of bytes, and a word with a name's spelling is the name. Assumes nothing.
use Prim.Native.Nat.{ℕ, zero, suc, ◌+◌, ◌≤◌, ◌<◌}
use native.Mathlib.Omega.{arith}
use mathlib.Core.Path.{◌≡◌, refl, sym, ap, ◌∙◌}
use mathlib.Core.Bool.{Bool, true, ◌&&◌}
use mathlib.Core.List.{List, [], ◌∷◌, ◌++◌}
use lib.Dec.{eqb, leb, ltb}
use lib.ListN.{length, take, drop, get_or, length-take, length-drop, take-append-drop}
use lib.Seq.{take_all, get_or-drop}
use borrow.Author.Tests.{eqb-true, leb-true, ltb-true, eq-eqb}
use Rattle.words.proofs.Bools.{and_left, and_right, same_test}
use Rattle.model.specs.Lists.{all, same}
use Rattle.model.proofs.Sameness.{same_eq, same_refl}
use Rattle.model.specs.Names.{modifier_entries, type_entries, protocol_entries, synonym_entries, abbreviation_entries}
use Rattle.model.specs.Details.{keysym_entries, button_entries, motion_entries, mode_entries, request_entries}
use Rattle.names.specs.Groups.{modifier_groups, modifier_table, type_groups, type_table}
use Rattle.names.specs.Table.{all_names, other_names, name_row, directive_entries, packed, spelling_of, Bytes, longest_name}
use Rattle.names.specs.declared.table.Spelling.{Spelling}

-- ---- Every name

abbrev is_byte : ℕ → Bool
is_byte b = ltb b 256

abbrev fits : List ℕ → Bool
fits n = leb (length n) longest_name && all is_byte n

all_fit : all fits all_names ≡ true
unfolding all_names other_names directive_entries keysym_entries button_entries motion_entries mode_entries request_entries modifier_table modifier_groups modifier_entries type_table type_groups type_entries protocol_entries synonym_entries abbreviation_entries
all_fit = refl

module _ {A : Type 0} where
  -- a test that every element passes is passed at each place, if the element past the end passes it too
  at_each : (test : A → Bool) (xs : List A) (d : A) → all test xs ≡ true → test d ≡ true → (i : ℕ) → test (get_or xs i d) ≡ true
  at_each test [] d e p i = p
  at_each test (x ∷ xs) d e p zero = and_left (test x) (all test xs) e
  at_each test (x ∷ xs) d e p (suc i) = at_each test xs d (and_right (test x) (all test xs) e) p i

row_fits : (k : ℕ) → fits (name_row k) ≡ true
unfolding name_row
row_fits k = at_each fits all_names [] all_fit refl k

pub row_length : (k : ℕ) → length (name_row k) ≤ longest_name
row_length k = leb-true (length (name_row k)) longest_name (and_left (leb (length (name_row k)) longest_name) (all is_byte (name_row k)) (row_fits k))

pub row_bytes : (k : ℕ) → Bytes (name_row k)
row_bytes k i =
    ltb-true (get_or (name_row k) i 0) 256
    (at_each is_byte (name_row k) 0 (and_right (leb (length (name_row k)) longest_name) (all is_byte (name_row k)) (row_fits k)) refl i)

-- ---- A word by its spelling

packed_same : (v w : List ℕ) → length v ≡ length w → Bytes v → Bytes w → packed v ≡ packed w → v ≡ w
packed_same [] [] l p q e = refl
packed_same [] (y ∷ ys) l p q e = absurd (omega (arith, l))
packed_same (x ∷ xs) [] l p q e = absurd (omega (arith, l))
packed_same (x ∷ xs) (y ∷ ys) l p q e =
    let bx : x < 256 = p 0 in
    let by : y < 256 = q 0 in
    let t : xs ≡ ys = packed_same xs ys (omega (arith, l)) (λ i. p (suc i)) (λ i. q (suc i)) (omega (arith, e)) in
    let h : x ≡ y = omega (arith, e) in
    cc

take_bytes : (n : ℕ) (l : List ℕ) → Bytes l → Bytes (take n l)
take_bytes zero l b i = omega arith
take_bytes (suc n) [] b i = omega arith
take_bytes (suc n) (x ∷ xs) b zero = b 0
take_bytes (suc n) (x ∷ xs) b (suc i) = take_bytes n xs (λ k. b (suc k)) i

drop_bytes : (n : ℕ) (l : List ℕ) → Bytes l → Bytes (drop n l)
drop_bytes n l b i = rw get_or-drop (b (n + i))

module _ (v w : List ℕ) (hv : length v ≤ longest_name) (hw : length w ≤ longest_name) (bv : Bytes v) (bw : Bytes w) where
  -- two words with the same spelling are the same
  spelled_eq : length v ≡ length w → packed (take 8 v) ≡ packed (take 8 w) → packed (take 8 (drop 8 v)) ≡ packed (take 8 (drop 8 w)) → v ≡ w
  spelled_eq l p q =
      let low : take 8 v ≡ take 8 w = packed_same (take 8 v) (take 8 w) (simp length-take (rw l)) (take_bytes 8 v bv) (take_bytes 8 w bw) p in
      let high : take 8 (drop 8 v) ≡ take 8 (drop 8 w) =
      packed_same (take 8 (drop 8 v)) (take 8 (drop 8 w)) (simp (length-take, length-drop) (rw l))
      (take_bytes 8 (drop 8 v) (drop_bytes 8 v bv)) (take_bytes 8 (drop 8 w) (drop_bytes 8 w bw)) q
      in
      let rest : drop 8 v ≡ drop 8 w =
      sym (take_all 8 (drop 8 v) (simp length-drop (omega arith))) ∙ high ∙ take_all 8 (drop 8 w) (simp length-drop (omega arith))
      in
      sym (take-append-drop 8 v) ∙ ap (λ (l : List ℕ). l ++ drop 8 v) low ∙ ap (λ (r : List ℕ). take 8 w ++ r) rest ∙ take-append-drop 8 w

-- two spellings have the same numbers
abbrev same_numbers : Spelling → Spelling → Bool
same_numbers a b = eqb a.0 b.0 && (eqb a.1 b.1 && eqb a.2 b.2)

self_same : (a : Spelling) → same_numbers a a ≡ true
self_same a = rw (eq-eqb a.0 a.0 refl, eq-eqb a.1 a.1 refl, eq-eqb a.2 a.2 refl)

-- a word is a name where their spellings have the same numbers
pub same_spelled : (v w : List ℕ) → length v ≤ longest_name → length w ≤ longest_name → Bytes v → Bytes w
    → same v w ≡ same_numbers (spelling_of v) (spelling_of w)
unfolding spelling_of
same_spelled v w hv hw bv bw = same_test (same v w) (same_numbers (spelling_of v) (spelling_of w)) to_numbers from_numbers
  where
    to_numbers : same v w ≡ true → same_numbers (spelling_of v) (spelling_of w) ≡ true
    to_numbers q = rw (← same_eq v w q) (self_same (spelling_of v))

    from_numbers : same_numbers (spelling_of v) (spelling_of w) ≡ true → same v w ≡ true
    from_numbers p =
        let l = eqb-true (length v) (length w) (and_left _ _ p) in
        let m = and_right (eqb (length v) (length w)) _ p in
        let e = spelled_eq v w hv hw bv bw l (eqb-true _ _ (and_left _ _ m)) (eqb-true _ _ (and_right (eqb (packed (take 8 v)) (packed (take 8 w))) _ m)) in
        rw (← e) (same_refl v)
