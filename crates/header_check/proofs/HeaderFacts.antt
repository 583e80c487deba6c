-- What the tests of the header say of its words.
use Prim.Native.Nat.{ℕ, ◌≤◌}
use mathlib.Core.Path.{◌≡◌}
use mathlib.Core.List.{List, [], ◌∷◌}
use mathlib.Core.Bool.{true, ◌||◌}
use lib.Dec.{leb, eqb}
use borrow.Author.Tests.{leb-true}
use Rattle.words.specs.Words.{word_at}
use Rattle.words.proofs.Bools.{and_left, and_right, chain_parts}
use Rattle.header_check.specs.Header.{text_words_ok, count_words_ok, header_ok}

pub record HeaderFacts (l : List ℕ) : Type 0 where
  pub directive : word_at l 0 ≤ 2
  pub merged : word_at l 1 ≤ 1
  pub first : word_at l 2 ≤ 8192
  pub second : word_at l 3 ≤ 8192
  pub unused : (eqb (word_at l 1) 1 || eqb (word_at l 3) 0) ≡ true
  pub productions : word_at l 4 ≤ 64
  pub events : word_at l 5 ≤ 256
  pub calls : word_at l 6 ≤ 128
  pub parameters : word_at l 7 ≤ 256

pub header_facts : (l : List ℕ) → header_ok l ≡ true → HeaderFacts l
unfolding header_ok text_words_ok count_words_ok
header_facts l e =
    let a = and_left (text_words_ok (word_at l 0) (word_at l 1) (word_at l 2) (word_at l 3)) (count_words_ok (word_at l 4) (word_at l 5) (word_at l 6) (word_at l 7)) e in
    let b = and_right (text_words_ok (word_at l 0) (word_at l 1) (word_at l 2) (word_at l 3)) (count_words_ok (word_at l 4) (word_at l 5) (word_at l 6) (word_at l 7)) e in
    let r = chain_parts (leb (word_at l 0) 2) (leb (word_at l 1) 1 ∷ leb (word_at l 2) 8192 ∷ leb (word_at l 3) 8192 ∷ (eqb (word_at l 1) 1 || eqb (word_at l 3) 0) ∷ []) a in
    let s = chain_parts (leb (word_at l 4) 64) (leb (word_at l 5) 256 ∷ leb (word_at l 6) 128 ∷ leb (word_at l 7) 256 ∷ []) b in
    record {
      directive = leb-true (word_at l 0) 2 r.0;
      merged = leb-true (word_at l 1) 1 r.1.0;
      first = leb-true (word_at l 2) 8192 r.1.1.0;
      second = leb-true (word_at l 3) 8192 r.1.1.1.0;
      unused = r.1.1.1.1.0;
      productions = leb-true (word_at l 4) 64 s.0;
      events = leb-true (word_at l 5) 256 s.1.0;
      calls = leb-true (word_at l 6) 128 s.1.1.0;
      parameters = leb-true (word_at l 7) 256 s.1.1.1.0;
    }
