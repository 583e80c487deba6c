-- The number of each case of an answer.
use Prim.Native.Nat.{ℕ, ◌+◌, ◌*◌, ◌≤◌}
use native.Mathlib.Omega.{arith}
use mathlib.Core.Path.{◌≡◌}
use Rattle.model.specs.Numbers.{compiled_place, written_length, counted_count, located_start, located_length}
use Rattle.model.specs.declared.answers.Compiled.{Compiled}
use Rattle.model.specs.declared.answers.Merged.{Merged}
use Rattle.model.specs.declared.answers.Written.{Written}
use Rattle.model.specs.declared.answers.Counted.{Counted}
use Rattle.model.specs.declared.answers.Located.{Located}
use Rattle.capi.specs.Answers.{compiled_word, merged_word, written_word, counted_word, located_word}

-- ---- The compiler

module _ (a : Compiled) where
  pub compiled_accepted : a ≡ Compiled.Accepted → 0 ≡ compiled_word a
  unfolding compiled_word
  compiled_accepted e = rw e (omega arith)

  module _ (n p : ℕ) (e : a ≡ Compiled.Refused n p) where
    pub compiled_refused : (r : ℕ) → r ≡ n + 256 * p → r ≡ compiled_word a
    unfolding compiled_word
    compiled_refused r q = rw e (omega arith)

    pub place_of : compiled_place a ≤ 8192 → p ≤ 8192
    place_of h = rw e at h

-- ---- The merger

module _ (a : Merged) where
  pub merged_accepted : a ≡ Merged.Accepted → 0 ≡ merged_word a
  unfolding merged_word
  merged_accepted e = rw e (omega arith)

  pub merged_refused : (n : ℕ) → a ≡ Merged.Refused n → (r : ℕ) → r ≡ n → r ≡ merged_word a
  unfolding merged_word
  merged_refused n e r q = rw e (omega arith)

-- ---- The writer

module _ (a : Written) (n : ℕ) where
  pub written_accepted : a ≡ Written.Accepted n → (r : ℕ) → r ≡ 0 + 256 * n → r ≡ written_word a
  unfolding written_word
  written_accepted e r q = rw e (omega arith)

  pub written_refused : a ≡ Written.Refused n → (r : ℕ) → r ≡ n → r ≡ written_word a
  unfolding written_word
  written_refused e r q = rw e (omega arith)

  pub length_of : a ≡ Written.Accepted n → written_length a ≤ 377600000 → n ≤ 377600000
  length_of e h = rw e at h

-- ---- Counts

module _ (a : Counted) (n : ℕ) where
  pub counted_accepted : a ≡ Counted.Accepted n → (r : ℕ) → r ≡ 0 + 256 * n → r ≡ counted_word a
  unfolding counted_word
  counted_accepted e r q = rw e (omega arith)

  pub counted_refused : a ≡ Counted.Refused n → (r : ℕ) → r ≡ n → r ≡ counted_word a
  unfolding counted_word
  counted_refused e r q = rw e (omega arith)

  pub count_of_lem : a ≡ Counted.Accepted n → counted_count a ≤ 64 → n ≤ 64
  count_of_lem e h = rw e at h

-- ---- Places

module _ (a : Located) where
  module _ (s n : ℕ) where
    pub in_first : a ≡ Located.First s n → (r : ℕ) → r ≡ 256 * 0 + 65536 * s + 4294967296 * n → r ≡ located_word a
    unfolding located_word
    in_first e r q = rw e (omega arith)

    pub in_second : a ≡ Located.Second s n → (r : ℕ) → r ≡ 256 * 1 + 65536 * s + 4294967296 * n → r ≡ located_word a
    unfolding located_word
    in_second e r q = rw e (omega arith)

    pub first_ends : a ≡ Located.First s n → located_start a + located_length a ≤ 8192 → s + n ≤ 8192
    first_ends e h = rw e at h

    pub second_ends : a ≡ Located.Second s n → located_start a + located_length a ≤ 8192 → s + n ≤ 8192
    second_ends e h = rw e at h

  pub nowhere : (n : ℕ) → a ≡ Located.Refused n → (r : ℕ) → r ≡ n → r ≡ located_word a
  unfolding located_word
  nowhere n e r q = rw e (omega arith)
