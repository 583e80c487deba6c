-- Where all words of the keysyms' sections are 0, all of them pass.
use Prim.Native.Nat.{ℕ, ◌+◌, ◌-◌, ◌≤◌, ◌<◌}
use native.Mathlib.Omega.{arith}
use mathlib.Core.Path.{◌≡◌, ap, ◌∙◌}
use mathlib.Core.List.{List, [], ◌∷◌, map}
use mathlib.Core.Bool.{true}
use borrow.Author.Tests.{eqb-true, eq-eqb}
use Rattle.words.specs.Words.{word_at}
use Rattle.words.specs.Runs.{every, is_zero, zero_between, zero_in}
use Rattle.words.proofs.Bools.{and_both, AllTrue}
use Rattle.words.proofs.RunLaws.{every_at, every_all}
use Rattle.words.proofs.Zeros.{zero_parts, zero_all}
use Rattle.tables.specs.Layout.{first_lows_at, first_highs_at, second_lows_at, second_highs_at, third_lows_at, third_highs_at, fourth_lows_at, fourth_highs_at}
use Rattle.tables.specs.Reading.{keysyms_entry}
use Rattle.tables.specs.Fitting.{keysyms_in_range}
use Rattle.header_check.specs.Unused.{keysym_sections}
use Rattle.keysym_check.specs.Slots.{no_keysym, keysyms_ok, slots_ok}

module _ (l : List ℕ) (h : no_keysym l ≡ true) where
  -- the four runs of words
  runs : AllTrue (map (λ p. zero_between l p 0 512) (first_lows_at ∷ second_lows_at ∷ third_lows_at ∷ fourth_lows_at ∷ []))
  unfolding no_keysym
  runs = zero_parts l (first_lows_at ∷ second_lows_at ∷ third_lows_at ∷ fourth_lows_at ∷ []) 0 512 h

  -- word i of one, which is a lower or an upper word
  word : (at i : ℕ) → zero_between l at 0 512 ≡ true → i < 512 → word_at l (at + i) ≡ 0
  unfolding zero_between is_zero
  word at i z b =
      let e : at + i ≡ at + 0 + i = omega arith in
      rw e (eqb-true (word_at l (at + 0 + i)) 0 (every_at (is_zero l) (at + 0) 512 i z b))

  upper : (at i : ℕ) → zero_between l at 0 512 ≡ true → i < 256 → word_at l (at + 256 + i) ≡ 0
  upper at i z b =
      let e : at + 256 + i ≡ at + (256 + i) = omega arith in
      rw e (word at (256 + i) z (omega arith))

  first_low : (i : ℕ) → i < 256 → word_at l (first_lows_at + i) ≡ 0
  first_low i b = word first_lows_at i runs.0 (omega arith)

  first_high : (i : ℕ) → i < 256 → word_at l (first_highs_at + i) ≡ 0
  first_high i b = upper first_lows_at i runs.0 b

  second_low : (i : ℕ) → i < 256 → word_at l (second_lows_at + i) ≡ 0
  second_low i b = word second_lows_at i runs.1.0 (omega arith)

  second_high : (i : ℕ) → i < 256 → word_at l (second_highs_at + i) ≡ 0
  second_high i b = upper second_lows_at i runs.1.0 b

  third_low : (i : ℕ) → i < 256 → word_at l (third_lows_at + i) ≡ 0
  third_low i b = word third_lows_at i runs.1.1.0 (omega arith)

  third_high : (i : ℕ) → i < 256 → word_at l (third_highs_at + i) ≡ 0
  third_high i b = upper third_lows_at i runs.1.1.0 b

  fourth_low : (i : ℕ) → i < 256 → word_at l (fourth_lows_at + i) ≡ 0
  fourth_low i b = word fourth_lows_at i runs.1.1.1.0 (omega arith)

  fourth_high : (i : ℕ) → i < 256 → word_at l (fourth_highs_at + i) ≡ 0
  fourth_high i b = upper fourth_lows_at i runs.1.1.1.0 b

  none_ok : (i : ℕ) → i < 256 → keysyms_ok l i ≡ true
  unfolding keysyms_ok keysyms_entry keysyms_in_range
  none_ok i b =
      rw (first_low i b, first_high i b, second_low i b, second_high i b, third_low i b, third_high i b, fourth_low i b, fourth_high i b)

  section_zero : (at n : ℕ) → ((i : ℕ) → i < 256 → word_at l (at + i) ≡ 0) → zero_between l at n 256 ≡ true
  unfolding zero_between is_zero
  section_zero at n e =
      every_all (is_zero l) (at + n) (256 - n)
      (λ i b. let q : at + n + i ≡ at + (n + i) = omega arith in eq-eqb (word_at l (at + n + i)) 0 (ap (word_at l) q ∙ e (n + i) (omega arith)))

  pub none_slots : (n : ℕ) → n ≤ 256 → slots_ok l n ≡ true
  unfolding slots_ok
  none_slots n b =
      and_both (every (keysyms_ok l) 0 n) (zero_in l keysym_sections n 256) (every_all (keysyms_ok l) 0 n (λ i q. none_ok (0 + i) (omega arith)))
      (zero_all l keysym_sections n 256
      (section_zero first_lows_at n first_low, (section_zero first_highs_at n first_high, (section_zero second_lows_at n second_low, (section_zero second_highs_at n second_high, (section_zero third_lows_at n third_low, (section_zero third_highs_at n third_high, (section_zero fourth_lows_at n fourth_low, (section_zero fourth_highs_at n fourth_high, tt)))))))))
