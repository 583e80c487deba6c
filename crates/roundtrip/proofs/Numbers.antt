-- A number written in hexadecimal reads back, and so does a count.
use Prim.Native.Nat.{ℕ, zero, suc, ◌+◌, ◌-◌, ◌*◌, ◌/◌, ◌%◌, ◌^◌, ◌≤◌, ◌<◌}
use native.Mathlib.Omega.{arith}
use native.Mathlib.Nat.{pow-suc}
use mathlib.Core.Path.{◌≡◌, refl, ap, ◌∙◌}
use mathlib.Core.Bool.{Bool, true, false, ◌&&◌}
use mathlib.Core.List.{List, [], ◌∷◌, ◌++◌}
use Rattle.std.specs.Prelude.{Option, None, Some}
use lib.Dec.{eqb, ltb}
use lib.ListN.{length}
use borrow.Author.Tests.{ltb-true, lt-ltb, le-ltb, eqb-true, ne_eqb}
use Rattle.model.specs.Lists.{all}
use Rattle.model.specs.Limits.{keysym_limit}
use Rattle.model.specs.Details.{digit_value, digits_from, within_limit, number_in, key_detail}
use Rattle.model.specs.Bytes.{byte_at}
use Rattle.model.specs.Judging.{is_one_digit}
use Rattle.model.specs.Canonical.{digit, digits_in, hexadecimal, decimal}
use Rattle.model.specs.declared.names.DetailRead.{DetailRead}
use Rattle.modifiers.proofs.Below.{every, every_at, both_left, both_right}
use Rattle.grammar.specs.Bytes.{letter_or_digit, is_digit_sign}
use Rattle.grammar.specs.Tokens.{is_some}
use Rattle.roundtrip.proofs.Lists.{all_append, some_append, choose}

-- ---- Digits

abbrev digit_reads : ℕ → Bool
digit_reads v = eqb (digit_value (digit v)) v && letter_or_digit (digit v)

digits_read : every 16 digit_reads ≡ true
unfolding every digit_value
digits_read = refl

digit_value_lem : (v : ℕ) → v < 16 → digit_value (digit v) ≡ v
digit_value_lem v h =
    eqb-true (digit_value (digit v)) v
    (both_left (eqb (digit_value (digit v)) v) (letter_or_digit (digit v)) (every_at 16 digit_reads digits_read v h))

pub digit_letter : (v : ℕ) → v < 16 → letter_or_digit (digit v) ≡ true
digit_letter v h = both_right (eqb (digit_value (digit v)) v) (letter_or_digit (digit v)) (every_at 16 digit_reads digits_read v h)

-- ---- Digits after digits

from_last : (base s v b : ℕ) (w : List ℕ) → ltb (digit_value b) base ≡ true → digits_from base s w ≡ Some v
    → digits_from base s (w ++ (b ∷ [])) ≡ Some (v * base + digit_value b)
unfolding digits_from
from_last base s v b [] h e = let i : s ≡ v = cc in rw (h, i)
from_last base s v b (c ∷ w) h e =
    choose (ltb (digit_value c) base)
    (λ q. rw q (from_last base (s * base + digit_value c) v b w h (rw q at e)))
    (λ q. let f : ◌≡◌ {A = Option ℕ} None (Some v) = rw q at e in let z : ◌≡◌ {A = ℕ} 0 1 = cc in absurd (omega arith))

-- one digit, or the digits of the quotient and then the last one
in_one : (fuel v : ℕ) → ltb v 16 ≡ true → digits_in 16 (suc fuel) v ≡ digit v ∷ []
unfolding digits_in
in_one fuel v q = rw q

in_more : (fuel v : ℕ) → ltb v 16 ≡ false → digits_in 16 (suc fuel) v ≡ digits_in 16 fuel (v / 16) ++ (digit (v % 16) ∷ [])
unfolding digits_in
in_more fuel v q = rw q

one_reads : (v : ℕ) → v < 16 → digits_from 16 0 (digit v ∷ []) ≡ Some v
unfolding digits_from
one_reads v h = rw (digit_value_lem v h, lt-ltb v 16 h) (ap {B = Option ℕ} Some (let z : 0 * 16 + v ≡ v = omega arith in z))

-- the digits of a number read back to it
in_sixteen : (fuel v : ℕ) → v < 16 ^ fuel → 0 < fuel → digits_from 16 0 (digits_in 16 fuel v) ≡ Some v
in_sixteen zero v h z = absurd (omega arith)
in_sixteen (suc zero) v h z =
    let l : v < 16 = omega (arith, pow-suc 16 0) in rw (in_one 0 v (lt-ltb v 16 l)) (one_reads v l)
in_sixteen (suc (suc fuel)) v h z =
    choose (ltb v 16)
    (λ q. rw (in_one (suc fuel) v q) (one_reads v (ltb-true v 16 q)))
    (λ q.
    let d : v % 16 < 16 = omega arith in
    let e : digit_value (digit (v % 16)) ≡ v % 16 = digit_value_lem (v % 16) d in
    let t : ltb (digit_value (digit (v % 16))) 16 ≡ true = rw e (lt-ltb (v % 16) 16 d) in
    let n : v / 16 < 16 ^ suc fuel = omega (arith, pow-suc 16 (suc fuel)) in
    let z : 0 < suc fuel = omega arith in
    let f : v / 16 * 16 + digit_value (digit (v % 16)) ≡ v = omega arith in
    rw (in_more (suc fuel) v q)
    (from_last 16 0 (v / 16) (digit (v % 16)) (digits_in 16 (suc fuel) (v / 16)) t (in_sixteen (suc fuel) (v / 16) n z)
    ∙ ap {B = Option ℕ} Some f))

pub digits_letters : (fuel v : ℕ) → all letter_or_digit (digits_in 16 fuel v) ≡ true
digits_letters zero v = unfold digits_in in refl
digits_letters (suc fuel) v =
    choose (ltb v 16)
    (λ q. rw (in_one fuel v q, digit_letter v (ltb-true v 16 q)))
    (λ q.
    let d : v % 16 < 16 = omega arith in
    rw (in_more fuel v q)
    (all_append letter_or_digit (digits_in 16 fuel (v / 16)) (digit (v % 16) ∷ []) (digits_letters fuel (v / 16))
    (rw (digit_letter (v % 16) d))))

digits_some : (fuel v : ℕ) → is_some (digits_in 16 (suc fuel) v) ≡ true
digits_some fuel v =
    choose (ltb v 16) (λ q. rw (in_one fuel v q)) (λ q. rw (in_more fuel v q) (some_append (digits_in 16 fuel (v / 16)) (digit (v % 16))))

-- ---- A keysym

number_some : (base limit : ℕ) (w : List ℕ) → is_some w ≡ true → number_in base limit w ≡ within_limit limit (digits_from base 0 w)
unfolding number_in
number_some base limit [] e = let z : ◌≡◌ {A = ℕ} 0 1 = cc in absurd (omega arith)
number_some base limit (b ∷ bs) e = refl

pub hexadecimal_reads : (v : ℕ) → v ≤ keysym_limit → key_detail (hexadecimal v) ≡ DetailRead.Value v
unfolding key_detail hexadecimal
hexadecimal_reads v h =
    let n : v < 16 ^ 8 = omega arith in
    let z : 0 < 8 = omega arith in
    rw (
      ne_eqb (suc (suc (length (digits_in 16 8 v)))) 1 (λ (q : suc (suc (length (digits_in 16 8 v))) ≡ 1). omega arith),
      number_some 16 keysym_limit (digits_in 16 8 v) (digits_some 7 v),
      in_sixteen 8 v n z,
      le-ltb keysym_limit v h,
    )

-- it is a word of letters and digits
pub hexadecimal_word : (v : ℕ) → (is_some (hexadecimal v) && all letter_or_digit (hexadecimal v)) ≡ true
unfolding hexadecimal
hexadecimal_word v = digits_letters 8 v

-- ---- A count

abbrev is_count : ℕ → Bool
is_count n = is_one_digit (decimal n) && (eqb (byte_at (decimal n) 0 - 48) n && (all is_digit_sign (decimal n) && is_some (decimal n)))

are_counts : every 9 (λ k. is_count (1 + k)) ≡ true
unfolding every decimal digits_in
are_counts = refl

pub record OneDigit (n : ℕ) : Type 0 where
  pub one : is_one_digit (decimal n) ≡ true
  pub value : byte_at (decimal n) 0 - 48 ≡ n
  pub digits : all is_digit_sign (decimal n) ≡ true
  pub some : is_some (decimal n) ≡ true

pub one_digit : (n : ℕ) → 1 ≤ n → n ≤ 9 → OneDigit n
one_digit n low high =
    let l : n - 1 < 9 = omega arith in
    let i : 1 + (n - 1) ≡ n = omega arith in
    let e : is_count n ≡ true = rw i at (every_at 9 (λ k. is_count (1 + k)) are_counts (n - 1) l) in
    let a : Bool = is_one_digit (decimal n) in
    let b : Bool = eqb (byte_at (decimal n) 0 - 48) n in
    let c : Bool = all is_digit_sign (decimal n) in
    let d : Bool = is_some (decimal n) in
    record {
      one = both_left a (b && (c && d)) e;
      value = eqb-true (byte_at (decimal n) 0 - 48) n (both_left b (c && d) (both_right a (b && (c && d)) e));
      digits = both_left c d (both_right b (c && d) (both_right a (b && (c && d)) e));
      some = both_right c d (both_right b (c && d) (both_right a (b && (c && d)) e));
    }
