-- The tests of an event, some joined before they are made.
use Prim.Native.Nat.{ℕ, ◌/◌, ◌%◌}
use native.Mathlib.Omega.{arith}
use mathlib.Core.Path.{◌≡◌, refl, sym, ap, ◌∙◌}
use mathlib.Core.Bool.{Bool, true, false, ◌&&◌, ◌||◌, and-true, and-false}
use lib.Dec.{leb, ltb, eqb}
use lib.Bits.{bit_or}
use borrow.Author.Tests.{leb-true, le-leb, eqb-true, eq-eqb}
use Rattle.words.proofs.Bools.{same_test}
use Rattle.words.proofs.Zeros.{or_zero, or_below}
use Rattle.event_check.specs.Events.{event_words_ok}

parts_in_order : (p s k h f d : Bool) → (p && (s && k && h) && f && d) ≡ (p && s && k && f && d && h)
parts_in_order false s k h f d = refl
parts_in_order true false k h f d = refl
parts_in_order true true false h f d = refl
parts_in_order true true true true f d = sym (and-true (f && d))
parts_in_order true true true false f d = sym (and-false (f && d))

bits_below : (s k h : ℕ) → ltb (bit_or (bit_or s k) h) 8192 ≡ (ltb s 8192 && ltb k 8192 && ltb h 8192)
bits_below s k h = or_below 13 (bit_or s k) h ∙ ap (λ (t : Bool). t && ltb h 8192) (or_below 13 s k)

-- a count of at least 1 is at most 1 where it is 1
count_one : (a b d : Bool) (n : ℕ) → (a && leb 1 n && b && (eqb n 1 || d)) ≡ (a && leb 1 n && b && (leb n 1 || d))
count_one a b d n = go (leb 1 n) refl
  where
    one : leb 1 n ≡ true → eqb n 1 ≡ leb n 1
    one q =
        let m = leb-true 1 n q in
        same_test (eqb n 1) (leb n 1) (λ e. let x = eqb-true n 1 e in le-leb n 1 (omega arith)) (λ e. let x = leb-true n 1 e in eq-eqb n 1 (omega arith))

    go : (t : Bool) → leb 1 n ≡ t → (a && leb 1 n && b && (eqb n 1 || d)) ≡ (a && leb 1 n && b && (leb n 1 || d))
    go true q = rw (one q)
    go false q = rw (q, and-false a)

-- a detail that is 0 where none is given
detail_test : (g : Bool) (lo hi : ℕ) → (g || eqb (bit_or lo hi) 0) ≡ (g || (eqb lo 0 && eqb hi 0))
detail_test g lo hi = ap (λ (t : Bool). g || t) (or_zero lo hi)

pub joined_event : (c n s k f lo hi : ℕ)
    → (
    leb 2 c
    && leb c 34
    && leb 1 n
    && leb n 9
    && (eqb n 1 || leb c 5)
    && ltb (bit_or (bit_or s k) hi) 8192
    && eqb (f / 16 % 16) 0
    && (eqb (f / 4 % 2) 1 || eqb (bit_or lo hi) 0)
    )
    ≡ event_words_ok c n s k f lo hi
unfolding event_words_ok
joined_event c n s k f lo hi =
    ap (λ (t : Bool). t && ltb (bit_or (bit_or s k) hi) 8192 && eqb (f / 16 % 16) 0 && (eqb (f / 4 % 2) 1 || eqb (bit_or lo hi) 0)) (count_one (leb 2 c && leb c 34) (leb n 9) (leb c 5) n)
    ∙ ap (λ (t : Bool). p && t && eqb (f / 16 % 16) 0 && (eqb (f / 4 % 2) 1 || eqb (bit_or lo hi) 0)) (bits_below s k hi)
    ∙ ap (λ (t : Bool). p && (ltb s 8192 && ltb k 8192 && ltb hi 8192) && eqb (f / 16 % 16) 0 && t) (detail_test (eqb (f / 4 % 2) 1) lo hi)
    ∙ parts_in_order p (ltb s 8192) (ltb k 8192) (ltb hi 8192) (eqb (f / 16 % 16) 0) (eqb (f / 4 % 2) 1 || (eqb lo 0 && eqb hi 0))
  where
    p : Bool
    p = leb 2 c && leb c 34 && leb 1 n && leb n 9 && (leb n 1 || leb c 5)

-- numbers joined are at most 3 where both are
pub few_joined : (x y : ℕ) → ltb (bit_or x y) 4 ≡ (ltb x 4 && ltb y 4)
few_joined x y = or_below 2 x y
