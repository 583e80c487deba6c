-- Words that are 0, tested together.
use Prim.Native.Nat.{ℕ, zero, suc, ◌+◌, ◌-◌, ◌^◌, ◌≤◌, ◌<◌}
use native.Mathlib.Omega.{arith}
use native.Mathlib.Nat.{zero-add}
use mathlib.Core.Path.{◌≡◌, refl, sym, ap, ◌∙◌}
use mathlib.Core.List.{List, [], ◌∷◌, ◌++◌, map}
use lib.ListN.{length, take, get_or}
use Rattle.std.specs.List.{list_all}
use Rattle.std.proofs.lemmas.List.Folds.{list_all_more, list_all-append}
use Rattle.std.proofs.lemmas.Bool.{and_parts}
use Rattle.words.specs.Words.{word_at}
use mathlib.Core.Bool.{Bool, true, false, ◌&&◌, and_assoc}
use lib.Dec.{leb, eqb, ltb}
use lib.Bits.{bit_or, or_add_and, or_lt, and_le_l, and_le_r}
use borrow.Author.Tests.{leb-true, le-leb, eqb-true, eq-eqb, lt-ltb, ltb-true, ltb-false}
use Rattle.words.specs.Runs.{every, is_zero, zero_between, zero_in}
use Rattle.words.proofs.Bools.{and_left, and_right, and_both, same_test, AllTrue}
use Rattle.words.proofs.RunLaws.{every_at, every_all, every_shift}

-- numbers joined are 0 where both are
pub or_zero : (x y : ℕ) → eqb (bit_or x y) 0 ≡ (eqb x 0 && eqb y 0)
or_zero x y = same_test (eqb (bit_or x y) 0) (eqb x 0 && eqb y 0) there back
  where
    there : eqb (bit_or x y) 0 ≡ true → (eqb x 0 && eqb y 0) ≡ true
    there e =
        let z = eqb-true (bit_or x y) 0 e in
        let s = or_add_and x y in
        let p = and_le_l x y in
        let q = and_le_r x y in
        and_both (eqb x 0) (eqb y 0) (eq-eqb x 0 (omega (arith, z, s, p, q))) (eq-eqb y 0 (omega (arith, z, s, p, q)))

    back : (eqb x 0 && eqb y 0) ≡ true → eqb (bit_or x y) 0 ≡ true
    back e =
        let a = eqb-true x 0 (and_left (eqb x 0) (eqb y 0) e) in
        let b = eqb-true y 0 (and_right (eqb x 0) (eqb y 0) e) in
        let s = or_add_and x y in
        eq-eqb (bit_or x y) 0 (omega (arith, a, b, s))

-- and where all three are
pub or_zero_three : (x y z : ℕ) → eqb (bit_or (bit_or x y) z) 0 ≡ (eqb x 0 && eqb y 0 && eqb z 0)
or_zero_three x y z = or_zero (bit_or x y) z ∙ ap (λ (t : Bool). t && eqb z 0) (or_zero x y)

-- and where all four are
pub or_zero_four : (w x y z : ℕ) → eqb (bit_or (bit_or (bit_or w x) y) z) 0 ≡ (eqb w 0 && eqb x 0 && eqb y 0 && eqb z 0)
or_zero_four w x y z = or_zero (bit_or (bit_or w x) y) z ∙ ap (λ (t : Bool). t && eqb z 0) (or_zero_three w x y)

-- three or four more numbers, joined to what was joined before
pub three_joined : (j x y z : ℕ) → eqb (bit_or j (bit_or (bit_or x y) z)) 0 ≡ (eqb j 0 && (eqb x 0 && eqb y 0 && eqb z 0))
three_joined j x y z = or_zero j (bit_or (bit_or x y) z) ∙ ap (λ (t : Bool). eqb j 0 && t) (or_zero_three x y z)

pub four_joined : (j w x y z : ℕ)
    → eqb (bit_or j (bit_or (bit_or (bit_or w x) y) z)) 0 ≡ (eqb j 0 && (eqb w 0 && eqb x 0 && eqb y 0 && eqb z 0))
four_joined j w x y z = or_zero j (bit_or (bit_or (bit_or w x) y) z) ∙ ap (λ (t : Bool). eqb j 0 && t) (or_zero_four w x y z)

-- numbers joined are below a power of two where both are
pub or_below : (k x y : ℕ) → ltb (bit_or x y) (2 ^ k) ≡ (ltb x (2 ^ k) && ltb y (2 ^ k))
or_below k x y = same_test (ltb (bit_or x y) (2 ^ k)) (ltb x (2 ^ k) && ltb y (2 ^ k)) there back
  where
    there : ltb (bit_or x y) (2 ^ k) ≡ true → (ltb x (2 ^ k) && ltb y (2 ^ k)) ≡ true
    there e =
        let z = ltb-true (bit_or x y) (2 ^ k) e in
        let s = or_add_and x y in
        let p = and_le_l x y in
        let q = and_le_r x y in
        and_both (ltb x (2 ^ k)) (ltb y (2 ^ k)) (lt-ltb x (2 ^ k) (omega (arith, z, s, p, q))) (lt-ltb y (2 ^ k) (omega (arith, z, s, p, q)))

    back : (ltb x (2 ^ k) && ltb y (2 ^ k)) ≡ true → ltb (bit_or x y) (2 ^ k) ≡ true
    back e =
        lt-ltb (bit_or x y) (2 ^ k)
        (or_lt k x y (ltb-true x (2 ^ k) (and_left (ltb x (2 ^ k)) (ltb y (2 ^ k)) e)) (ltb-true y (2 ^ k) (and_right (ltb x (2 ^ k)) (ltb y (2 ^ k)) e)))

-- a test over a run, made over two runs of one length that cover it
module _ (test : ℕ → Bool) (s n h : ℕ) (short : h ≤ n) (long : n ≤ h + h) where
  halves_there : (every test s h && every test (s + (n - h)) h) ≡ true → every test s n ≡ true
  halves_there e = every_all test s n (λ i b. go i b (ltb i h) refl)
    where
      go : (i : ℕ) → i < n → (t : Bool) → ltb i h ≡ t → test (s + i) ≡ true
      go i b true q = every_at test s h i (and_left (every test s h) (every test (s + (n - h)) h) e) (ltb-true i h q)
      go i b false q =
          let m = ltb-false i h q in
          let p : s + i ≡ s + (n - h) + (i - (n - h)) = omega arith in
          rw p (every_at test (s + (n - h)) h (i - (n - h)) (and_right (every test s h) (every test (s + (n - h)) h) e) (omega arith))

  halves_back : every test s n ≡ true → (every test s h && every test (s + (n - h)) h) ≡ true
  halves_back e =
      and_both (every test s h) (every test (s + (n - h)) h)
      (every_all test s h (λ i b. every_at test s n i e (omega arith)))
      (every_all test (s + (n - h)) h (λ i b. shifted i b))
    where
      shifted : (i : ℕ) → i < h → test (s + (n - h) + i) ≡ true
      shifted i b =
          let p : s + (n - h) + i ≡ s + (n - h + i) = omega arith in
          rw p (every_at test s n (n - h + i) e (omega arith))

  pub every_halves : (every test s h && every test (s + (n - h)) h) ≡ every test s n
  every_halves = same_test (every test s h && every test (s + (n - h)) h) (every test s n) halves_there halves_back

-- ---- Words past several places, in two runs of h words that cover them

and_across : (p q r s : Bool) → ((p && q) && (r && s)) ≡ ((p && r) && (q && s))
and_across true true r s = refl
and_across true false true s = refl
and_across true false false s = refl
and_across false q r s = refl

-- two tests over a run
every_both : (f g : ℕ → Bool) (s n : ℕ) → every (λ i. f i && g i) s n ≡ (every f s n && every g s n)
unfolding every
every_both f g s zero = refl
every_both f g s (suc n) =
    ap (λ (t : Bool). t && (f (s + n) && g (s + n))) (every_both f g s n)
    ∙ and_across (every f s n) (every g s n) (f (s + n)) (g (s + n))

every_true : (s n : ℕ) → every (λ i. true) s n ≡ true
unfolding every
every_true s zero = refl
every_true s (suc n) = rw (every_true s n)

-- a test at each element, over a run
every_element : (f : ℕ → ℕ → Bool) (xs : List ℕ) (s n : ℕ) → every (λ i. list_all (f i) xs) s n ≡ list_all (λ x. every (λ i. f i x) s n) xs
every_element f [] s n = every_true s n
every_element f (x ∷ xs) s n = every_both (λ i. f i x) (λ i. list_all (f i) xs) s n ∙ ap (λ (t : Bool). every (λ i. f i x) s n && t) (every_element f xs s n)

list_all_same : (f g : ℕ → Bool) (xs : List ℕ) → ((x : ℕ) → f x ≡ g x) → list_all f xs ≡ list_all g xs
list_all_same f g [] e = refl
list_all_same f g (x ∷ xs) e = rw (e x, list_all_same f g xs e)

-- word i of the run from the front, and of the run at the back
abbrev pub both_zero : (l : List ℕ) (from back i p : ℕ) → Bool
both_zero l from back i p = is_zero l (p + from + i) && is_zero l (p + back + i)

-- the words at one place more, joined to what was joined before
pub joined_place : (l : List ℕ) (from back i : ℕ) (places : List ℕ) (k j a b : ℕ) (before : Bool)
    → k < length places
    → a ≡ word_at l (get_or places k 0 + from + i)
    → b ≡ word_at l (get_or places k 0 + back + i)
    → eqb j 0 ≡ (before && list_all (both_zero l from back i) (take k places))
    → eqb (bit_or j (bit_or a b)) 0 ≡ (before && list_all (both_zero l from back i) (take (k + 1) places))
unfolding is_zero
joined_place l from back i places k j a b before h p q e =
    rw (or_zero j (bit_or a b), or_zero a b, e, p, q, list_all_more (both_zero l from back i) places k 0 h)
    (and_assoc before (list_all (both_zero l from back i) (take k places)) (both_zero l from back i (get_or places k 0)))

module _ (l : List ℕ) where
  from_place : (a n : ℕ) → every (λ i. is_zero l (a + i)) 0 n ≡ every (is_zero l) a n
  from_place a n = every_shift (λ i. is_zero l (a + i)) (is_zero l) 0 a n (λ i q. rw zero-add)

  module _ (from to h : ℕ) (order : from ≤ to) (short : h ≤ to - from) (long : to - from ≤ h + h) where
    place_halves : (p : ℕ) → every (λ i. both_zero l from (to - h) i p) 0 h ≡ zero_between l p from to
    unfolding zero_between
    place_halves p =
        let e : p + (to - h) ≡ p + from + (to - from - h) = omega arith in
        every_both (λ i. is_zero l (p + from + i)) (λ i. is_zero l (p + (to - h) + i)) 0 h
        ∙ rw (from_place (p + from) h, from_place (p + (to - h)) h, e) (every_halves (is_zero l) (p + from) (to - from) h short long)

    pub zero_halves : (places : List ℕ) → every (λ i. list_all (both_zero l from (to - h) i) places) 0 h ≡ zero_in l places from to
    unfolding zero_in
    zero_halves places =
        every_element (both_zero l from (to - h)) places 0 h
        ∙ list_all_same (λ p. every (λ i. both_zero l from (to - h) i p) 0 h) (λ p. zero_between l p from to) places place_halves

zero_append : (l xs ys : List ℕ) (from to : ℕ) → zero_in l (xs ++ ys) from to ≡ (zero_in l xs from to && zero_in l ys from to)
unfolding zero_in
zero_append l xs ys from to = list_all-append (λ p. zero_between l p from to) xs ys

-- of the first places, and of the others
pub zero_split : (l xs ys : List ℕ) (from to : ℕ) → zero_in l (xs ++ ys) from to ≡ true → (zero_in l xs from to ≡ true) × (zero_in l ys from to ≡ true)
zero_split l xs ys from to e = and_parts (zero_in l xs from to) (zero_in l ys from to) (sym (zero_append l xs ys from to) ∙ e)

-- what holds of each place
pub zero_parts : (l places : List ℕ) (from to : ℕ) → zero_in l places from to ≡ true → AllTrue (map (λ p. zero_between l p from to) places)
unfolding zero_in
zero_parts l [] from to e = tt
zero_parts l (p ∷ ps) from to e =
    (and_left (zero_between l p from to) (zero_in l ps from to) e, zero_parts l ps from to (and_right (zero_between l p from to) (zero_in l ps from to) e))

pub zero_all : (l places : List ℕ) (from to : ℕ) → AllTrue (map (λ p. zero_between l p from to) places) → zero_in l places from to ≡ true
unfolding zero_in
zero_all l [] from to r = refl
zero_all l (p ∷ ps) from to r = and_both (zero_between l p from to) (zero_in l ps from to) r.0 (zero_all l ps from to r.1)

-- a number is within its bound where it is above it by 0
pub within_bound : (x most : ℕ) → eqb (x - most) 0 ≡ leb x most
within_bound x most =
    same_test (eqb (x - most) 0) (leb x most)
    (λ e. let z = eqb-true (x - most) 0 e in le-leb x most (omega arith))
    (λ e. let z = leb-true x most e in eq-eqb (x - most) 0 (omega arith))
