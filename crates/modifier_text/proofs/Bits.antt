-- The texts that are written, one more place at a time, and when `!` is written.
use Prim.Native.Nat.{ℕ, zero, suc, ◌+◌, ◌-◌, ◌<◌}
use native.Mathlib.Omega.{arith}
use native.Mathlib.Nat.{zero-add}
use mathlib.Core.Path.{◌≡◌, refl, sym, ap, ap₂, ◌∙◌}
use mathlib.Core.List.{List, [], ◌∷◌, ◌++◌, append-nil}
use mathlib.Core.Bool.{Bool, true, false, cond, not, ◌&&◌, true≢false, false≢true}
use lib.Dec.{ltb}
use lib.Bits.{bit_or}
use lib.ListN.{length, length-append}
use borrow.Author.Tests.{lt-ltb, le-ltb}
use Rattle.words.specs.Runs.{run}
use Rattle.words.proofs.RunLaws.{run_more}
use Rattle.model.specs.Lists.{those}
use Rattle.model.specs.Modifiers.{bit, asks_bit}
use Rattle.model.specs.Named.{kept_as_written}
use Rattle.model.specs.Canonical.{writes_bang, joined_by, each, bit_texts, names_texts, list_text, bit_text, is_written_bit}
use Rattle.model.specs.declared.events.KeptEvent.{KeptEvent}
use Rattle.modifiers.proofs.Digits.{bit_or_lem}
use Rattle.writing.specs.Overlay.{separator}
use Rattle.modifier_text.specs.Places.{order_at, is_brief, listed_bits, has_place, place_text}
use Rattle.name_text.specs.Forms.{has_form, form_text}
use Rattle.name_text.proofs.Written.{names_written_lem}
use Rattle.writing.proofs.Joined.{joined_more, each_more, length_each, those_more}
use Rattle.modifier_text.proofs.Named.{order_run}

module _ (test : ℕ → Bool) (w : ℕ → List ℕ) where
  -- the places before j that have a text
  unfoldable pub written_to : ℕ → List ℕ
  written_to j = those test (run (λ i. i) 0 j)

  unfoldable pub texts_to : ℕ → List ℕ
  texts_to j = joined_by (32 ∷ []) (each w (written_to j))

  pub texts_none : [] ≡ texts_to 0
  unfolding texts_to written_to run joined_by
  texts_none = refl

  pub count_none : 0 ≡ length (written_to 0)
  unfolding written_to run
  count_none = refl

  written_more : (j : ℕ) → written_to (j + 1) ≡ written_to j ++ cond (test j) (j ∷ []) []
  unfolding written_to
  written_more j =
      ap (those test) (run_more (λ (i : ℕ). i) 0 j)
      ∙ those_more test (run (λ i. i) 0 j) (0 + j)
      ∙ ap (λ (i : ℕ). those test (run (λ i. i) 0 j) ++ cond (test i) (i ∷ []) []) (zero-add j)

  module _ (j n : ℕ) (count : n ≡ length (written_to j)) where
    -- the text of place j is written too
    module _ (is : test j ≡ true) where
      one_more : written_to (j + 1) ≡ written_to j ++ (j ∷ [])
      one_more = written_more j ∙ rw is

      pub count_more : n + 1 ≡ length (written_to (j + 1))
      count_more = rw (one_more, length-append, count)

      pub texts_more : texts_to j ++ (separator 32 n ++ w j) ≡ texts_to (j + 1)
      unfolding texts_to
      texts_more = rw (one_more, each_more, joined_more, length_each, count)

    -- it has none
    module _ (none : test j ≡ false) where
      no_more : written_to j ≡ written_to (j + 1)
      no_more = sym (written_more j ∙ rw (none, append-nil))

      pub count_same : n ≡ length (written_to (j + 1))
      count_same = count ∙ ap length no_more

      pub texts_same : texts_to j ≡ texts_to (j + 1)
      unfolding texts_to
      texts_same = ap (λ (l : List ℕ). joined_by (32 ∷ []) (each w l)) no_more

-- ---- The bits that are listed

pub listed_bit : (e : KeptEvent) (k : ℕ) → bit k (listed_bits e) ≡ is_written_bit e k
unfolding listed_bits is_brief
listed_bit e k = by (writes_bang e && not (kept_as_written e))
  where
    by : (brief : Bool) → bit k (cond brief e.set (bit_or e.set e.clear)) ≡ cond brief (bit k e.set) (asks_bit e k)
    by true = refl
    by false = bit_or_lem k e.set e.clear

-- ---- All places: bits, then names

-- the same texts under other numbers
each_same : {A : Type 0} (t : ℕ → Bool) (w : ℕ → List ℕ) (u : A → Bool) (v : A → List ℕ) (f : ℕ → A) (s r n : ℕ)
    → ((i : ℕ) → i < n → (t (s + i) ≡ u (f (r + i))) × (w (s + i) ≡ v (f (r + i))))
    → each w (those t (run (λ i. i) s n)) ≡ each v (those u (run f r n))
unfolding run
each_same t w u v f s r zero h = refl
each_same t w u v f s r (suc n) h =
    let a : s + 0 ≡ s = omega arith in
    let b : r + 0 ≡ r = omega arith in
    let z : 0 < suc n = omega arith in
    let first : (t (s + 0) ≡ u (f (r + 0))) × (w (s + 0) ≡ v (f (r + 0))) = h 0 z in
    let rest : (i : ℕ) → i < n → (t (suc s + i) ≡ u (f (suc r + i))) × (w (suc s + i) ≡ v (f (suc r + i))) =
    λ i k.
    let l : suc i < suc n = omega arith in
    let c : s + suc i ≡ suc s + i = omega arith in
    let d : r + suc i ≡ suc r + i = omega arith in
    rw (c, d) at (h (suc i) l) in
    go (t s) (u (f r)) (rw (a, b) at first.0) (rw (a, b) at first.1) (each_same t w u v f (suc s) (suc r) n rest)
  where
    go : (a b : Bool) → a ≡ b → w s ≡ v (f r) → each w (those t (run (λ i. i) (suc s) n)) ≡ each v (those u (run f (suc r) n))
        → each w (cond a (s ∷ those t (run (λ i. i) (suc s) n)) (those t (run (λ i. i) (suc s) n)))
        ≡ each v (cond b (f r ∷ those u (run f (suc r) n)) (those u (run f (suc r) n)))
    go true true p q k = rw (q, k)
    go true false p q k = absurd (true≢false p)
    go false true p q k = absurd (false≢true p)
    go false false p q k = k

each_append : (t : ℕ → Bool) (w : ℕ → List ℕ) (xs ys : List ℕ) → each w (those t (xs ++ ys)) ≡ each w (those t xs) ++ each w (those t ys)
each_append t w [] ys = refl
each_append t w (x ∷ xs) ys = go (t x) (each_append t w xs ys)
  where
    go : (a : Bool) → each w (those t (xs ++ ys)) ≡ each w (those t xs) ++ each w (those t ys)
        → each w (cond a (x ∷ those t (xs ++ ys)) (those t (xs ++ ys))) ≡ each w (cond a (x ∷ those t xs) (those t xs)) ++ each w (those t ys)
    go true k = rw k
    go false k = k

module _ (e : KeptEvent) where
  at_bit : (i : ℕ) → i < 13 → (has_place e (0 + i) ≡ is_written_bit e (order_at (0 + i))) × (place_text e (0 + i) ≡ bit_text e (order_at (0 + i)))
  unfolding has_place place_text
  at_bit i h = let l : ltb (0 + i) 13 ≡ true = lt-ltb (0 + i) 13 (omega arith) in (rw l, rw l)

  bit_places : each (place_text e) (those (has_place e) (run (λ i. i) 0 13)) ≡ bit_texts e
  unfolding bit_texts
  bit_places =
      each_same (has_place e) (place_text e) (is_written_bit e) (bit_text e) order_at 0 0 13 at_bit
      ∙ ap (λ (l : List ℕ). each (bit_text e) (those (is_written_bit e) l)) (sym order_run)

  at_form : (i : ℕ) → i < 16 → (has_place e (13 + i) ≡ has_form e (0 + i)) × (place_text e (13 + i) ≡ form_text e (0 + i))
  unfolding has_place place_text
  at_form i h =
      let l : ltb (13 + i) 13 ≡ false = le-ltb (13 + i) 13 (omega arith) in
      let k : 13 + i - 13 ≡ 0 + i = omega arith in
      (rw (l, k), rw (l, k))

  name_places : each (place_text e) (those (has_place e) (run (λ i. i) 13 16)) ≡ names_texts e
  name_places =
      each_same (has_place e) (place_text e) (has_form e) (form_text e) (λ j. j) 13 0 16 at_form ∙ names_written_lem e

  all_places : run (λ (i : ℕ). i) 0 29 ≡ run (λ i. i) 0 13 ++ run (λ i. i) 13 16
  unfolding run
  all_places = refl

  pub list_all : texts_to (has_place e) (place_text e) 29 ≡ list_text e
  unfolding texts_to written_to list_text
  list_all =
      ap (joined_by (32 ∷ []))
      (ap (λ (l : List ℕ). each (place_text e) (those (has_place e) l)) all_places
      ∙ each_append (has_place e) (place_text e) (run (λ i. i) 0 13) (run (λ i. i) 13 16)
      ∙ ap₂ ◌++◌ bit_places name_places)
