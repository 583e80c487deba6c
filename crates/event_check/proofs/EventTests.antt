-- The tests of an event's words come to its range, and words that pass them are those of the event that they read as.
use Prim.Native.Nat.{ℕ, zero, suc, ◌+◌, ◌*◌, ◌%◌, ◌/◌, ◌≤◌, ◌<◌}
use native.Mathlib.Omega.{arith}
use native.Mathlib.Nat.{zero-add, mod-eq_of_lt, add-mul-mod_self_left, add-mul-div_left, div-eq_of_lt}
use mathlib.Core.Path.{◌≡◌, refl, ap, ◌∙◌}
use mathlib.Core.List.{List, [], ◌∷◌, map}
use mathlib.Core.Bool.{Bool, true, false, ◌&&◌, ◌||◌}
use lib.Dec.{leb, ltb, eqb}
use borrow.Author.Tests.{leb-true, ltb-true, eqb-true, le-leb, lt-ltb, eq-eqb}
use Rattle.std.proofs.lemmas.Bool.{or_left}
use Rattle.words.proofs.Bools.{and_left, and_right, and_both, chain_parts, chain_all, AllTrue}
use Rattle.model.specs.declared.events.Detail.{Detail}
use Rattle.model.specs.declared.events.Keysyms.{Keysyms}
use Rattle.model.specs.declared.events.KeptEvent.{KeptEvent}
use Rattle.tables.specs.Layout.{event_fields, flag, is_given, value_of, flags_word, low_word, high_word}
use Rattle.tables.specs.Reading.{is_flag, detail_from_word, event_from_words}
use Rattle.tables.specs.Fitting.{event_in_range, keysyms_in_range}
use Rattle.tables.proofs.Columns.{consed}
use Rattle.tables.proofs.EventWords.{four_flags, flags_below, given_flag, RangeFacts, range_facts, facts_range}
use Rattle.event_check.specs.Events.{event_words_ok}

or_cases : {P : Type 0} (a b : Bool) → (a || b) ≡ true → (a ≡ true → P) → (b ≡ true → P) → P
or_cases true b e f g = f refl
or_cases false b e f g = g e

or_right : (a b : Bool) → b ≡ true → (a || b) ≡ true
or_right true b e = refl
or_right false b e = e

-- what the tests of an event's words say
pub record EventFacts (c n s k f lo hi : ℕ) : Type 0 where
  pub code_low : 2 ≤ c
  pub code_high : c ≤ 34
  pub count_low : 1 ≤ n
  pub count_high : n ≤ 9
  pub counted : (leb n 1 || leb c 5) ≡ true
  pub set_below : s < 8192
  pub clear_below : k < 8192
  pub spare : f / 16 % 16 ≡ 0
  pub detail : (is_flag 4 f || (eqb lo 0 && eqb hi 0)) ≡ true
  pub high_below : hi < 8192

abbrev event_tests : (c n s k f lo hi : ℕ) → List Bool
event_tests c n s k f lo hi =
    leb c 34
    ∷ leb 1 n
    ∷ leb n 9
    ∷ (leb n 1 || leb c 5)
    ∷ ltb s 8192
    ∷ ltb k 8192
    ∷ eqb (f / 16 % 16) 0
    ∷ (is_flag 4 f || (eqb lo 0 && eqb hi 0))
    ∷ ltb hi 8192
    ∷ []

pub event_facts : (c n s k f lo hi : ℕ) → event_words_ok c n s k f lo hi ≡ true → EventFacts c n s k f lo hi
unfolding event_words_ok
event_facts c n s k f lo hi e =
    let r : AllTrue (leb 2 c ∷ event_tests c n s k f lo hi) = chain_parts (leb 2 c) (event_tests c n s k f lo hi) e in
    record {
      code_low = leb-true 2 c r.0;
      code_high = leb-true c 34 r.1.0;
      count_low = leb-true 1 n r.1.1.0;
      count_high = leb-true n 9 r.1.1.1.0;
      counted = r.1.1.1.1.0;
      set_below = ltb-true s 8192 r.1.1.1.1.1.0;
      clear_below = ltb-true k 8192 r.1.1.1.1.1.1.0;
      spare = eqb-true (f / 16 % 16) 0 r.1.1.1.1.1.1.1.0;
      detail = r.1.1.1.1.1.1.1.1.0;
      high_below = ltb-true hi 8192 r.1.1.1.1.1.1.1.1.1.0;
    }

pub facts_event : (c n s k f lo hi : ℕ) → EventFacts c n s k f lo hi → event_words_ok c n s k f lo hi ≡ true
unfolding event_words_ok
facts_event c n s k f lo hi r =
    chain_all (leb 2 c) (event_tests c n s k f lo hi) (
      le-leb 2 c r.code_low,
      (
        le-leb c 34 r.code_high,
        (
          le-leb 1 n r.count_low,
          (
            le-leb n 9 r.count_high,
            (
              r.counted,
              (
                lt-ltb s 8192 r.set_below,
                (
                  lt-ltb k 8192 r.clear_below,
                  (
                    eq-eqb (f / 16 % 16) 0 r.spare,
                    (
                      r.detail,
                      (lt-ltb hi 8192 r.high_below, tt),
                    ),
                  ),
                ),
              ),
            ),
          ),
        ),
      ),
    )

-- ---- From an event to its words

counted_words : (c n : ℕ) → (leb n 1 || (leb 2 c && leb c 5)) ≡ true → (leb n 1 || leb c 5) ≡ true
counted_words c n e =
    or_cases (leb n 1) (leb 2 c && leb c 5) e (or_left (leb n 1) (leb c 5))
    (λ h. or_right (leb n 1) (leb c 5) (and_right (leb 2 c) (leb c 5) h))

detail_words : (g : Bool) (d : Detail) → g ≡ is_given d → (g || (eqb (value_of d % 65536) 0 && eqb (value_of d / 65536) 0)) ≡ true
detail_words g (Detail.Value v) e = rw e
detail_words g Detail.Unspecified e = rw e

-- the names stand above the flags
spare_words : (x n : ℕ) → x < 16 → (x + 256 * n) / 16 % 16 ≡ 0
spare_words x n h = omega arith

-- the words of an event in range pass the tests
pub range_words : (e : KeptEvent) → event_in_range e ≡ true
    → event_words_ok e.code e.count e.set e.clear (flags_word e) (low_word e) (high_word e) ≡ true
range_words e h =
    let r : RangeFacts e = range_facts e h in
    facts_event e.code e.count e.set e.clear (flags_word e) (low_word e) (high_word e)
    (record {
      code_low = r.code_low;
      code_high = r.code_high;
      count_low = r.count_low;
      count_high = r.count_high;
      counted = counted_words e.code e.count r.counted;
      set_below = r.set_below;
      clear_below = r.clear_below;
      spare = spare_words (four_flags e.colon e.clause (is_given e.detail) e.bang) e.names (flags_below e.colon e.clause (is_given e.detail) e.bang);
      detail = detail_words (is_flag 4 (flags_word e)) e.detail (given_flag e);
      high_below = high_below_lem (value_of e.detail) r.detail;
    })
  where
    high_below_lem : (v : ℕ) → v ≤ 0x1FFFFFFF → v / 65536 < 8192
    high_below_lem v p = omega arith

-- ---- From words to an event

counted_range : (c n : ℕ) → 2 ≤ c → (leb n 1 || leb c 5) ≡ true → (leb n 1 || (leb 2 c && leb c 5)) ≡ true
counted_range c n l e =
    or_cases (leb n 1) (leb c 5) e (or_left (leb n 1) (leb 2 c && leb c 5))
    (λ h. or_right (leb n 1) (leb 2 c && leb c 5) (and_both (leb 2 c) (leb c 5) (le-leb 2 c l) h))

names_below_lem : (f : ℕ) → f / 256 % 256 < 256
names_below_lem f = omega arith

value_below : (g : Bool) (lo hi : ℕ) → lo < 65536 → hi < 8192 → value_of (detail_from_word g (lo + 65536 * hi)) ≤ 0x1FFFFFFF
value_below true lo hi p q = omega arith
value_below false lo hi p q = omega arith

given_back : (g : Bool) (v : ℕ) → is_given (detail_from_word g v) ≡ g
given_back true v = refl
given_back false v = refl

flag_of : (v x : ℕ) → x < 2 → flag v (eqb x 1) ≡ v * x
flag_of v zero h = omega arith
flag_of v (suc zero) h = omega arith
flag_of v (suc (suc x)) h = absurd (omega arith)

-- a number's last four bits
two_bits : (f : ℕ) → 1 * (f / 1 % 2) + 2 * (f / 2 % 2) ≡ f % 4
two_bits f = omega arith

three_bits : (f : ℕ) → f % 4 + 4 * (f / 4 % 2) ≡ f % 8
three_bits f = omega arith

four_bits : (f : ℕ) → f % 8 + 8 * (f / 8 % 2) ≡ f % 16
four_bits f = omega arith

above_bits : (f : ℕ) → f / 16 % 16 ≡ 0 → f % 256 ≡ f % 16
above_bits f h = omega arith

upper_byte : (f : ℕ) → f < 65536 → f % 256 + 256 * (f / 256 % 256) ≡ f
upper_byte f b = omega arith

flags_back : (f : ℕ) → f < 65536 → f / 16 % 16 ≡ 0
    → four_flags (is_flag 1 f) (is_flag 2 f) (is_flag 4 f) (is_flag 8 f) + 256 * (f / 256 % 256) ≡ f
flags_back f b h =
    rw (flag_of 1 (f / 1 % 2) (omega arith), flag_of 2 (f / 2 % 2) (omega arith), flag_of 4 (f / 4 % 2) (omega arith), flag_of 8 (f / 8 % 2) (omega arith))
    (rw (two_bits f, three_bits f, four_bits f, ← above_bits f h) (upper_byte f b))

-- the value that is kept of a detail's words: 0 where none is given, and the words are 0 there
value_back : (g : Bool) (lo hi : ℕ) → (g || (eqb lo 0 && eqb hi 0)) ≡ true → value_of (detail_from_word g (lo + 65536 * hi)) ≡ lo + 65536 * hi
value_back true lo hi e = refl
value_back false lo hi e = rw (eqb-true lo 0 (and_left (eqb lo 0) (eqb hi 0) e), eqb-true hi 0 (and_right (eqb lo 0) (eqb hi 0) e))

-- halves of a number
pub low_half : (lo hi : ℕ) → lo < 65536 → (lo + 65536 * hi) % 65536 ≡ lo
low_half lo hi h = add-mul-mod_self_left lo 65536 hi ∙ mod-eq_of_lt h

pub high_half : (lo hi : ℕ) → lo < 65536 → (lo + 65536 * hi) / 65536 ≡ hi
high_half lo hi h =
    let e : (lo + 65536 * hi) / 65536 ≡ lo / 65536 + hi = add-mul-div_left lo hi (omega arith) in
    let z : lo / 65536 ≡ 0 = div-eq_of_lt h in
    e ∙ rw (z, zero-add)

-- the words of keysyms
abbrev pub keysym_words : Keysyms → List ℕ
keysym_words ks =
    ks.first % 65536
    ∷ ks.first / 65536
    ∷ ks.second % 65536
    ∷ ks.second / 65536
    ∷ ks.third % 65536
    ∷ ks.third / 65536
    ∷ ks.fourth % 65536
    ∷ ks.fourth / 65536
    ∷ []

module _ (c n s k f lo hi : ℕ) (ks : Keysyms) (ok : event_words_ok c n s k f lo hi ≡ true) (word : f < 65536) (below : lo < 65536) where
  facts : EventFacts c n s k f lo hi
  facts = event_facts c n s k f lo hi ok

  code_same : c % 256 ≡ c
  code_same = let r : EventFacts c n s k f lo hi = facts in mod-eq_of_lt (omega arith)

  count_same : n % 256 ≡ n
  count_same = let r : EventFacts c n s k f lo hi = facts in mod-eq_of_lt (omega arith)

  -- words that pass the tests read as an event in range
  pub words_range : keysyms_in_range ks ≡ true → event_in_range (event_from_words c n s k f lo hi ks) ≡ true
  unfolding event_from_words
  words_range h =
      let r : EventFacts c n s k f lo hi = facts in
      facts_range (event_from_words c n s k f lo hi ks)
      (record {
        code_low = rw code_same r.code_low;
        code_high = rw code_same r.code_high;
        count_low = rw count_same r.count_low;
        count_high = rw count_same r.count_high;
        counted = rw (code_same, count_same) (counted_range c n r.code_low r.counted);
        set_below = r.set_below;
        clear_below = r.clear_below;
        detail = value_below (is_flag 4 f) lo hi below r.high_below;
        names_below = names_below_lem f;
        keysyms = h;
      })

  value_same : value_of (event_from_words c n s k f lo hi ks).detail ≡ lo + 65536 * hi
  unfolding event_from_words
  value_same = let r : EventFacts c n s k f lo hi = facts in value_back (is_flag 4 f) lo hi r.detail

  -- and the event has these words again
  pub code_back : (event_from_words c n s k f lo hi ks).code ≡ c
  unfolding event_from_words
  code_back = code_same

  pub count_back : (event_from_words c n s k f lo hi ks).count ≡ n
  unfolding event_from_words
  count_back = count_same

  set_back : (event_from_words c n s k f lo hi ks).set ≡ s
  unfolding event_from_words
  set_back = refl

  clear_back : (event_from_words c n s k f lo hi ks).clear ≡ k
  unfolding event_from_words
  clear_back = refl

  flags_word_back : flags_word (event_from_words c n s k f lo hi ks) ≡ f
  unfolding event_from_words
  flags_word_back =
      let r : EventFacts c n s k f lo hi = facts in
      rw (given_back (is_flag 4 f) (lo + 65536 * hi)) (flags_back f word r.spare)

  low_word_back : low_word (event_from_words c n s k f lo hi ks) ≡ lo
  low_word_back = ap (λ (v : ℕ). v % 65536) value_same ∙ low_half lo hi below

  high_word_back : high_word (event_from_words c n s k f lo hi ks) ≡ hi
  high_word_back = ap (λ (v : ℕ). v / 65536) value_same ∙ high_half lo hi below

  keysyms_same : keysym_words (event_from_words c n s k f lo hi ks).keysyms ≡ keysym_words ks
  unfolding event_from_words
  keysyms_same = refl

  pub words_back : map (λ (g : KeptEvent → ℕ). g (event_from_words c n s k f lo hi ks)) event_fields ≡ (c ∷ n ∷ s ∷ k ∷ f ∷ lo ∷ hi ∷ keysym_words ks)
  words_back = consed code_back (consed count_back (consed set_back (consed clear_back (consed flags_word_back (consed low_word_back (consed high_word_back keysyms_same))))))
