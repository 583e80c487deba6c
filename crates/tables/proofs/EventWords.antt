-- An event as words and back.
use Prim.Native.Nat.{ℕ, ◌+◌, ◌*◌, ◌%◌, ◌/◌, ◌≤◌, ◌<◌}
use native.Mathlib.Omega.{arith}
use native.Mathlib.Nat.{mod-eq_of_lt, mod-add-div}
use mathlib.Core.Path.{◌≡◌, refl, ap, ◌∙◌}
use mathlib.Core.List.{List, [], ◌∷◌}
use mathlib.Core.Bool.{Bool, true, false, ◌&&◌, ◌||◌}
use lib.Dec.{eqb, leb, ltb}
use borrow.Author.Tests.{eqb-true, leb-true, ltb-true, le-leb, lt-ltb}
use Rattle.words.proofs.Bools.{and_left, and_right, and_both, chain_parts, chain_all, AllTrue}
use Rattle.model.specs.declared.events.Detail.{Detail}
use Rattle.model.specs.declared.events.Keysyms.{Keysyms}
use Rattle.model.specs.declared.events.KeptEvent.{KeptEvent}
use Rattle.tables.specs.Layout.{flag, is_given, value_of, flags_word, low_word, high_word}
use Rattle.tables.specs.Reading.{is_flag, detail_from_word, event_from_words}
use Rattle.tables.specs.Fitting.{event_in_range, keysym_in_range, comes_after, keysyms_in_range}

-- the four flags
abbrev pub four_flags : (a b c d : Bool) → ℕ
four_flags a b c d = flag 1 a + flag 2 b + flag 4 c + flag 8 d

pub flags_below : (a b c d : Bool) → four_flags a b c d < 16
flags_below true true true true = omega arith
flags_below true true true false = omega arith
flags_below true true false true = omega arith
flags_below true true false false = omega arith
flags_below true false true true = omega arith
flags_below true false true false = omega arith
flags_below true false false true = omega arith
flags_below true false false false = omega arith
flags_below false true true true = omega arith
flags_below false true true false = omega arith
flags_below false true false true = omega arith
flags_below false true false false = omega arith
flags_below false false true true = omega arith
flags_below false false true false = omega arith
flags_below false false false true = omega arith
flags_below false false false false = omega arith

pub flag_bits : (a b c d : Bool)
    → (is_flag 1 (four_flags a b c d) ≡ a) × (is_flag 2 (four_flags a b c d) ≡ b) × (is_flag 4 (four_flags a b c d) ≡ c) × (is_flag 8 (four_flags a b c d) ≡ d)
flag_bits true true true true = (refl, refl, refl, refl)
flag_bits true true true false = (refl, refl, refl, refl)
flag_bits true true false true = (refl, refl, refl, refl)
flag_bits true true false false = (refl, refl, refl, refl)
flag_bits true false true true = (refl, refl, refl, refl)
flag_bits true false true false = (refl, refl, refl, refl)
flag_bits true false false true = (refl, refl, refl, refl)
flag_bits true false false false = (refl, refl, refl, refl)
flag_bits false true true true = (refl, refl, refl, refl)
flag_bits false true true false = (refl, refl, refl, refl)
flag_bits false true false true = (refl, refl, refl, refl)
flag_bits false true false false = (refl, refl, refl, refl)
flag_bits false false true true = (refl, refl, refl, refl)
flag_bits false false true false = (refl, refl, refl, refl)
flag_bits false false false true = (refl, refl, refl, refl)
flag_bits false false false false = (refl, refl, refl, refl)

-- beside them, the names change none
beside_1 : (x n : ℕ) → (x + 256 * n) / 1 % 2 ≡ x / 1 % 2
beside_1 x n = omega arith

beside_2 : (x n : ℕ) → (x + 256 * n) / 2 % 2 ≡ x / 2 % 2
beside_2 x n = omega arith

beside_4 : (x n : ℕ) → (x + 256 * n) / 4 % 2 ≡ x / 4 % 2
beside_4 x n = omega arith

beside_8 : (x n : ℕ) → (x + 256 * n) / 8 % 2 ≡ x / 8 % 2
beside_8 x n = omega arith

names_back : (x n : ℕ) → x < 16 → n < 256 → (x + 256 * n) / 256 % 256 ≡ n
names_back x n h b = omega arith

pub flag_le : (v : ℕ) (b : Bool) → flag v b ≤ v
flag_le v true = omega arith
flag_le v false = omega arith

detail_back : (d : Detail) → detail_from_word (is_given d) (value_of d % 65536 + 65536 * (value_of d / 65536)) ≡ d
detail_back Detail.Unspecified = refl
detail_back (Detail.Value v) = ap Detail.Value (mod-add-div v 65536)

-- the flag that says that a detail is given
pub given_flag : (e : KeptEvent) → is_flag 4 (flags_word e) ≡ is_given e.detail
given_flag e =
    ap (λ (k : ℕ). eqb k 1) (beside_4 (four_flags e.colon e.clause (is_given e.detail) e.bang) e.names)
    ∙ (flag_bits e.colon e.clause (is_given e.detail) e.bang).2

pub keysyms_back : (k : Keysyms) → record {
  first = k.first % 65536 + 65536 * (k.first / 65536);
  second = k.second % 65536 + 65536 * (k.second / 65536);
  third = k.third % 65536 + 65536 * (k.third / 65536);
  fourth = k.fourth % 65536 + 65536 * (k.fourth / 65536);
} ≡ k
keysyms_back k = rw (mod-add-div k.first 65536, mod-add-div k.second 65536, mod-add-div k.third 65536, mod-add-div k.fourth 65536)

-- an event's words read as the event
pub event_back : (e : KeptEvent) → e.code < 256 → e.count < 256 → e.names < 256
    → event_from_words e.code e.count e.set e.clear (flags_word e) (low_word e) (high_word e) e.keysyms ≡ e
unfolding event_from_words
event_back e p q r =
    let x = four_flags e.colon e.clause (is_given e.detail) e.bang in
    let b = flag_bits e.colon e.clause (is_given e.detail) e.bang in
    let c : e.code % 256 ≡ e.code = mod-eq_of_lt p in
    let n : e.count % 256 ≡ e.count = mod-eq_of_lt q in
    rw (
      c,
      n,
      beside_1 x e.names,
      beside_2 x e.names,
      beside_4 x e.names,
      beside_8 x e.names,
      names_back x e.names (flags_below e.colon e.clause (is_given e.detail) e.bang) r,
      b.0,
      b.1,
      b.2,
      b.3,
      detail_back e.detail,
    )

-- ---- Ranges

-- what the range of an event says
pub record RangeFacts (e : KeptEvent) : Type 0 where
  pub code_low : 2 ≤ e.code
  pub code_high : e.code ≤ 34
  pub count_low : 1 ≤ e.count
  pub count_high : e.count ≤ 9
  pub counted : (leb e.count 1 || (leb 2 e.code && leb e.code 5)) ≡ true
  pub set_below : e.set < 8192
  pub clear_below : e.clear < 8192
  pub detail : value_of e.detail ≤ 0x1FFFFFFF
  pub names_below : e.names < 256
  pub keysyms : keysyms_in_range e.keysyms ≡ true

abbrev range_tests : KeptEvent → List Bool
range_tests e =
    (leb 1 e.count && leb e.count 9)
    ∷ (leb e.count 1 || (leb 2 e.code && leb e.code 5))
    ∷ ltb e.set 8192
    ∷ ltb e.clear 8192
    ∷ leb (value_of e.detail) 0x1FFFFFFF
    ∷ ltb e.names 256
    ∷ keysyms_in_range e.keysyms
    ∷ []

pub range_facts : (e : KeptEvent) → event_in_range e ≡ true → RangeFacts e
unfolding event_in_range
range_facts e h =
    let r : AllTrue ((leb 2 e.code && leb e.code 34) ∷ range_tests e) = chain_parts (leb 2 e.code && leb e.code 34) (range_tests e) h in
    record {
      code_low = leb-true 2 e.code (and_left (leb 2 e.code) (leb e.code 34) r.0);
      code_high = leb-true e.code 34 (and_right (leb 2 e.code) (leb e.code 34) r.0);
      count_low = leb-true 1 e.count (and_left (leb 1 e.count) (leb e.count 9) r.1.0);
      count_high = leb-true e.count 9 (and_right (leb 1 e.count) (leb e.count 9) r.1.0);
      counted = r.1.1.0;
      set_below = ltb-true e.set 8192 r.1.1.1.0;
      clear_below = ltb-true e.clear 8192 r.1.1.1.1.0;
      detail = leb-true (value_of e.detail) 0x1FFFFFFF r.1.1.1.1.1.0;
      names_below = ltb-true e.names 256 r.1.1.1.1.1.1.0;
      keysyms = r.1.1.1.1.1.1.1.0;
    }

pub facts_range : (e : KeptEvent) → RangeFacts e → event_in_range e ≡ true
unfolding event_in_range
facts_range e r =
    chain_all (leb 2 e.code && leb e.code 34) (range_tests e) (
      and_both (leb 2 e.code) (leb e.code 34) (le-leb 2 e.code r.code_low) (le-leb e.code 34 r.code_high),
      (
        and_both (leb 1 e.count) (leb e.count 9) (le-leb 1 e.count r.count_low) (le-leb e.count 9 r.count_high),
        (
          r.counted,
          (
            lt-ltb e.set 8192 r.set_below,
            (
              lt-ltb e.clear 8192 r.clear_below,
              (
                le-leb (value_of e.detail) 0x1FFFFFFF r.detail,
                (lt-ltb e.names 256 r.names_below, (r.keysyms, tt)),
              ),
            ),
          ),
        ),
      ),
    )

-- ---- Keysyms

-- what the ranges of the four keysyms say, each by itself
pub record KeysymFacts (k : Keysyms) : Type 0 where
  pub first : keysym_in_range k.first ≡ true
  pub second : keysym_in_range k.second ≡ true
  pub third : keysym_in_range k.third ≡ true
  pub fourth : keysym_in_range k.fourth ≡ true
  pub first_second : comes_after k.first k.second ≡ true
  pub second_third : comes_after k.second k.third ≡ true
  pub third_fourth : comes_after k.third k.fourth ≡ true

abbrev keysym_tests : Keysyms → List Bool
keysym_tests k =
    keysym_in_range k.second
    ∷ keysym_in_range k.third
    ∷ keysym_in_range k.fourth
    ∷ comes_after k.first k.second
    ∷ comes_after k.second k.third
    ∷ comes_after k.third k.fourth
    ∷ []

pub keysym_facts : (k : Keysyms) → keysyms_in_range k ≡ true → KeysymFacts k
unfolding keysyms_in_range
keysym_facts k h =
    let r : AllTrue (keysym_in_range k.first ∷ keysym_tests k) = chain_parts (keysym_in_range k.first) (keysym_tests k) h in
    record {
      first = r.0;
      second = r.1.0;
      third = r.1.1.0;
      fourth = r.1.1.1.0;
      first_second = r.1.1.1.1.0;
      second_third = r.1.1.1.1.1.0;
      third_fourth = r.1.1.1.1.1.1.0;
    }

pub facts_keysym : (k : Keysyms) → KeysymFacts k → keysyms_in_range k ≡ true
unfolding keysyms_in_range
facts_keysym k r =
    chain_all (keysym_in_range k.first) (keysym_tests k)
    (r.first, (r.second, (r.third, (r.fourth, (r.first_second, (r.second_third, (r.third_fourth, tt)))))))

-- a number fits 31 bits
pub keysym_below : (s : ℕ) → keysym_in_range s ≡ true → s < 0x80000000
keysym_below s h = go (eqb s 0) refl
  where
    go : (t : Bool) → eqb s 0 ≡ t → s < 0x80000000
    go true q = let e = eqb-true s 0 q in omega arith
    go false q = ltb-true s 0x80000000 (and_right (leb 0x20000000 s) (ltb s 0x80000000) (rw q at h))
