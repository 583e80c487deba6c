-- An event that is kept is within the ranges of a table's entries.
use Prim.Native.Nat.{ℕ, ◌-◌, ◌^◌, ◌≤◌, ◌<◌}
use native.Mathlib.Omega.{arith}
use mathlib.Core.Path.{◌≡◌, refl}
use mathlib.Core.List.{List, [], ◌∷◌}
use mathlib.Core.Bool.{Bool, true, false, cond, not, ◌&&◌, ◌||◌}
use Rattle.std.specs.Prelude.{Option, None, Some}
use lib.Dec.{eqb, leb, ltb}
use lib.ListN.{length, drop}
use borrow.Author.Tests.{le-leb, leb-true, ltb-false, eqb-true, not-false}
use Rattle.words.proofs.Bools.{and_left, and_right, or_no_left, or_no_right}
use Rattle.model.specs.Lists.{all, any, bytes, same, is_empty}
use Rattle.model.specs.Limits.{keysym_limit, small_detail_limit}
use Rattle.model.specs.Numbers.{event_order}
use Rattle.model.specs.Bytes.{in_range, is_code, byte_at, is_digit}
use Rattle.model.specs.Codes.{takes_count, is_key, is_button, motion_notify, has_mode, mapping_notify, has_atom}
use Rattle.model.specs.Names.{Entry, first_meaning, protocol_entries, synonym_entries, abbreviation_entries, type_entries, type_named}
use Rattle.model.specs.Latin1.{latin1_entries}
use Rattle.model.specs.Details.{digits_from, within_limit, number_in, keysym_entries, keysym_names, starts_hexadecimal, key_detail, button_entries, motion_entries, mode_entries, request_entries, leading_zero, small_number, name_or_number, detail_named}
use Rattle.model.specs.Events.{Modifier, name, keysym, ModifierList, Count, Written, WrittenEvent, event, key}
use Rattle.model.specs.Modifiers.{bit_if, mask, modifiers_of, lists_clear, set_mask, clear_mask, asks_set, asks_clear}
use Rattle.model.specs.Named.{lists_form, adds_form, names_mask, with_read, keysyms_from, keysyms_of, is_crowded, has_names}
use Rattle.model.specs.Judging.{fixes, detail_of, read_value, kept_detail, is_one_digit, count_bad, count_value, any_too_large, kept_clear, detail_too_large, is_unknown, is_out_of_range, is_unbuilt, is_list_not_taken, is_colon_misplaced, kept_event, is_impossible, event_number, judged_as, judged_written, key_press_of, judged_mark, judged}
use Rattle.model.specs.declared.scan.KeyMark.{KeyMark}
use Rattle.model.specs.declared.events.Detail.{Detail}
use Rattle.model.specs.declared.names.Added.{Added}
use Rattle.model.specs.declared.names.EventType.{EventType}
use Rattle.model.specs.declared.names.TypeName.{TypeName}
use Rattle.model.specs.declared.names.DetailRead.{DetailRead}
use Rattle.model.specs.declared.answers.Judged.{Judged}
use Rattle.tables.specs.Layout.{value_of}
use Rattle.tables.specs.Fitting.{event_in_range, keysyms_in_range}
use Rattle.tables.proofs.Positions.{cond_both, Small}
use Rattle.tables.proofs.EventWords.{facts_range}
use Rattle.tables.proofs.KeysymRange.{Rises, with_rises, rises_range}
use Rattle.tables.proofs.EventsRead.{WrittenSmall, ModifiersSmall}

-- ---- Names

named_test : {A : Type 0} (test : A → Bool) (es : List (Entry A)) (other : A) (word : List ℕ) → all (λ (e : Entry A). test e.meaning) es ≡ true → test other ≡ true
    → test (first_meaning es other word) ≡ true
named_test test [] other word a o = o
named_test {A} test (e ∷ es) other word a o =
    cond_both (λ (x : A). test x ≡ true) (same word (bytes e.name)) e.meaning (first_meaning es other word)
    (λ _. and_left (test e.meaning) (all (λ (e : Entry A). test e.meaning) es) a)
    (λ _. named_test test es other word (and_right (test e.meaning) (all (λ (e : Entry A). test e.meaning) es) a) o)

abbrev type_test : TypeName → Bool
type_test (TypeName.Known ty) = (leb 2 ty.code && leb ty.code 34) && leb (value_of ty.detail) 0x1FFFFFFF
type_test TypeName.Unknown = true

types_pass : all (λ (e : Entry TypeName). type_test e.meaning) type_entries ≡ true
unfolding type_entries protocol_entries synonym_entries abbreviation_entries
types_pass = refl

type_pass : (word : List ℕ) → type_test (type_named word) ≡ true
unfolding type_named
type_pass word = named_test type_test type_entries TypeName.Unknown word types_pass refl

-- ---- Details

abbrev read_test : DetailRead → Bool
read_test (DetailRead.Value v) = leb v 0x1FFFFFFF
read_test DetailRead.Unknown = true
read_test DetailRead.TooLarge = true
read_test DetailRead.NotBuilt = true

abbrev Pass : DetailRead → Type 0
Pass r = read_test r ≡ true

within_pass : (limit : ℕ) (r : Option ℕ) → limit ≤ 0x1FFFFFFF → Pass (within_limit limit r)
within_pass limit None h = refl
within_pass limit (Some v) h =
    cond_both Pass (ltb limit v) DetailRead.TooLarge (DetailRead.Value v) (λ _. refl)
    (λ e. let q = ltb-false limit v e in le-leb v 0x1FFFFFFF (omega arith))

number_pass : (base limit : ℕ) (word : List ℕ) → limit ≤ 0x1FFFFFFF → Pass (number_in base limit word)
unfolding number_in
number_pass base limit [] h = refl
number_pass base limit (b ∷ bs) h = within_pass limit (digits_from base 0 (b ∷ bs)) h

keysyms_pass : all (λ (e : Entry DetailRead). read_test e.meaning) keysym_names ≡ true
unfolding keysym_names keysym_entries latin1_entries
keysyms_pass = refl

key_pass : (word : List ℕ) → Small word → Pass (key_detail word)
unfolding key_detail
key_pass word s =
    cond_both Pass (eqb (length word) 1) (DetailRead.Value (byte_at word 0)) (cond (starts_hexadecimal word) (number_in 16 keysym_limit (drop 2 word)) (cond (is_code (byte_at word 0) "0") (number_in 8 keysym_limit word) (cond (is_digit (byte_at word 0)) (number_in 10 keysym_limit word) (first_meaning keysym_names DetailRead.Unknown word))))
    (λ _. let b = s 0 in le-leb (byte_at word 0) 0x1FFFFFFF (omega arith))
    (λ _. cond_both Pass (starts_hexadecimal word) (number_in 16 keysym_limit (drop 2 word)) (cond (is_code (byte_at word 0) "0") (number_in 8 keysym_limit word) (cond (is_digit (byte_at word 0)) (number_in 10 keysym_limit word) (first_meaning keysym_names DetailRead.Unknown word)))
    (λ _. number_pass 16 keysym_limit (drop 2 word) (omega arith))
    (λ _. cond_both Pass (is_code (byte_at word 0) "0") (number_in 8 keysym_limit word) (cond (is_digit (byte_at word 0)) (number_in 10 keysym_limit word) (first_meaning keysym_names DetailRead.Unknown word))
    (λ _. number_pass 8 keysym_limit word (omega arith))
    (λ _. cond_both Pass (is_digit (byte_at word 0)) (number_in 10 keysym_limit word) (first_meaning keysym_names DetailRead.Unknown word)
    (λ _. number_pass 10 keysym_limit word (omega arith))
    (λ _. named_test read_test keysym_names DetailRead.Unknown word keysyms_pass refl))))

small_pass : (word : List ℕ) → Pass (small_number word)
unfolding small_number
small_pass word =
    cond_both Pass (leading_zero word) DetailRead.Unknown (number_in 10 small_detail_limit word) (λ _. refl) (λ _. number_pass 10 small_detail_limit word (omega arith))

named_pass : (entries : List (Entry DetailRead)) (word : List ℕ) → all (λ (e : Entry DetailRead). read_test e.meaning) entries ≡ true → Pass (name_or_number entries word)
unfolding name_or_number
named_pass entries word a =
    cond_both Pass (is_digit (byte_at word 0)) (small_number word) (first_meaning entries DetailRead.Unknown word)
    (λ _. small_pass word) (λ _. named_test read_test entries DetailRead.Unknown word a refl)

detail_pass : (code : ℕ) (word : List ℕ) → Small word → Pass (detail_named code word)
unfolding detail_named button_entries motion_entries mode_entries request_entries
detail_pass code word s =
    cond_both Pass (is_key code) (key_detail word) (cond (is_button code) (first_meaning button_entries DetailRead.Unknown word) (cond (eqb code motion_notify) (name_or_number motion_entries word) (cond (has_mode code) (name_or_number mode_entries word) (cond (eqb code mapping_notify) (name_or_number request_entries word) (cond (has_atom code) DetailRead.NotBuilt DetailRead.Unknown)))))
    (λ _. key_pass word s)
    (λ _. cond_both Pass (is_button code) (first_meaning button_entries DetailRead.Unknown word) (cond (eqb code motion_notify) (name_or_number motion_entries word) (cond (has_mode code) (name_or_number mode_entries word) (cond (eqb code mapping_notify) (name_or_number request_entries word) (cond (has_atom code) DetailRead.NotBuilt DetailRead.Unknown))))
    (λ _. named_test read_test button_entries DetailRead.Unknown word refl refl)
    (λ _. cond_both Pass (eqb code motion_notify) (name_or_number motion_entries word) (cond (has_mode code) (name_or_number mode_entries word) (cond (eqb code mapping_notify) (name_or_number request_entries word) (cond (has_atom code) DetailRead.NotBuilt DetailRead.Unknown)))
    (λ _. named_pass motion_entries word refl)
    (λ _. cond_both Pass (has_mode code) (name_or_number mode_entries word) (cond (eqb code mapping_notify) (name_or_number request_entries word) (cond (has_atom code) DetailRead.NotBuilt DetailRead.Unknown))
    (λ _. named_pass mode_entries word refl)
    (λ _. cond_both Pass (eqb code mapping_notify) (name_or_number request_entries word) (cond (has_atom code) DetailRead.NotBuilt DetailRead.Unknown)
    (λ _. named_pass request_entries word refl)
    (λ _. cond_both Pass (has_atom code) DetailRead.NotBuilt DetailRead.Unknown (λ _. refl) (λ _. refl))))))

read_rises : (tilde : Bool) (r : DetailRead) (ss : List ℕ) → Pass r → Rises 0 ss → Rises 0 (with_read tilde r ss)
read_rises tilde (DetailRead.Value v) ss e r = let h = leb-true v 0x1FFFFFFF e in with_rises tilde 0 v ss (omega arith) (omega arith) r
read_rises tilde DetailRead.Unknown ss e r = r
read_rises tilde DetailRead.TooLarge ss e r = r
read_rises tilde DetailRead.NotBuilt ss e r = r

read_value_lem : (r : DetailRead) → Pass r → value_of (read_value r) ≤ 0x1FFFFFFF
read_value_lem (DetailRead.Value v) e = leb-true v 0x1FFFFFFF e
read_value_lem DetailRead.Unknown e = omega arith
read_value_lem DetailRead.TooLarge e = omega arith
read_value_lem DetailRead.NotBuilt e = omega arith

kept_detail_lem : (ty : EventType) (word : List ℕ) → value_of ty.detail ≤ 0x1FFFFFFF → Small word → value_of (kept_detail ty word) ≤ 0x1FFFFFFF
unfolding kept_detail detail_of
kept_detail_lem ty word h s =
    cond_both (λ (d : Detail). value_of d ≤ 0x1FFFFFFF) (is_empty word) ty.detail (read_value (detail_of ty word)) (λ _. h)
    (λ _. read_value_lem (detail_of ty word)
    (cond_both Pass (fixes ty.detail) DetailRead.Unknown (detail_named ty.code word) (λ _. refl) (λ _. detail_pass ty.code word s)))

-- ---- Masks

bit_le : (b : Bool) (k : ℕ) → bit_if b k ≤ 2 ^ k
bit_le true k = omega arith
bit_le false k = omega arith

pub mask_below : (test : ℕ → Bool) → mask test < 8192
unfolding mask
mask_below test =
    omega (arith, bit_le (test 0) 0, bit_le (test 1) 1, bit_le (test 2) 2, bit_le (test 3) 3, bit_le (test 4) 4, bit_le (test 5) 5, bit_le (test 6) 6, bit_le (test 7) 7, bit_le (test 8) 8, bit_le (test 9) 9, bit_le (test 10) 10, bit_le (test 11) 11, bit_le (test 12) 12)

pub names_below_lem : (list : ModifierList) (added : Added) → names_mask list added < 256
unfolding names_mask
names_below_lem list added =
    let test : ℕ → Bool = λ k. any (lists_form k) (modifiers_of list) || adds_form added k in
    omega (arith, bit_le (test 0) 0, bit_le (test 1) 1, bit_le (test 2) 2, bit_le (test 3) 3, bit_le (test 4) 4, bit_le (test 5) 5, bit_le (test 6) 6, bit_le (test 7) 7)

clear_below_lem : (list : ModifierList) (added : Added) → kept_clear list added < 8192
unfolding kept_clear clear_mask
clear_below_lem list added =
    cond_both (λ (n : ℕ). n < 8192) (has_names list added) (mask (lists_clear list)) (clear_mask list) (λ _. mask_below (lists_clear list)) (λ _. mask_below (asks_clear list))

-- ---- Keysyms after `@`

-- those of modifiers are marked, and rise
keysyms_rise : (ss : List ℕ) (ms : List Modifier) → ModifiersSmall ms → Rises 0 ss → Rises 0 (keysyms_from ss ms)
unfolding keysyms_from
keysyms_rise ss [] a r = r
keysyms_rise ss (name tilde word ∷ ms) a r = keysyms_rise ss ms a.1 r
keysyms_rise ss (keysym tilde word ∷ ms) a r =
    keysyms_rise (with_read tilde (key_detail word) ss) ms a.1 (read_rises tilde (key_detail word) ss (key_pass word a.0) r)

list_rises : (list : ModifierList) → ModifiersSmall (modifiers_of list) → Rises 0 (keysyms_of list)
unfolding keysyms_of
list_rises list a = keysyms_rise [] (modifiers_of list) a tt

-- ---- Counts

pub record CountFacts (code n : ℕ) : Type 0 where
  pub low : 1 ≤ n
  pub high : n ≤ 9
  pub counted : (leb n 1 || (leb 2 code && leb code 5)) ≡ true

or_right : (a b : Bool) → b ≡ true → (a || b) ≡ true
or_right true b e = refl
or_right false b e = e

count_facts : (code : ℕ) (c : Option Count) → count_bad code c ≡ false → CountFacts code (count_value c)
count_facts code None e = record { low = omega arith; high = omega arith; counted = refl }
count_facts code (Some c) e =
    let t : takes_count code ≡ true = not-false (takes_count code) (or_no_left (not (takes_count code)) (not (is_one_digit c.digits)) e) in
    let d : is_one_digit c.digits ≡ true = not-false (is_one_digit c.digits) (or_no_right (not (takes_count code)) (not (is_one_digit c.digits)) e) in
    let r : in_range 49 (byte_at c.digits 0) 57 ≡ true = and_right (eqb (length c.digits) 1) (in_range 49 (byte_at c.digits 0) 57) d in
    let a = leb-true 49 (byte_at c.digits 0) (and_left (leb 49 (byte_at c.digits 0)) (leb (byte_at c.digits 0) 57) r) in
    let b = leb-true (byte_at c.digits 0) 57 (and_right (leb 49 (byte_at c.digits 0)) (leb (byte_at c.digits 0) 57) r) in
    record { low = omega arith; high = omega arith; counted = or_right (leb (byte_at c.digits 0 - 48) 1) (leb 2 code && leb code 5) t }

-- ---- The judgement

order_range : (u r b l c i : Bool) → event_order u r b l c i ≡ 0 → r ≡ false
order_range true r b l c i e = absurd (omega arith)
order_range false true b l c i e = absurd (omega arith)
order_range false false b l c i e = refl

kept_range : (w : Written) (ty : EventType) → type_test (TypeName.Known ty) ≡ true → Small w.detail → ModifiersSmall (modifiers_of w.list) → event_number w ty ≡ 0 → event_in_range (kept_event w ty) ≡ true
unfolding kept_event event_number set_mask
kept_range w ty t s m e =
    let out = order_range (is_unknown w ty) (is_out_of_range w ty) (is_unbuilt w ty) (is_list_not_taken w ty) (is_colon_misplaced w ty) (is_impossible w ty) e in
    let c : CountFacts ty.code (count_value w.count) = count_facts ty.code w.count (or_no_right (any_too_large w.list) (count_bad ty.code w.count) (or_no_left (any_too_large w.list || count_bad ty.code w.count) (detail_too_large ty w.detail) out)) in
    let k = and_left (leb 2 ty.code && leb ty.code 34) (leb (value_of ty.detail) 0x1FFFFFFF) t in
    facts_range (kept_event w ty)
    (record {
      code_low = leb-true 2 ty.code (and_left (leb 2 ty.code) (leb ty.code 34) k);
      code_high = leb-true ty.code 34 (and_right (leb 2 ty.code) (leb ty.code 34) k);
      count_low = c.low;
      count_high = c.high;
      counted = c.counted;
      set_below = mask_below (asks_set w.list ty.added);
      clear_below = clear_below_lem w.list ty.added;
      detail = kept_detail_lem ty w.detail (leb-true (value_of ty.detail) 0x1FFFFFFF (and_right (leb 2 ty.code && leb ty.code 34) (leb (value_of ty.detail) 0x1FFFFFFF) t)) s;
      names_below = names_below_lem w.list ty.added;
      keysyms = rises_range (keysyms_of w.list) (list_rises w.list m);
    })

abbrev pub InRange : Judged → Type 0
InRange (Judged.Keep e) = event_in_range e ≡ true
InRange Judged.Crowded = Unit
InRange (Judged.Refuse n) = Unit

as_range : (w : Written) (t : TypeName) → type_test t ≡ true → Small w.detail → ModifiersSmall (modifiers_of w.list) → InRange (judged_as w t)
as_range w (TypeName.Known ty) t s m =
    cond_both InRange (eqb (event_number w ty) 0) (cond (is_crowded w.list) Judged.Crowded (Judged.Keep (kept_event w ty))) (Judged.Refuse (event_number w ty))
    (λ e. cond_both InRange (is_crowded w.list) Judged.Crowded (Judged.Keep (kept_event w ty)) (λ _. tt)
    (λ _. kept_range w ty t s m (eqb-true (event_number w ty) 0 e)))
    (λ _. tt)
as_range w TypeName.Unknown t s m = tt

press_range : (set names byte : ℕ) → set < 8192 → names < 256 → byte < 256 → event_in_range (key_press_of set names byte) ≡ true
unfolding keysyms_in_range
press_range set names byte h n b =
    facts_range (key_press_of set names byte)
    (record {
      code_low = omega arith;
      code_high = omega arith;
      count_low = omega arith;
      count_high = omega arith;
      counted = refl;
      set_below = h;
      clear_below = omega arith;
      detail = omega arith;
      names_below = n;
      keysyms = refl;
    })

mark_range : (m : KeyMark) (byte : ℕ) → byte < 256 → InRange (judged_mark m byte)
mark_range KeyMark.Plain byte b = press_range 0 0 byte (omega arith) (omega arith) b
mark_range KeyMark.Control byte b = press_range 4 0 byte (omega arith) (omega arith) b
mark_range KeyMark.Quoted byte b = press_range 0 0 byte (omega arith) (omega arith) b
mark_range KeyMark.Meta byte b = press_range 0 1 byte (omega arith) (omega arith) b

pub judged_range : (e : WrittenEvent) → WrittenSmall e → InRange (judged e)
unfolding judged judged_written
judged_range (event w) s = as_range w (type_named w.type_name) (type_pass w.type_name) s.0 s.1
judged_range (key k) s = mark_range k.mark k.byte s
