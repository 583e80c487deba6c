-- The detail that the canonical text has reads back.
use Prim.Native.Nat.{ℕ, ◌+◌, ◌-◌, ◌≤◌, ◌<◌}
use native.Mathlib.Omega.{arith}
use mathlib.Core.Path.{◌≡◌, refl, sym, ap}
use mathlib.Core.Bool.{Bool, true, false, cond, not, ◌&&◌, ◌||◌}
use mathlib.Core.List.{List, [], ◌∷◌}
use lib.Dec.{eqb, leb}
use borrow.Author.Tests.{eqb-true, leb-true}
use Rattle.model.specs.Lists.{bytes, is_before, all, is_empty}
use Rattle.model.specs.Limits.{keysym_limit, small_detail_limit}
use Rattle.model.specs.Bytes.{is_digit, in_range}
use Rattle.model.specs.Codes.{is_key, is_button, motion_notify, has_mode, mapping_notify}
use Rattle.model.specs.Names.{Entry, first_meaning, names_with}
use Rattle.model.specs.Latin1.{latin1_entries}
use Rattle.model.specs.Details.{digit_value, digits_from, number_in, keysym_entries, keysym_names, key_detail, small_number, name_or_number, detail_named, button_entries, motion_entries, mode_entries, request_entries}
use Rattle.model.specs.Canonical.{digits_in, decimal, hexadecimal, is_value, name_or_decimal, first_in_order, first_name_or, keysym_text, value_text}
use Rattle.model.specs.declared.names.DetailRead.{DetailRead}
use Rattle.names.specs.Table.{value_number}
use Rattle.lookup.proofs.Ranges.{detail_sound}
use Rattle.modifiers.proofs.Below.{every, every_at, both_left, both_right}
use Rattle.grammar.specs.Bytes.{letter_or_digit}
use Rattle.roundtrip.proofs.Lists.{choose}
use Rattle.roundtrip.proofs.Numbers.{digits_letters, hexadecimal_reads}

-- the codes whose details have values
abbrev pub takes_detail : ℕ → Bool
takes_detail code = is_key code || (is_button code || (eqb code motion_notify || (has_mode code || eqb code mapping_notify)))

-- a word of letters and digits that reads to a value
pub record Reads (read : DetailRead) (v : ℕ) (word : List ℕ) : Type 0 where
  pub stands : read ≡ DetailRead.Value v
  pub some : is_empty word ≡ false
  pub letters : all letter_or_digit word ≡ true

-- ---- Names and decimal numbers, by one test over all values

abbrev reads : DetailRead → ℕ → List ℕ → Bool
reads r v word = is_value v r && (not (is_empty word) && all letter_or_digit word)

is_value_lem : (v : ℕ) (r : DetailRead) → is_value v r ≡ true → r ≡ DetailRead.Value v
is_value_lem v (DetailRead.Value w) e = ap DetailRead.Value (eqb-true w v e)
is_value_lem v DetailRead.Unknown e = let z : ◌≡◌ {A = ℕ} 0 1 = cc in absurd (omega arith)
is_value_lem v DetailRead.TooLarge e = let z : ◌≡◌ {A = ℕ} 0 1 = cc in absurd (omega arith)
is_value_lem v DetailRead.NotBuilt e = let z : ◌≡◌ {A = ℕ} 0 1 = cc in absurd (omega arith)

reads_from : (read : DetailRead) (v : ℕ) (word : List ℕ) → reads read v word ≡ true → Reads read v word
reads_from read v word e =
    let a : Bool = is_value v read in
    let b : Bool = not (is_empty word) in
    let c : Bool = all letter_or_digit word in
    record {
      stands = is_value_lem v read (both_left a (b && c) e);
      some = is_not (is_empty word) (both_left b c (both_right a (b && c) e));
      letters = both_right b c (both_right a (b && c) e);
    }
  where
    is_not : (t : Bool) → not t ≡ true → t ≡ false
    is_not true q = sym q
    is_not false q = refl

module _ (entries : List (Entry DetailRead)) where
  abbrev small_reads : ℕ → Bool
  small_reads v = reads (name_or_number entries (name_or_decimal entries v)) v (name_or_decimal entries v)

motions_read : every 256 (small_reads motion_entries) ≡ true
unfolding every name_or_number motion_entries small_number number_in digits_from digit_value decimal digits_in is_digit
motions_read = refl

modes_read : every 256 (small_reads mode_entries) ≡ true
unfolding every name_or_number mode_entries small_number number_in digits_from digit_value decimal digits_in is_digit
modes_read = refl

requests_read : every 256 (small_reads request_entries) ≡ true
unfolding every name_or_number request_entries small_number number_in digits_from digit_value decimal digits_in is_digit
requests_read = refl

small_reads_lem : (entries : List (Entry DetailRead)) → every 256 (small_reads entries) ≡ true → (v : ℕ) → leb v small_detail_limit ≡ true
    → Reads (name_or_number entries (name_or_decimal entries v)) v (name_or_decimal entries v)
small_reads_lem entries e v h =
    let l : v < 256 = omega (arith, leb-true v small_detail_limit h) in
    reads_from (name_or_number entries (name_or_decimal entries v)) v (name_or_decimal entries v) (every_at 256 (small_reads entries) e v l)

abbrev button_reads : ℕ → Bool
button_reads v = reads (first_meaning button_entries DetailRead.Unknown (name_or_decimal button_entries v)) v (name_or_decimal button_entries v)

buttons_read : every 5 (λ k. button_reads (1 + k)) ≡ true
unfolding every button_entries
buttons_read = refl

button_reads_lem : (v : ℕ) → in_range 1 v 5 ≡ true → Reads (first_meaning button_entries DetailRead.Unknown (name_or_decimal button_entries v)) v (name_or_decimal button_entries v)
button_reads_lem v h =
    let low : 1 ≤ v = leb-true 1 v (both_left (leb 1 v) (leb v 5) h) in
    let high : v ≤ 5 = leb-true v 5 (both_right (leb 1 v) (leb v 5) h) in
    let l : v - 1 < 5 = omega arith in
    let e : 1 + (v - 1) ≡ v = omega arith in
    reads_from (first_meaning button_entries DetailRead.Unknown (name_or_decimal button_entries v)) v (name_or_decimal button_entries v)
    (rw e at (every_at 5 (λ k. button_reads (1 + k)) buttons_read (v - 1) l))

-- ---- Keysyms: names, by one test over all of them, and hexadecimal numbers

abbrev entry_reads : Entry DetailRead → Bool
entry_reads e = reads (key_detail (bytes e.name)) (value_number e.meaning) (bytes e.name)

names_read : all entry_reads keysym_names ≡ true
unfolding key_detail keysym_names keysym_entries latin1_entries number_in digits_from digit_value is_digit
names_read = refl

module _ (v : ℕ) where
  abbrev KeyReads : List ℕ → Type 0
  KeyReads word = Reads (key_detail word) v word

  -- an entry of the value
  entry_reads_lem : (e : Entry DetailRead) → entry_reads e ≡ true → is_value v e.meaning ≡ true → KeyReads (bytes e.name)
  entry_reads_lem e t q =
      let m : value_number e.meaning ≡ v = ap value_number (is_value_lem v e.meaning q) in
      reads_from (key_detail (bytes e.name)) v (bytes e.name) (rw m at t)

  either_reads : (b : Bool) (n least : List ℕ) → KeyReads n → KeyReads least → KeyReads (cond b n least)
  either_reads true n least p q = p
  either_reads false n least p q = q

  first_reads : (es : List (Entry DetailRead)) (least : List ℕ) → all entry_reads es ≡ true → KeyReads least
      → KeyReads (first_in_order least (names_with (is_value v) es))
  unfolding first_in_order names_with
  first_reads [] least t p = p
  first_reads (e ∷ es) least t p =
      choose (is_value v e.meaning)
      (λ q.
      rw q
      (first_reads es (cond (is_before (bytes e.name) least) (bytes e.name) least) (both_right (entry_reads e) (all entry_reads es) t)
      (either_reads (is_before (bytes e.name) least) (bytes e.name) least (entry_reads_lem e (both_left (entry_reads e) (all entry_reads es) t) q) p)))
      (λ q. rw q (first_reads es least (both_right (entry_reads e) (all entry_reads es) t) p))

  named_reads : (es : List (Entry DetailRead)) (other : List ℕ) → all entry_reads es ≡ true → KeyReads other
      → KeyReads (first_name_or other (names_with (is_value v) es))
  unfolding names_with
  named_reads [] other t p = p
  named_reads (e ∷ es) other t p =
      choose (is_value v e.meaning)
      (λ q.
      rw q
      (first_reads es (bytes e.name) (both_right (entry_reads e) (all entry_reads es) t)
      (entry_reads_lem e (both_left (entry_reads e) (all entry_reads es) t) q)))
      (λ q. rw q (named_reads es other (both_right (entry_reads e) (all entry_reads es) t) p))

  hexadecimal_key : leb v keysym_limit ≡ true → KeyReads (hexadecimal v)
  unfolding hexadecimal
  hexadecimal_key h =
      record { stands = hexadecimal_reads v (leb-true v keysym_limit h); some = refl; letters = digits_letters 8 v }

  key_reads : leb v keysym_limit ≡ true → KeyReads (keysym_text v)
  unfolding keysym_text
  key_reads h = named_reads keysym_names (hexadecimal v) names_read (hexadecimal_key h)

-- ---- Any code

pub detail_reads : (code v : ℕ) → takes_detail code ≡ true → detail_sound code v ≡ true → Reads (detail_named code (value_text code v)) v (value_text code v)
unfolding value_text detail_named
detail_reads code v t s =
    choose (is_key code)
    (λ k. rw k (key_reads v (rw k at s)))
    (λ k.
    choose (is_button code)
    (λ b. rw (k, b) (button_reads_lem v (rw (k, b) at s)))
    (λ b.
    let l : leb v small_detail_limit ≡ true = rw (k, b) at s in
    choose (eqb code motion_notify)
    (λ m. rw (k, b, m) (small_reads_lem motion_entries motions_read v l))
    (λ m.
    choose (has_mode code)
    (λ h. rw (k, b, m, h) (small_reads_lem mode_entries modes_read v l))
    (λ h.
    let q : eqb code mapping_notify ≡ true = rw (k, b, m, h) at t in
    rw (k, b, m, h, q) (small_reads_lem request_entries requests_read v l)))))
