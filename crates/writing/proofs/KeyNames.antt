-- What a keysym is written as. Computed tests: over all keysyms of one byte, and over document 01's names. Assumes nothing.
use Prim.Native.Nat.{ℕ, suc, ◌+◌, ◌≤◌, ◌<◌}
use native.Mathlib.Omega.{arith}
use native.Mathlib.Numerals.{add-one}
use native.Mathlib.Nat.{zero-add}
use mathlib.Core.Path.{◌≡◌, refl, sym, ap, ◌∙◌}
use mathlib.Core.Bool.{Bool, true, false, false≢true, true≢false, not, cond, ◌&&◌}
use mathlib.Core.List.{List, [], ◌∷◌, ◌++◌}
use Rattle.std.specs.Prelude.{Option, None, Some}
use lib.Dec.{leb, ltb}
use lib.ListN.{length, get_or, drop, drop_of_length-le}
use lib.Seq.{drop-cons}
use borrow.Author.Tests.{eqb-true, leb-true, ltb-true, ltb-false, not-true}
use Rattle.words.specs.Runs.{every, run}
use Rattle.words.proofs.Bools.{and_left, and_right}
use Rattle.words.proofs.RunLaws.{every_at, run_at}
use Rattle.model.specs.Lists.{same, is_before, is_empty, earliest}
use Rattle.model.proofs.Sameness.{same_eq}
use Rattle.model.specs.Names.{Entry, names_with}
use Rattle.model.specs.Latin1.{latin1_entries}
use Rattle.model.specs.Details.{keysym_entries, keysym_names, button_entries, motion_entries, mode_entries, request_entries}
use Rattle.model.specs.Canonical.{hexadecimal, is_value, first_in_order, first_name_or, keysym_text}
use Rattle.model.specs.declared.names.DetailRead.{DetailRead}
use Rattle.names.specs.Places.{buttons_at}
use Rattle.names.specs.Table.{meanings_in, all_names, other_names, name_row, directive_entries, detail_values, longest_name}
use Rattle.keysyms.specs.Table.{keysym_total, keysym_name, first_place, place_given}
use Rattle.keysyms.specs.declared.search.NamePlace.{NamePlace}
use Rattle.keysyms.proofs.FirstPlaces.{none_high}
use Rattle.writing.specs.KeyNames.{place_or_past, keysym_place}

-- ---- The names of a value

-- where there are names, the first of them is written
named_first : (other : List ℕ) (ns : List (List ℕ)) → is_empty ns ≡ false → first_name_or other ns ≡ first_name_or [] ns
named_first other [] e = absurd (true≢false e)
named_first other (n ∷ ns) e = refl

named_none : (other : List ℕ) (ns : List (List ℕ)) → is_empty ns ≡ true → first_name_or other ns ≡ other
named_none other [] e = refl
named_none other (n ∷ ns) e = absurd (false≢true e)

with_append : (test : DetailRead → Bool) (es fs : List (Entry DetailRead)) → names_with test (es ++ fs) ≡ names_with test es ++ names_with test fs
unfolding names_with
with_append test [] fs = refl
with_append test (e ∷ es) fs = go (test e.meaning) refl (with_append test es fs)
  where
    go : (b : Bool) → test e.meaning ≡ b → names_with test (es ++ fs) ≡ names_with test es ++ names_with test fs
        → names_with test (e ∷ es ++ fs) ≡ names_with test (e ∷ es) ++ names_with test fs
    go true q ih = rw (q, ih)
    go false q ih = rw (q, ih)

-- no entry passes the test
with_none : (test : DetailRead → Bool) (i : ℕ) (es : List (Entry DetailRead)) → earliest test i (meanings_in es) ≡ None → names_with test es ≡ []
unfolding names_with
with_none test i [] h = refl
with_none test i (e ∷ es) h = go (test e.meaning) refl h (with_none test (suc i) es)
  where
    go : (b : Bool) → test e.meaning ≡ b → cond b (Some i) (earliest test (suc i) (meanings_in es)) ≡ None
        → (earliest test (suc i) (meanings_in es) ≡ None → names_with test es ≡ []) → names_with test (e ∷ es) ≡ []
    go true q p ih = let z : ◌≡◌ {A = ℕ} 0 1 = cc in absurd (let y : ⊥ = omega arith in y)
    go false q p ih = rw q (ih p)

abbrev names_for : ℕ → List (List ℕ)
names_for v = names_with (is_value v) keysym_names

-- the first of the names in byte order is this one
abbrev has_first : List (List ℕ) → List ℕ → Bool
has_first ns name = not (is_empty ns) && same (first_name_or [] ns) name

first_written : (v : ℕ) (name : List ℕ) → has_first (names_for v) name ≡ true → name ≡ keysym_text v
unfolding keysym_text
first_written v name e =
    let n = not-true (is_empty (names_for v)) (and_left (not (is_empty (names_for v))) (same (first_name_or [] (names_for v)) name) e) in
    let f = and_right (not (is_empty (names_for v))) (same (first_name_or [] (names_for v)) name) e in
    sym (named_first (hexadecimal v) (names_for v) n ∙ same_eq (first_name_or [] (names_for v)) name f)

-- ---- A name of the header

-- the first name of a value is the one at its place, and the place is one of the table
abbrev is_first : List (List ℕ) → NamePlace → Bool
is_first ns (NamePlace.At i) = ltb i keysym_total && has_first ns (keysym_name i)
is_first ns NamePlace.Nowhere = true

first_test : every (λ v. is_first (names_for v) (first_place v)) 0 256 ≡ true
unfolding every names_with is_before first_in_order keysym_name first_place keysym_names keysym_entries latin1_entries
first_test = refl

byte_value : (v i : ℕ) → first_place v ≡ NamePlace.At i → v < 256
byte_value v i e = go (ltb v 256) refl
  where
    go : (b : Bool) → ltb v 256 ≡ b → v < 256
    go true q = ltb-true v 256 q
    go false q =
        let h : first_place v ≡ NamePlace.Nowhere = none_high v (ltb-false v 256 q) in
        let z : ◌≡◌ {A = ℕ} 0 1 = cc in absurd (let y : ⊥ = omega arith in y)

module _ (v i : ℕ) (e : first_place v ≡ NamePlace.At i) where
  first : is_first (names_for v) (NamePlace.At i) ≡ true
  first = rw e at (rw zero-add at (every_at (λ v. is_first (names_for v) (first_place v)) 0 256 v first_test (byte_value v i e)))

  pub latin1_place : i < keysym_total
  latin1_place = ltb-true i keysym_total (and_left (ltb i keysym_total) (has_first (names_for v) (keysym_name i)) first)

  pub latin1_written : keysym_name i ≡ keysym_text v
  latin1_written = first_written v (keysym_name i) (and_right (ltb i keysym_total) (has_first (names_for v) (keysym_name i)) first)

lengths_test : every (λ i. leb (length (keysym_name i)) longest_name) 0 keysym_total ≡ true
unfolding every keysym_name latin1_entries
lengths_test = refl

pub latin1_length : (i : ℕ) → i < keysym_total → length (keysym_name i) ≤ longest_name
latin1_length i h =
    leb-true (length (keysym_name i)) longest_name (rw zero-add at (every_at (λ i. leb (length (keysym_name i)) longest_name) 0 keysym_total i lengths_test h))

-- ---- A name of document 01's list

-- the search goes on through the list
module _ (test : DetailRead → Bool) (rs : List DetailRead) (i : ℕ) where
  pub value_here : i < length rs → test (get_or rs i DetailRead.Unknown) ≡ true → earliest test i (drop i rs) ≡ Some i
  value_here h e = rw (drop-cons rs i DetailRead.Unknown h, e)

  pub value_later : i < length rs → test (get_or rs i DetailRead.Unknown) ≡ false → earliest test i (drop i rs) ≡ earliest test (i + 1) (drop (i + 1) rs)
  value_later h e = rw (drop-cons rs i DetailRead.Unknown h, e, add-one)

  pub value_nowhere : length rs ≤ i → earliest test i (drop i rs) ≡ None
  value_nowhere h = rw (drop_of_length-le rs h)

abbrev pub meaning_at : ℕ → DetailRead
meaning_at i = get_or (meanings_in keysym_entries) i DetailRead.Unknown

pub meanings_total : length (meanings_in keysym_entries) ≡ buttons_at
unfolding keysym_entries
meanings_total = refl

values_test : run meaning_at 0 buttons_at ≡ run (λ i. DetailRead.Value (get_or detail_values i 0)) 0 buttons_at
unfolding run detail_values keysym_entries button_entries motion_entries mode_entries request_entries
values_test = refl

pub meaning_value : (i : ℕ) → i < buttons_at → meaning_at i ≡ DetailRead.Value (get_or detail_values i 0)
meaning_value i h =
    rw zero-add at (run_at meaning_at (λ i. DetailRead.Value (get_or detail_values i 0)) 0 buttons_at DetailRead.Unknown values_test i h)

-- what is found passes the test
earliest_passes : (test : DetailRead → Bool) (i n : ℕ) (rs : List DetailRead) → earliest test i rs ≡ Some n
    → (k : ℕ) × (n ≡ i + k) × (k < length rs) × (test (get_or rs k DetailRead.Unknown) ≡ true)
earliest_passes test i n [] e = let z : ◌≡◌ {A = ℕ} 0 1 = cc in absurd (let y : ⊥ = omega arith in y)
earliest_passes test i n (r ∷ rs) e = go (test r) refl e (earliest_passes test (suc i) n rs)
  where
    go : (b : Bool) → test r ≡ b → cond b (Some i) (earliest test (suc i) rs) ≡ Some n
        → (earliest test (suc i) rs ≡ Some n → (k : ℕ) × (n ≡ suc i + k) × (k < length rs) × (test (get_or rs k DetailRead.Unknown) ≡ true))
        → (k : ℕ) × (n ≡ i + k) × (k < suc (length rs)) × (test (get_or (r ∷ rs) k DetailRead.Unknown) ≡ true)
    go true q p ih = let z : i ≡ n = cc in (0, omega arith, omega arith, q)
    go false q p ih = let x = ih p in (suc x.0, omega (arith, x.1), omega (arith, x.2), x.3)

-- the name at a place of the list is the first of its value
rows_test : every (λ i. has_first (names_for (get_or detail_values i 0)) (name_row i)) 0 buttons_at ≡ true
unfolding every names_with is_before first_in_order name_row all_names other_names directive_entries detail_values keysym_names keysym_entries latin1_entries button_entries motion_entries mode_entries request_entries
rows_test = refl

module _ (v : ℕ) where
  abbrev found : Option ℕ
  found = earliest (is_value v) 0 (meanings_in keysym_entries)

  found_written : (n : ℕ) → found ≡ Some n → (n < buttons_at) × (name_row n ≡ keysym_text v)
  found_written n e =
      let x = earliest_passes (is_value v) 0 n (meanings_in keysym_entries) e in
      let k : n ≡ x.0 = omega (arith, x.1) in
      let h : n < buttons_at = omega (arith, x.2, meanings_total) in
      let t : is_value v (DetailRead.Value (get_or detail_values n 0)) ≡ true =
      sym (ap (is_value v) (meaning_value n h)) ∙ ap (λ (j : ℕ). is_value v (meaning_at j)) k ∙ x.3
      in
      let w : get_or detail_values n 0 ≡ v = eqb-true (get_or detail_values n 0) v t in (
        h,
        first_written v (name_row n)
            (rw w at (rw zero-add at (every_at (λ i. has_first (names_for (get_or detail_values i 0)) (name_row i)) 0 buttons_at n rows_test h))),
      )

  pub row_written : keysym_place v < buttons_at → name_row (keysym_place v) ≡ keysym_text v
  unfolding keysym_place
  row_written h = go found refl h
    where
      go : (o : Option ℕ) → found ≡ o → place_or_past o < buttons_at → name_row (place_or_past o) ≡ keysym_text v
      go (Some n) e k = (found_written n e).1
      go None e k = absurd (omega arith)

  none_found : buttons_at ≤ keysym_place v → found ≡ None
  unfolding keysym_place
  none_found h = go found refl h
    where
      go : (o : Option ℕ) → found ≡ o → buttons_at ≤ place_or_past o → found ≡ None
      go (Some n) e k = absurd (let y : ⊥ = omega (arith, (found_written n e).0) in y)
      go None e k = e

  none_placed : first_place v ≡ NamePlace.Nowhere → earliest (is_value v) 0 (meanings_in latin1_entries) ≡ None
  unfolding first_place
  none_placed h = go (earliest (is_value v) 0 (meanings_in latin1_entries)) refl h
    where
      go : (o : Option ℕ) → earliest (is_value v) 0 (meanings_in latin1_entries) ≡ o → place_given o ≡ NamePlace.Nowhere
          → earliest (is_value v) 0 (meanings_in latin1_entries) ≡ None
      go (Some n) e k = let z : ◌≡◌ {A = ℕ} 0 1 = cc in absurd (let y : ⊥ = omega arith in y)
      go None e k = e

  -- a value without a name of either list
  pub number_written : first_place v ≡ NamePlace.Nowhere → buttons_at ≤ keysym_place v → hexadecimal v ≡ keysym_text v
  unfolding keysym_text keysym_names
  number_written h k =
      let p : names_with (is_value v) keysym_entries ≡ [] = with_none (is_value v) 0 keysym_entries (none_found k) in
      let q : names_with (is_value v) latin1_entries ≡ [] = with_none (is_value v) 0 latin1_entries (none_placed h) in
      let e : names_with (is_value v) (keysym_entries ++ latin1_entries) ≡ [] = with_append (is_value v) keysym_entries latin1_entries ∙ rw (p, q) in
      ap (first_name_or (hexadecimal v)) (sym e)
