-- What the order of the checks, 1 for the table, 12, 16, gives.
use Prim.Native.Nat.{ℕ, zero, suc}
use native.Mathlib.Omega.{arith}
use mathlib.Core.Path.{◌≡◌, refl}
use mathlib.Core.List.{List}
use mathlib.Core.Bool.{Bool, true, false}
use borrow.Author.Tests.{not-false}
use Rattle.words.proofs.Bools.{or_no_left, or_no_right}
use Rattle.model.specs.Numbers.{read_order}
use Rattle.model.specs.Asking.{located}
use Rattle.model.specs.declared.scan.Span.{Span}
use Rattle.model.specs.declared.answers.Counted.{Counted}
use Rattle.model.specs.declared.answers.Located.{Located}
use Rattle.tables.specs.Reading.{decode}
use Rattle.tables.specs.Whole.{whole}
use Rattle.calls.specs.Refusals.{is_short, table_broken, texts_short, lent_not_whole, table_refusal, lent_refusal}
use Rattle.calls.specs.Answers.{no_count, count_number, or_refused, count_answer, no_place, place_number, placed, place_answer}
use Rattle.calls.specs.Parts.{PartWithin}

-- neither 1 nor 12
passes : (a b : Bool) → read_order a b false ≡ 0 → (a ≡ false) × (b ≡ false)
passes true b e = absurd (omega arith)
passes false true e = absurd (omega arith)
passes false false e = (refl, refl)

-- ---- Counts

-- the answer where there is neither 1 nor 12
abbrev pub settled_count : Counted → Counted
settled_count asked = or_refused (read_order false false (no_count asked)) asked

module _ (table : List ℕ) where
  pub table_whole : table_refusal table ≡ 0 → whole table ≡ true
  unfolding table_refusal
  table_whole e = not-false (whole table) (passes (is_short table) (table_broken table) e).1

  pub count_passed : (asked : Counted) → table_refusal table ≡ 0 → count_answer table asked ≡ settled_count asked
  unfolding table_refusal count_answer count_number
  count_passed asked e =
      let p = passes (is_short table) (table_broken table) e in
      rw (p.0, p.1)

-- ---- Places

abbrev pub settled_place : Located → Located
settled_place asked = placed (read_order false false (no_place asked)) asked

pub settled_located : (m : Bool) (s : Span) → settled_place (located m s) ≡ located m s
settled_located true s = refl
settled_located false s = refl

placed_within : (first second : List ℕ) (n : ℕ) (asked : Located) → PartWithin first second asked → PartWithin first second (placed n asked)
placed_within first second zero asked w = w
placed_within first second (suc n) asked w = tt

stops_within : (first second : List ℕ) (a b : Bool) (asked : Located) → (read_order a b false ≡ 0 → PartWithin first second asked)
    → PartWithin first second (placed (read_order a b (no_place asked)) asked)
stops_within first second true b asked w = tt
stops_within first second false true asked w = tt
stops_within first second false false asked w = placed_within first second (read_order false false (no_place asked)) asked (w refl)

module _ (table first second : List ℕ) where
  pub lent_whole : lent_refusal table first second ≡ 0 → whole table ≡ true
  unfolding lent_refusal
  lent_whole e =
      not-false (whole table)
      (or_no_left (table_broken table) (texts_short (decode table) first second) (passes (is_short table) (lent_not_whole table first second) e).1)

  pub lent_texts : lent_refusal table first second ≡ 0 → texts_short (decode table) first second ≡ false
  unfolding lent_refusal
  lent_texts e =
      or_no_right (table_broken table) (texts_short (decode table) first second) (passes (is_short table) (lent_not_whole table first second) e).1

  pub place_passed : (asked : Located) → lent_refusal table first second ≡ 0
      → place_answer table first second asked ≡ settled_place asked
  unfolding lent_refusal place_answer place_number
  place_passed asked e =
      let p = passes (is_short table) (lent_not_whole table first second) e in
      rw (p.0, p.1)

  -- an answer lies in its text if what was asked for does, where there is neither 1 nor 12
  pub answer_within : (asked : Located) → (lent_refusal table first second ≡ 0 → PartWithin first second asked)
      → PartWithin first second (place_answer table first second asked)
  unfolding lent_refusal place_answer place_number
  answer_within asked w = stops_within first second (is_short table) (lent_not_whole table first second) asked w
