-- Where the check stops, and what it has come to there.
use Prim.Native.Nat.{ℕ, ◌≤◌, ◌<◌}
use mathlib.Core.Path.{◌≡◌, refl, sym}
use mathlib.Core.List.{List}
use mathlib.Core.Bool.{Bool, true, false, cond, ◌&&◌, and-false, and_assoc}
use lib.Dec.{leb, eqb}
use lib.ListN.{length}
use borrow.Author.Tests.{lt-ltb, le-ltb}
use Rattle.tables.specs.Layout.{table_length, production_events_at, production_calls_at, call_parameters_at}
use Rattle.header_check.specs.Header.{header_ok}
use Rattle.table_check.specs.Checks.{sums_ok, entries_ok, checks}
use Rattle.header_check.specs.Unused.{unused_ok}
use Rattle.words.specs.Words.{word_at}
use Rattle.words.specs.Runs.{every, total}
use Rattle.event_check.specs.Events.{event_ok}
use Rattle.keysym_check.specs.Slots.{slots_ok}
use Rattle.span_check.specs.Spans.{call_ok, parameters_ok}
use Rattle.sequence_check.specs.Sequences.{production_ok, size_at, sequences_ok}

-- ---- The table

module _ (l : List ℕ) where
  pub checks_short : length l < table_length → checks l ≡ false
  unfolding checks
  checks_short h = rw (lt-ltb (length l) table_length h)

  pub checks_header : table_length ≤ length l → header_ok l ≡ false → checks l ≡ false
  unfolding checks
  checks_header h e = rw (le-ltb (length l) table_length h, e)

  pub checks_last : table_length ≤ length l → header_ok l ≡ true → checks l ≡ (unused_ok l && slots_ok l (word_at l 5) && (sums_ok l && entries_ok l))
  unfolding checks
  checks_last h e = rw (le-ltb (length l) table_length h, e) (go (sums_ok l) (unused_ok l && slots_ok l (word_at l 5)))
    where
      go : (s u : Bool) → cond s (u && entries_ok l) false ≡ (u && (s && entries_ok l))
      go true u = refl
      go false true = refl
      go false false = refl

-- ---- The entries

parts_in_order : (spans events calls productions sizes : Bool)
    → (spans && (events && calls && productions && sizes)) ≡ ((events && calls && true) && (spans && productions && sizes))
parts_in_order spans false calls productions sizes = and-false spans
parts_in_order spans true false productions sizes = and-false spans
parts_in_order spans true true productions sizes = sym (and_assoc spans productions sizes)

module _ (l : List ℕ) where
  pub entries_events : every (event_ok l) 0 (word_at l 5) ≡ false → (sums_ok l && entries_ok l) ≡ false
  unfolding entries_ok
  entries_events e = rw e (and-false (sums_ok l))

  pub entries_calls : every (event_ok l) 0 (word_at l 5) ≡ true → every (call_ok l) 0 (word_at l 6) ≡ false → (sums_ok l && entries_ok l) ≡ false
  unfolding entries_ok
  entries_calls e f = rw (e, f) (and-false (sums_ok l))

  pub entries_parameters : eqb (total (word_at l) call_parameters_at (word_at l 6)) (word_at l 7) ≡ false → (sums_ok l && entries_ok l) ≡ false
  unfolding sums_ok
  entries_parameters e =
      rw (e, and-false (eqb (total (word_at l) production_events_at (word_at l 4)) (word_at l 5) && eqb (total (word_at l) production_calls_at (word_at l 4)) (word_at l 6)))

  pub entries_last : every (event_ok l) 0 (word_at l 5) ≡ true → every (call_ok l) 0 (word_at l 6) ≡ true
      → eqb (total (word_at l) call_parameters_at (word_at l 6)) (word_at l 7) ≡ true
      → (every (parameters_ok l) 0 (word_at l 6) && sequences_ok l (word_at l 4) (word_at l 5) (word_at l 6)) ≡ (sums_ok l && entries_ok l)
  unfolding sums_ok entries_ok sequences_ok
  entries_last e f g =
      rw (e, f, g)
      (parts_in_order
      (every (parameters_ok l) 0 (word_at l 6))
      (eqb (total (word_at l) production_events_at (word_at l 4)) (word_at l 5))
      (eqb (total (word_at l) production_calls_at (word_at l 4)) (word_at l 6))
      (every (production_ok l) 0 (word_at l 4))
      (leb (total (size_at l) 0 (word_at l 5)) 256))
