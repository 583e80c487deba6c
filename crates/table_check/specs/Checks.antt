-- The tests by which a table is found whole, as the code makes them. proofs/Exact shows that they come to `whole`.
use Rattle.std.specs.Prelude.{ℕ, Bool, false, cond, ◌&&◌, List, leb, ltb, eqb, length}
use Rattle.words.specs.Words.{word_at}
use Rattle.words.specs.Runs.{every, total}
use Rattle.tables.specs.Layout.{production_events_at, production_calls_at, call_parameters_at, table_length}
use Rattle.header_check.specs.Header.{header_ok}
use Rattle.header_check.specs.Unused.{unused_ok}
use Rattle.event_check.specs.Events.{event_ok}
use Rattle.keysym_check.specs.Slots.{slots_ok}
use Rattle.span_check.specs.Spans.{call_ok, parameters_ok}
use Rattle.sequence_check.specs.Sequences.{size_at, production_ok}

unfoldable pub sums_ok : List ℕ → Bool
sums_ok l =
    eqb (total (word_at l) production_events_at (word_at l 4)) (word_at l 5)
    && eqb (total (word_at l) production_calls_at (word_at l 4)) (word_at l 6)
    && eqb (total (word_at l) call_parameters_at (word_at l 6)) (word_at l 7)

unfoldable pub entries_ok : List ℕ → Bool
entries_ok l =
    every (event_ok l) 0 (word_at l 5)
    && every (call_ok l) 0 (word_at l 6)
    && every (parameters_ok l) 0 (word_at l 6)
    && every (production_ok l) 0 (word_at l 4)
    && leb (total (size_at l) 0 (word_at l 5)) 256

unfoldable pub checks : List ℕ → Bool
checks l =
    cond (ltb (length l) table_length) false
    (cond (header_ok l) (cond (sums_ok l) (unused_ok l && slots_ok l (word_at l 5) && entries_ok l) false) false)
