-- The tests of a table's productions, word by word, as the code makes them.
use Rattle.std.specs.Prelude.{ℕ, ◌+◌, ◌-◌, Bool, cond, ◌&&◌, List, leb, eqb}
use Rattle.words.specs.Words.{word_at}
use Rattle.words.specs.Runs.{every, total}
use Rattle.counts.specs.Elements.{element_count}
use Rattle.tables.specs.Layout.{production_events_at, production_calls_at, codes_at, counts_at}

-- how many events event i stands for
unfoldable pub size_at : List ℕ → ℕ → ℕ
size_at l i = element_count (word_at l (codes_at + i)) (word_at l (counts_at + i))

unfoldable pub production_ok : List ℕ → ℕ → Bool
production_ok l p =
    leb 1 (word_at l (production_events_at + p))
    && leb (word_at l (production_calls_at + p)) 8
    && leb (total (size_at l) (total (word_at l) production_events_at p) (word_at l (production_events_at + p))) 24

-- a production of at most so many events
unfoldable pub plain_ok : List ℕ → ℕ → ℕ → Bool
plain_ok l most p =
    leb 1 (word_at l (production_events_at + p))
    && leb (word_at l (production_calls_at + p)) 8
    && leb (word_at l (production_events_at + p)) most

-- how many events a production may have in any table, or in one with no count above 3: one event stands for at most 18
-- events, and with such a count for at most 6
unfoldable pub least_events : Bool → ℕ
least_events few = cond few 4 1

-- how many events a production may have, whichever they are, in a table whose events stand for at most this many more than
-- they are
unfoldable pub most_events : (extra least : ℕ) → ℕ
most_events extra least = cond (leb (extra + least) 24) (24 - extra) least

-- n productions that have these numbers of events and calls, and stand for no more events than they may
unfoldable pub sequences_ok : List ℕ → (n events calls : ℕ) → Bool
sequences_ok l n events calls =
    eqb (total (word_at l) production_events_at n) events
    && eqb (total (word_at l) production_calls_at n) calls
    && every (production_ok l) 0 n
    && leb (total (size_at l) 0 events) 256
