-- A quick test of the events of a table. One that begins a production along which a stretch reads as a prefix passes it
-- (proofs/FilterLaws), so a production whose first event does not pass need not be walked.
--
-- One event, and the productions that it leaves: the key with the pair (0x61, 0x41) is pressed, no modifier is down, and the
-- stretch is this event alone. What it asks of the table (`sought_of`): code 2, state 0, and both its keysyms folded, which
-- is without the bit in which cases differ, are 0x41. Of a table of four productions and five events
--
--     event   stands in               code / 2   low word, folded   seems   bits asked set   may begin
--     0       Ctrl<KeyPress>a : ..    1          0x41               yes     Ctrl             no
--     1       <KeyPress>b,            1          0x42               no                       no
--     2           <KeyPress>A : ..    1          0x41               yes     none             yes
--     3       <ButtonPress> : ..      2                             no                       no
--     4       <KeyPress> : ..         1          0, for any         yes     none             yes
--
-- events 2 and 4 may begin a production, so one that begins before event 2 is passed over, and so is one that begins at event
-- 3, which does not seem. No production begins at event 2. The last one alone is walked, and it is selected.
use Rattle.std.specs.Prelude.{ℕ, ◌+◌, ◌/◌, ◌≤◌, ◌<◌, ◌≡◌, Bool, true, cond, not, ◌&&◌, ◌||◌, List, eqb, leb, None}
use Rattle.std.specs.Int.Bits.{bit_and}
use Rattle.words.specs.Words.{word_at}
use Rattle.words.specs.Runs.{run}
use Rattle.keyboard.specs.Folds.{fold, folded}
use Rattle.model.specs.Setting.{Setting, first_keysym, second_keysym}
use Rattle.model.specs.Counts.{expanded}
use Rattle.model.specs.declared.events.Event.{Event}
use Rattle.tables.specs.Layout.{codes_at, counts_at, sets_at, lows_at}
use Rattle.tables.specs.Reading.{event_total, event_entry}
use Rattle.follow.specs.declared.Followed.{Followed}
use Rattle.follow.specs.Follow.{walked}
use Rattle.filter.specs.declared.Sought.{Sought}

-- the second keysym of a pair; where it is 0 the first stands for both
abbrev pub other : ℕ → ℕ → ℕ
other a b = cond (eqb b 0) a b

-- what an event asks of the table's: its code, its state, and its detail or, of a key, the two keysyms that the map has,
-- folded
unfoldable pub sought_of : List ℕ → Event → Sought
sought_of map x =
    record {
      code = x.code;
      state = x.state;
      first = folded (cond (leb x.code 3) (first_keysym map x.detail) x.detail);
      second = folded (cond (leb x.code 3) (other (first_keysym map x.detail) (second_keysym map x.detail)) x.detail);
    }

-- the codes are the same but for the last bit, as those of a press and its release are, 2 and 3 or 4 and 5: a counted release
-- begins with a press
unfoldable pub code_seems : ℕ → Sought → Bool
code_seems own s = eqb (own / 2) (s.code / 2)

-- where no detail is asked for, the word is 0
unfoldable pub detail_seems : ℕ → Sought → Bool
detail_seems low s = eqb low 0 || eqb (fold low) s.first || eqb (fold low) s.second

-- event i of a table may be met first by what is sought
unfoldable pub seems : List ℕ → ℕ → Sought → Bool
seems l i s = code_seems (word_at l (codes_at + i)) s && detail_seems (word_at l (lows_at + i)) s

-- the state has the bits that event i asks set
unfoldable pub suits : List ℕ → ℕ → Sought → Bool
suits l i s = eqb (bit_and s.state (word_at l (sets_at + i))) (word_at l (sets_at + i))

-- it may begin a production for a stretch of one event
unfoldable pub may_begin : List ℕ → Sought → ℕ → Bool
may_begin l one i = seems l i one && suits l i one

-- or for a longer one, whose second event meets the same event, if that is counted, or else the next
unfoldable pub pairs : List ℕ → (one two : Sought) → ℕ → Bool
pairs l one two i = seems l i one && (not (eqb (word_at l (counts_at + i)) 1) || seems l (i + 1) two)

-- it may begin one for any stretch, by the code alone
unfoldable pub code_begins : List ℕ → Sought → ℕ → Bool
code_begins l one i = code_seems (word_at l (codes_at + i)) one

-- of the first n events those that pass a test stand from `low` on and before `high`
abbrev pub PassersWithin : (ℕ → Bool) → (n low high : ℕ) → Type 0
PassersWithin f n low high = (i : ℕ) → i < n → f i ≡ true → (low ≤ i) × (i < high)

-- no production that begins with an event before `low`, or from `high` on, has the stretch as a prefix, whatever is set beside
-- the keyboard map
pub record Outside (l map : List ℕ) (xs : List Event) (low high : ℕ) : Type 0 where
  pub before : (setting : Setting) → setting.keyboard ≡ map → (first n : ℕ) → 1 ≤ n → first + n ≤ event_total l → first < low
      → walked setting None None (expanded (run (event_entry l) first n)) xs ≡ Followed.No
  pub after : (setting : Setting) → setting.keyboard ≡ map → (first n : ℕ) → 1 ≤ n → first + n ≤ event_total l → high ≤ first
      → walked setting None None (expanded (run (event_entry l) first n)) xs ≡ Followed.No
