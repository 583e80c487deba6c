-- Demand 3, about `tt_match`: its calls are made on the bytes of a table under the setting of lent maps and a time, its states
-- are lent bytes, and each call returns one number. `Demand3` and what it speaks of are in crates/model/specs/Demand and
-- Selection; `matched_on`, `matched_word`, `state_left` and `fresh_bytes` are what the contracts of `tt_match` and `tt_fresh` say,
-- for all input.
use Rattle.std.specs.Prelude.{ℕ, ◌-◌, ◌/◌, ◌%◌, ◌≤◌, ◌≡◌, true, cond, List, [], ◌∷◌, map, eqb, length, Option, None, Some}
use Rattle.model.specs.Numbers.{matched_number, matched_selection}
use Rattle.model.specs.Setting.{Setting}
use Rattle.model.specs.Tables.{Table}
use Rattle.model.specs.Demand.{MatchCall, Matcher, named_from, Demand3}
use Rattle.tables.specs.Reading.{decode}
use Rattle.tables.specs.Whole.{whole}
use Rattle.capi.specs.State.{state_length}
use Rattle.capi.specs.Match.{fresh_bytes, matched_word, matched_on, state_left}

-- ---- What a call returns

-- document 01's number, and the production that is selected
abbrev pub word_number : ℕ → ℕ
word_number word = word % 256

abbrev pub word_selection : ℕ → Option ℕ
word_selection word = cond (eqb (word / 256) 0) None (Some (word / 256 - 1))

-- ---- Calls of `tt_match` on one table under one setting, from what `tt_fresh` leaves in lent bytes

module _ (table : List ℕ) (setting : Setting) where
  abbrev pub matcher_on_states : List ℕ → Matcher (List ℕ)
  matcher_on_states lent =
      record {
        fresh = fresh_bytes lent;
        answer = λ state c. matched_on table setting state c.bytes c.order;
        next = λ state c. state_left table setting state c.bytes c.order;
      }

  -- what the calls return, one after the other
  unfoldable pub words_from : List ℕ → List MatchCall → List ℕ
  words_from state [] = []
  words_from state (c ∷ cs) =
      matched_word (matched_on table setting state c.bytes c.order)
      ∷ words_from (state_left table setting state c.bytes c.order) cs

-- about one list of calls
pub record OnStates (table : List ℕ) (setting : Setting) (lent : List ℕ) (t : Table) (cs : List MatchCall) : Type 0 where
  -- the answers that are returned as numbers, and the bytes between the calls, meet demand 3
  pub demand : Demand3 (matcher_on_states table setting lent) t setting cs
  -- and the numbers that are returned tell the number and the selection that the rules name, at every call
  pub numbers :
      map word_number (words_from table setting (fresh_bytes lent) cs)
      ≡ map matched_number (named_from t setting [] cs)
  pub selections :
      map word_selection (words_from table setting (fresh_bytes lent) cs)
      ≡ map matched_selection (named_from t setting [] cs)

-- every setting, any lent bytes that are long enough for a state, and every list of calls
abbrev pub EveryList : (table : List ℕ) → Table → Type 0
EveryList table t =
    (setting : Setting) (lent : List ℕ) → state_length ≤ length lent → (cs : List MatchCall)
    → OnStates table setting lent t cs

-- for all bytes that are a whole table, whoever made them: the table is what they read as
abbrev pub Demand3OnStates : Type 0
Demand3OnStates = (table : List ℕ) → whole table ≡ true → EveryList table (decode table)
