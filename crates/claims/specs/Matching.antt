-- Demand 3, about the matcher that runs: its calls are made on the bytes of a table, and its states are the values that it
-- hands back. `Demand3` and what it speaks of, the steps over every heard event, contexts and selections, are in
-- crates/model/specs/Demand and Selection; `match_answer` is what the contract of `match_event` says, for all input.
use Rattle.std.specs.Prelude.{ℕ, ◌≡◌, true, List, ◌++◌}
use Rattle.model.specs.Setting.{Setting}
use Rattle.model.specs.Tables.{Table}
use Rattle.model.specs.Demand.{MatchCall, Matcher, Demand3}
use Rattle.tables.specs.Layout.{encode}
use Rattle.tables.specs.Reading.{decode}
use Rattle.tables.specs.Fitting.{fitting}
use Rattle.tables.specs.Whole.{whole}
use Rattle.states.specs.declared.State.{State}
use Rattle.states.specs.State.{fresh_state}
use Rattle.matcher.specs.Match.{match_answer}

-- calls of `match_event` on these bytes of a table under one setting, from `State::fresh()`
abbrev pub matcher_on : (table : List ℕ) → Setting → Matcher State
matcher_on table setting =
    record {
      fresh = fresh_state;
      answer = λ s c. (match_answer table setting s c.bytes c.order).matched;
      next = λ s c. (match_answer table setting s c.bytes c.order).state;
    }

-- for all bytes that are a whole table, whoever made them, one setting and every list of calls from the fresh state: the table
-- is what the bytes read as. Every table that an accepted call gave is whole, so this is demand 3 of every accepted table.
abbrev pub Demand3OnWhole : Type 0
Demand3OnWhole =
    (table : List ℕ) → whole table ≡ true → (setting : Setting) (cs : List MatchCall)
    → Demand3 (matcher_on table setting) (decode table) setting cs

-- the same of a table of the model within limits and ranges, lent as its bytes with any bytes after them
abbrev pub Demand3Encoded : Type 0
Demand3Encoded =
    (t : Table) → fitting t ≡ true → (after : List ℕ) (setting : Setting) (cs : List MatchCall)
    → Demand3 (matcher_on (encode t ++ after) setting) t setting cs
