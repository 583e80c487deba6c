-- Demand 3, from a text on: what `compile` leaves in a lent buffer is what the matcher is then called on.
use Rattle.std.specs.Prelude.{ℕ, ◌≤◌, ◌≡◌, List, length}
use Rattle.model.specs.Setting.{Setting}
use Rattle.model.specs.Tables.{Table}
use Rattle.model.specs.Compiling.{accepted, refused, compiled}
use Rattle.model.specs.Demand.{MatchCall, Demand3}
use Rattle.tables.specs.Layout.{table_length}
use Rattle.compiler.specs.Compile.{compiled_bytes}
use Rattle.claims.specs.Matching.{matcher_on}

-- "0: accepted": a text that is refused gets another number, so that the number tells which it is
abbrev pub RefusedNumbered : Type 0
RefusedNumbered = (text : List ℕ) (n place : ℕ) → compiled text ≡ refused n place → n ≡ 0 → ⊥

-- for every text that is accepted and every buffer that is long enough, the calls of `match_event` on what the buffer then
-- holds meet demand 3 for the table that the rules give the text
abbrev pub Demand3Compiled : Type 0
Demand3Compiled =
    (text buffer : List ℕ) (t : Table) → table_length ≤ length buffer → compiled text ≡ accepted t
    → (setting : Setting) (cs : List MatchCall) → Demand3 (matcher_on (compiled_bytes text buffer) setting) t setting cs
