-- Demand 3 of the tables that merging gives: what `merge` leaves in a lent buffer is what the matcher is then called on.
use Rattle.std.specs.Prelude.{ℕ, ◌≡◌, List}
use Rattle.model.specs.Setting.{Setting}
use Rattle.model.specs.Merging.{merged_table}
use Rattle.model.specs.Demand.{MatchCall, Demand3}
use Rattle.model.specs.declared.answers.Merged.{Merged}
use Rattle.tables.specs.Reading.{decode}
use Rattle.merger.specs.Merge.{merge_answer, merged_bytes}
use Rattle.claims.specs.Matching.{matcher_on}

-- for any bytes that the merger accepts, hand-made ones too, the calls of `match_event` on what the buffer then holds meet
-- demand 3 for the rules' merge of what the two read as
abbrev pub Demand3Merged : Type 0
Demand3Merged =
    (old new buffer : List ℕ) → merge_answer old new buffer ≡ Merged.Accepted → (setting : Setting) (cs : List MatchCall)
    → Demand3 (matcher_on (merged_bytes old new buffer) setting) (merged_table (decode old) (decode new)) setting cs
