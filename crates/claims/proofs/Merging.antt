-- Demand 3 of the tables that merging gives, from demand 3 of all bytes that are a whole table.
use Rattle.model.specs.Merging.{merged_table}
use Rattle.tables.specs.Reading.{decode}
use Rattle.merger.specs.Merge.{merged_bytes}
use Rattle.merger.proofs.Theorems.{accepted_whole, accepted_decode}
use Rattle.claims.specs.Merging.{Demand3Merged}
use Rattle.claims.proofs.Matching.{demand3_read}

pub demand3_merged : Demand3Merged
demand3_merged old new buffer e =
    demand3_read (merged_bytes old new buffer) (accepted_whole old new buffer e) (merged_table (decode old) (decode new))
    (accepted_decode old new buffer e)
