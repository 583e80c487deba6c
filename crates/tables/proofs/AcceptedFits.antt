-- Every accepted table fits the layout, whether compiling or merging gave it (specs/Laws).
use Rattle.model.specs.Tables.{Table}
use Rattle.model.specs.Demand.{by_compiling, by_merging}
use Rattle.tables.specs.Laws.{AcceptedFits, AcceptedBytesWhole, AcceptedBytesDecode}
use Rattle.tables.proofs.Theorems.{whole_encode, decode_encode}
use Rattle.tables.proofs.CompiledFits.{compiled_fits}
use Rattle.tables.proofs.MergedFits.{merged_fits}

pub accepted_fits : {t : Table} → AcceptedFits t
accepted_fits {t} (by_compiling text e) = compiled_fits text t e
accepted_fits (by_merging {old} {new} a b m n w) = merged_fits old new (accepted_fits a) (accepted_fits b) m n w

pub accepted_whole : {t : Table} → AcceptedBytesWhole t
accepted_whole {t} a rest = whole_encode t (accepted_fits a) rest

pub accepted_decode : {t : Table} → AcceptedBytesDecode t
accepted_decode {t} a rest = decode_encode t (accepted_fits a) rest
