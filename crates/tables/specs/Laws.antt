-- What `encode`, `decode` and `whole` are to each other: the statements that docs/LAYOUT.md names. proofs/Theorems and
-- proofs/AcceptedFits prove them.
use Rattle.std.specs.Prelude.{ℕ, ◌≡◌, true, List, ◌++◌, take}
use Rattle.words.specs.Words.{zeros}
use Rattle.model.specs.Tables.{Table, empty_table}
use Rattle.model.specs.Demand.{Accepted}
use Rattle.tables.specs.Layout.{table_length, encode}
use Rattle.tables.specs.Reading.{decode}
use Rattle.tables.specs.Fitting.{fitting}
use Rattle.tables.specs.Whole.{whole}

-- ---- Bytes and tables

-- `decode_encode`: a table's bytes read as the table; bytes past them play no part
abbrev pub DecodeEncode : Type 0
DecodeEncode = (t : Table) → fitting t ≡ true → (rest : List ℕ) → decode (encode t ++ rest) ≡ t

-- bytes begin with those of a table that fits
pub record HoldsTable (t : Table) (l : List ℕ) : Type 0 where
  pub fits : fitting t ≡ true
  pub bytes : take table_length l ≡ encode t

-- `whole_holds`, `holds_whole`: bytes are whole exactly if they begin with the bytes of a table that fits
abbrev pub WholeHolds : Type 0
WholeHolds = (l : List ℕ) → whole l ≡ true → HoldsTable (decode l) l

abbrev pub HoldsWhole : Type 0
HoldsWhole = (t : Table) (l : List ℕ) → HoldsTable t l → whole l ≡ true

-- `holds_decode`: and that table is the one that they read as
abbrev pub HoldsDecode : Type 0
HoldsDecode = (t : Table) (l : List ℕ) → HoldsTable t l → decode l ≡ t

-- `encode_empty`: "After any other the compiler and merger leave the output table all zero, an empty table."
abbrev pub EncodeEmpty : Type 0
EncodeEmpty = encode empty_table ≡ zeros table_length

-- ---- Accepted tables

-- `accepted_fits`: every table that compiling or merging gives fits the layout
abbrev pub AcceptedFits : Table → Type 0
AcceptedFits t = Accepted t → fitting t ≡ true

-- `accepted_whole`, `accepted_decode`: so its bytes are whole, and read as it
abbrev pub AcceptedBytesWhole : Table → Type 0
AcceptedBytesWhole t = Accepted t → (rest : List ℕ) → whole (encode t ++ rest) ≡ true

abbrev pub AcceptedBytesDecode : Table → Type 0
AcceptedBytesDecode t = Accepted t → (rest : List ℕ) → decode (encode t ++ rest) ≡ t
