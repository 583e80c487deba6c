-- What holds of a buffer after compiling.
use Rattle.std.specs.Prelude.{ℕ, ◌≤◌, ◌≡◌, true, List, [], ◌++◌, length, drop}
use Rattle.words.specs.Words.{zeros}
use Rattle.model.specs.Tables.{Table}
use Rattle.model.specs.Compiling.{accepted, compiled}
use Rattle.tables.specs.Layout.{table_length}
use Rattle.tables.specs.Reading.{decode}
use Rattle.tables.specs.Whole.{whole}
use Rattle.compiler.specs.Compile.{compiled_bytes}

-- an accepted text gives a whole table, which reads as the table of the rules
abbrev pub AcceptedIsWhole : Type 0
AcceptedIsWhole =
    (text out : List ℕ) (t : Table) → table_length ≤ length out → compiled text ≡ accepted t
    → (whole (compiled_bytes text out) ≡ true) × (decode (compiled_bytes text out) ≡ t)

-- the text of no bytes gives the table of zeros
abbrev pub EmptyIsZero : Type 0
EmptyIsZero = (out : List ℕ) → table_length ≤ length out → compiled_bytes [] out ≡ zeros table_length ++ drop table_length out
