-- Demand 3 of the tables that compiling gives, from demand 3 of all bytes that are a whole table.
use Prim.Native.Nat.{ℕ, ◌≤◌}
use mathlib.Core.Path.{◌≡◌}
use mathlib.Core.Bool.{true}
use mathlib.Core.List.{List, ◌++◌}
use lib.ListN.{length, drop}
use borrow.Author.Tests.{le-ltb}
use Rattle.model.specs.Tables.{Table}
use Rattle.model.specs.Compiling.{accepted, compiled}
use Rattle.tables.specs.Layout.{table_length, encode}
use Rattle.tables.specs.Reading.{decode}
use Rattle.tables.specs.Whole.{whole}
use Rattle.tables.proofs.Theorems.{whole_encode, decode_encode}
use Rattle.tables.proofs.CompiledFits.{compiled_fits}
use Rattle.compiler.specs.Compile.{image_of, compiled_bytes}
use Rattle.claims.specs.Compiling.{Demand3Compiled}
use Rattle.claims.proofs.Matching.{demand3_read}

module _ (text buffer : List ℕ) (t : Table) (h : table_length ≤ length buffer) (e : compiled text ≡ accepted t) where
  bytes_held : compiled_bytes text buffer ≡ encode t ++ drop table_length buffer
  unfolding image_of compiled_bytes
  bytes_held = rw (le-ltb (length buffer) table_length h, e)

  -- what the compiler leaves is whole
  pub compiled_whole : whole (compiled_bytes text buffer) ≡ true
  compiled_whole = rw bytes_held (whole_encode t (compiled_fits text t e) (drop table_length buffer))

  -- and reads as the table that the rules give the text
  pub compiled_decode : decode (compiled_bytes text buffer) ≡ t
  compiled_decode = rw bytes_held (decode_encode t (compiled_fits text t e) (drop table_length buffer))

pub demand3_compiled : Demand3Compiled
demand3_compiled text buffer t h e =
    demand3_read (compiled_bytes text buffer) (compiled_whole text buffer t h e) t (compiled_decode text buffer t h e)
