-- Document 01, number 12: "table not whole: an entry outside its range, an unused word not 0, a span outside its text".
use Rattle.std.specs.Prelude.{ℕ, Bool, ◌&&◌, List, take}
use Rattle.model.specs.Lists.{same}
use Rattle.tables.specs.Layout.{table_length, encode}
use Rattle.tables.specs.Reading.{decode}
use Rattle.tables.specs.Fitting.{fitting}

-- the bytes, as many as a table has, are those of the table that they read as, and it is within limits and ranges
unfoldable pub whole : List ℕ → Bool
whole l = fitting (decode l) && same (take table_length l) (encode (decode l))
