-- Neither 1 nor 12 is given for a whole table and texts that are long enough.
use Prim.Native.Nat.{◌≤◌, ℕ}
use mathlib.Core.Path.{◌≡◌}
use mathlib.Core.List.{List}
use mathlib.Core.Bool.{true, false}
use lib.ListN.{length}
use borrow.Author.Tests.{le-ltb}
use Rattle.tables.specs.Layout.{table_length}
use Rattle.tables.specs.Reading.{decode}
use Rattle.tables.specs.Whole.{whole}
use Rattle.calls.specs.Refusals.{texts_short, table_refusal, lent_refusal}

module _ (table : List ℕ) where
  pub table_good : table_length ≤ length table → whole table ≡ true → 0 ≡ table_refusal table
  unfolding table_refusal
  table_good h w = rw (le-ltb (length table) table_length h, w)

  pub lent_good_texts : (first second : List ℕ) → table_length ≤ length table → whole table ≡ true → texts_short (decode table) first second ≡ false
      → 0 ≡ lent_refusal table first second
  unfolding lent_refusal
  lent_good_texts first second h w e = rw (le-ltb (length table) table_length h, w, e)
