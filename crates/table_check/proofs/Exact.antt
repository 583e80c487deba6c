-- The checks that the code makes come to `whole`.
use Prim.Native.Nat.{ℕ, ◌<◌}
use mathlib.Core.Path.{◌≡◌}
use mathlib.Core.List.{List}
use mathlib.Core.Bool.{true}
use lib.ListN.{get_or, drop}
use Rattle.words.proofs.Bools.{same_test}
use Rattle.tables.specs.Layout.{table_length}
use Rattle.tables.specs.Reading.{decode}
use Rattle.tables.specs.Whole.{whole}
use Rattle.tables.specs.Laws.{HoldsTable}
use Rattle.table_check.specs.Checks.{checks}
use Rattle.tables.proofs.Theorems.{whole_holds, holds_split, holds_whole}
use Rattle.table_check.proofs.Checked.{checks_encode}
use Rattle.table_check.proofs.CheckFacts.{CheckFacts, check_facts}
use Rattle.table_check.proofs.Decoded.{bytes_same, table_fits}

whole_checks : (l : List ℕ) → whole l ≡ true → checks l ≡ true
whole_checks l e =
    let h : HoldsTable (decode l) l = whole_holds l e in
    rw (holds_split (decode l) l h) (checks_encode (decode l) h.fits (drop table_length l))

module _ (l : List ℕ) (bytes : (i : ℕ) → get_or l i 0 < 256) where
  pub checks_whole : checks l ≡ true → whole l ≡ true
  checks_whole e =
      holds_whole (decode l) l
      (record { fits = table_fits l bytes (check_facts l e); bytes = bytes_same l bytes (check_facts l e) })

  pub checks_exact : checks l ≡ whole l
  checks_exact = same_test (checks l) (whole l) checks_whole (whole_checks l)

-- what a whole table says of its words
pub whole_facts : (l : List ℕ) → whole l ≡ true → CheckFacts l
whole_facts l e = check_facts l (whole_checks l e)
