-- A detail's value by its name in the table of names.
use Rattle.std.specs.Prelude.{ℕ, ◌+◌, ◌-◌, cond, List, ltb, leb}
use Rattle.model.specs.Canonical.{decimal}
use Rattle.names.specs.Table.{name_row}

-- a value from `low` on by its name, the first of `count` at a place; any other in decimal
unfoldable pub place_or_number : (v low count place : ℕ) → List ℕ
place_or_number v low count place =
    cond (ltb v low) (decimal v) (cond (leb (low + count) v) (decimal v) (name_row (place + (v - low))))
