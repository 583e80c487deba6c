-- The place of a keysym's name in the table of names.
use Rattle.std.specs.Prelude.{ℕ, Option, None, Some}
use Rattle.model.specs.Lists.{earliest}
use Rattle.model.specs.Details.{keysym_entries}
use Rattle.model.specs.Canonical.{is_value}
use Rattle.names.specs.Places.{buttons_at}
use Rattle.names.specs.Table.{meanings_in}

abbrev pub place_or_past : Option ℕ → ℕ
place_or_past (Some i) = i
place_or_past None = buttons_at

-- that of the first name of document 01's list that stands for a value; past these names where none does. The list has the first
-- places of the table.
unfoldable pub keysym_place : ℕ → ℕ
keysym_place v = place_or_past (earliest (is_value v) 0 (meanings_in keysym_entries))
