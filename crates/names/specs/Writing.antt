-- The places of the names that the writer uses: "canonical type names", and the long names of modifiers.
use Rattle.std.specs.Prelude.{ℕ, suc, cond, List, [], ◌∷◌}
use Rattle.model.specs.Lists.{same}
use Rattle.model.specs.Names.{name_of, protocol_entries}
use Rattle.model.specs.Canonical.{bit_name, long_name, is_code_of}
use Rattle.names.specs.Groups.{modifier_table, type_table}
use Rattle.names.specs.Places.{modifier_names_at, types_at}
use Rattle.names.specs.Table.{names_in}

-- the place of a name among names, of which the first has the place i
abbrev pub place_from : ℕ → List ℕ → List (List ℕ) → ℕ
place_from i name [] = i
place_from i name (n ∷ ns) = cond (same name n) i (place_from (suc i) name ns)

-- of the protocol's name of a code, 2..34
unfoldable pub type_place : ℕ → ℕ
type_place code = place_from types_at (name_of (is_code_of code) [] protocol_entries) (names_in type_table)

-- of the long name of a modifier bit, 0..12
unfoldable pub bit_place : ℕ → ℕ
bit_place k = place_from modifier_names_at (bit_name k) (names_in modifier_table)

-- of the long name of Meta, Alt, Hyper or Super, 0..3
unfoldable pub long_place : ℕ → ℕ
long_place n = place_from modifier_names_at (long_name n) (names_in modifier_table)
