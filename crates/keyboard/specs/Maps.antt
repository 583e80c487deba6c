-- The maps as they are lent, in one run of bytes: the keyboard map's 496 numbers of four bytes each, the least significant first,
-- and then the modifier map's entries.
use Rattle.std.specs.Prelude.{ℕ, ◌+◌, ◌*◌, cond, List, [], leb, length, get_or, drop}
use Rattle.words.specs.Runs.{run}
use Rattle.model.specs.Limits.{map_length}
use Rattle.model.specs.Setting.{Setting}

-- how many bytes a keyboard map has
abbrev pub map_bytes : ℕ
map_bytes = 1984

-- the number that four bytes hold from a place on
unfoldable pub number_from : List ℕ → ℕ → ℕ
number_from l at = get_or l at 0 + 256 * get_or l (at + 1) 0 + 65536 * get_or l (at + 2) 0 + 16777216 * get_or l (at + 3) 0

-- the numbers of the keyboard map that lent bytes begin with; of fewer bytes none, which are not 496 numbers
unfoldable pub map_numbers : List ℕ → List ℕ
map_numbers l = cond (leb map_bytes (length l)) (run (λ k. number_from l (4 * k)) 0 map_length) []

-- the entries of the modifier map, which follow
abbrev pub modifier_entries_in : List ℕ → List ℕ
modifier_entries_in l = drop map_bytes l

-- the setting of a call that lends these bytes of maps, and the multi-click time
abbrev pub lent_setting : (bytes : List ℕ) → (time : ℕ) → Setting
lent_setting bytes time = record { keyboard = map_numbers bytes; modifiers = modifier_entries_in bytes; time = time }
