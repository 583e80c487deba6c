-- The places of names: each kind's first. A kind ends where the next one starts.
-- Made by tools/name_table from the lists of crates/model/specs/Names.antt and Details.antt: change those and run it again.
use Rattle.std.specs.Prelude.{ℕ, List}
use Rattle.model.specs.Lists.{bytes}

abbrev pub keysyms_at : ℕ
keysyms_at = 0

abbrev pub buttons_at : ℕ
buttons_at = 25

abbrev pub motions_at : ℕ
motions_at = 30

abbrev pub modes_at : ℕ
modes_at = 32

abbrev pub requests_at : ℕ
requests_at = 36

abbrev pub directives_at : ℕ
directives_at = 39

abbrev pub none_at : ℕ
none_at = 42

abbrev pub any_at : ℕ
any_at = 43

abbrev pub modifier_names_at : ℕ
modifier_names_at = 44

abbrev pub types_at : ℕ
types_at = 68

-- that of `BtnMotion`, which the writer uses too
abbrev pub button_motion_at : ℕ
button_motion_at = 80

-- how many names there are
abbrev pub name_total : ℕ
name_total = 155

-- ---- The index of each kind: a line for each byte with which a name begins, a column for each length

abbrev pub modifier_total : ℕ
modifier_total = 24

abbrev pub modifier_firsts : List ℕ
modifier_firsts = bytes "ABCHLMSachlms"

abbrev pub shortest_modifier : ℕ
shortest_modifier = 1

abbrev pub longest_modifier : ℕ
longest_modifier = 7

abbrev pub type_total : ℕ
type_total = 87

abbrev pub type_firsts : List ℕ
type_firsts = bytes "BCDEFGKLMNPRSUV"

abbrev pub shortest_type : ℕ
shortest_type = 3

abbrev pub longest_type : ℕ
longest_type = 16
