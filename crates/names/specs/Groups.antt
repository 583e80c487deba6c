-- R-3: "hold the modifier and event type names grouped by length and first byte, with a constant index".
use Rattle.std.specs.Prelude.{ℕ, zero, suc, ◌+◌, ◌-◌, Bool, cond, ◌&&◌, List, [], ◌∷◌, ◌++◌, map, eqb, length, get_or}
use Rattle.words.specs.Words.{zeros}
use Rattle.model.specs.Lists.{bytes}
use Rattle.model.specs.Bytes.{byte_at, in_range}
use Rattle.model.specs.Names.{Entry, modifier_entries, type_entries}
use Rattle.model.specs.declared.names.TypeName.{TypeName}
use Rattle.model.specs.declared.names.ModifierName.{ModifierName}
use Rattle.names.specs.Places.{modifier_firsts, shortest_modifier, longest_modifier, type_firsts, shortest_type, longest_type}
use Rattle.names.specs.declared.groups.Group.{Group}

-- a word has this length and this first byte
abbrev pub begins : ℕ → ℕ → List ℕ → Bool
begins len b word = eqb (length word) len && eqb (byte_at word 0) b

module _ {A : Type 0} where
  -- the entries whose names have a length and a first byte, in the order of the list; the rest is named, so that it is computed once
  abbrev pub group_of : List (Entry A) → ℕ → ℕ → List (Entry A)
  group_of [] len b = []
  group_of (e ∷ es) len b =
      let rest = group_of es len b in
      cond (begins len b (bytes e.name)) (e ∷ rest) rest

  -- the groups of a first byte, for n lengths from len on
  abbrev pub groups_from : List (Entry A) → ℕ → ℕ → ℕ → List (List (Entry A))
  groups_from es b len zero = []
  groups_from es b len (suc n) = group_of es len b ∷ groups_from es b (suc len) n

  -- group after group
  abbrev pub group_after_group : List (List (Entry A)) → List (Entry A)
  group_after_group [] = []
  group_after_group (g ∷ gs) = g ++ group_after_group gs

  -- the table: the groups of one first byte after those of another
  abbrev pub line_after_line : List (List (List (Entry A))) → List (Entry A)
  line_after_line [] = []
  line_after_line (gs ∷ more) = group_after_group gs ++ line_after_line more

  -- a line of the index: where each group of a first byte begins, the first one at `start`, and where the last one ends
  abbrev pub group_starts : ℕ → List (List (Entry A)) → List ℕ
  group_starts start [] = start ∷ []
  group_starts start (g ∷ gs) = start ∷ group_starts (start + length g) gs

  -- the index: a line for each first byte
  abbrev pub index_from : ℕ → List (List (List (Entry A))) → List (List ℕ)
  index_from start [] = []
  index_from start (gs ∷ more) = group_starts start gs ∷ index_from (start + length (group_after_group gs)) more

-- the line of a byte: that of the first byte that it is, or `other`
abbrev pub line_of : List ℕ → List (List ℕ) → List ℕ → ℕ → List ℕ
line_of [] lines other b = other
line_of (f ∷ fs) [] other b = other
line_of (f ∷ fs) (line ∷ lines) other b = cond (eqb b f) line (line_of fs lines other b)

-- no place
abbrev pub no_group : Group
no_group = record { from = 0; to = 0 }

-- the group that a line gives for a length
abbrev pub group_in : List ℕ → ℕ → ℕ → ℕ → Group
group_in line shortest longest len =
    cond (in_range shortest len longest)
    (record { from = get_or line (len - shortest) 0; to = get_or line (len - shortest + 1) 0 })
    no_group

-- how long a line is: a column for each length, and one for the end
abbrev pub line_length : ℕ → ℕ → ℕ
line_length shortest longest = longest + 2 - shortest

-- ---- Modifiers

-- by first byte, then by length
unfoldable pub modifier_groups : List (List (List (Entry ModifierName)))
modifier_groups =
    map (λ b. groups_from modifier_entries b shortest_modifier (longest_modifier + 1 - shortest_modifier)) modifier_firsts

-- the modifiers in the order of their groups
unfoldable pub modifier_table : List (Entry ModifierName)
modifier_table = line_after_line modifier_groups

-- the index, by places among the modifiers
unfoldable pub modifier_index : List (List ℕ)
modifier_index = index_from 0 modifier_groups

-- a byte with which no modifier begins has a line of empty groups
unfoldable pub modifier_line : ℕ → List ℕ
modifier_line b = line_of modifier_firsts modifier_index (zeros (line_length shortest_modifier longest_modifier)) b

unfoldable pub modifier_group : ℕ → ℕ → Group
modifier_group len b = group_in (modifier_line b) shortest_modifier longest_modifier len

-- ---- Event types

unfoldable pub type_groups : List (List (List (Entry TypeName)))
type_groups = map (λ b. groups_from type_entries b shortest_type (longest_type + 1 - shortest_type)) type_firsts

-- the event types in the order of their groups
unfoldable pub type_table : List (Entry TypeName)
type_table = line_after_line type_groups

-- the index, by places among the types
unfoldable pub type_index : List (List ℕ)
type_index = index_from 0 type_groups

unfoldable pub type_line : ℕ → List ℕ
type_line b = line_of type_firsts type_index (zeros (line_length shortest_type longest_type)) b

unfoldable pub type_group : ℕ → ℕ → Group
type_group len b = group_in (type_line b) shortest_type longest_type len
