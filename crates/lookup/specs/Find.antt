-- Looking a word up in a range of the table of names.
use Rattle.std.specs.Prelude.{ℕ, zero, suc, ◌-◌, cond, List, get_or, Option, None, Some}
use Rattle.model.specs.Lists.{same}
use Rattle.model.specs.Bytes.{byte_at, is_digit}
use Rattle.model.specs.Details.{small_number}
use Rattle.model.specs.declared.events.Directive.{Directive}
use Rattle.model.specs.declared.names.DetailRead.{DetailRead}
use Rattle.model.specs.declared.names.ModifierName.{ModifierName}
use Rattle.model.specs.declared.names.TypeName.{TypeName}
use Rattle.names.specs.Places.{directives_at, modifier_names_at, types_at}
use Rattle.names.specs.Table.{name_row, modifier_row, type_row, detail_values, directive_row}
use Rattle.lookup.specs.declared.find.Found.{Found}
use Rattle.lookup.specs.declared.FirstLine.{FirstLine}

-- the place of the first of n names, from the place i on, that is the word
unfoldable pub find_from : ℕ → ℕ → List ℕ → Found
find_from zero i w = Found.Nothing
find_from (suc n) i w = cond (same w (name_row i)) (Found.At i) (find_from n (suc i) w)

module _ {A : Type 0} where
  -- what a place stands for, `other` where nothing was found
  abbrev pub meaning_of : (ℕ → A) → A → Found → A
  meaning_of mean other (Found.At i) = mean i
  meaning_of mean other Found.Nothing = other

-- what a place of the whole table stands for, in each kind; the details come first
abbrev pub modifier_meaning : ℕ → ModifierName
modifier_meaning i = modifier_row (i - modifier_names_at)

abbrev pub type_meaning : ℕ → TypeName
type_meaning i = TypeName.Known (type_row (i - types_at))

abbrev pub detail_meaning : ℕ → DetailRead
detail_meaning i = DetailRead.Value (get_or detail_values i 0)

abbrev pub directive_meaning : ℕ → Option Directive
directive_meaning i = Some (directive_row (i - directives_at))

-- a detail's name in a range
unfoldable pub detail_found : ℕ → ℕ → List ℕ → DetailRead
detail_found from to w = meaning_of detail_meaning DetailRead.Unknown (find_from (to - from) from w)

-- a small number or a name in a range
unfoldable pub found_or_number : ℕ → ℕ → List ℕ → DetailRead
found_or_number from to w = cond (is_digit (byte_at w 0)) (small_number w) (detail_found from to w)

-- the directive that a first line gives
abbrev pub directive_given : FirstLine → Option Directive
directive_given (FirstLine.Found d) = Some d
directive_given FirstLine.Absent = None
