-- A modifier list: what the code keeps of it, and which list of the model that is.
use Rattle.std.specs.Prelude.{ℕ, ◌+◌, Bool, cond, not, ◌&&◌, ◌||◌, List, [], eqb, length}
use Rattle.model.specs.Lists.{bytes, any}
use Rattle.model.specs.Events.{Modifier, Modifiers, modifiers, ModifierList, listed, no_modifier, any_modifier, has_tilde, is_named, is_none_or_any}
use Rattle.list_scanner.specs.declared.lists.ModifiersRead.{ModifiersRead}
use Rattle.list_scanner.specs.declared.lists.ListKind.{ListKind}
use Rattle.list_scanner.specs.declared.lists.ListRead.{ListRead}

-- what is kept of modifiers that were read, after others of which this was kept already
abbrev pub summed_from : ℕ → Bool → Bool → Bool → Modifiers → ModifiersRead
summed_from count tilde none lone Modifiers.broken = ModifiersRead.Broken
summed_from count tilde none lone (modifiers ms end) =
    ModifiersRead.Modifiers
    (count + length ms)
    (tilde || any has_tilde ms)
    (none || any (is_named (bytes "None")) ms)
    (lone || any is_none_or_any ms)
    end

abbrev pub summed : Modifiers → ModifiersRead
summed Modifiers.broken = ModifiersRead.Broken
summed (modifiers ms end) =
    ModifiersRead.Modifiers
    (length ms)
    (any has_tilde ms)
    (any (is_named (bytes "None")) ms)
    (any is_none_or_any ms)
    end

-- "`None` and `Any` stand alone"
unfoldable pub list_end : Bool → Bool → ℕ → Bool → Bool → Bool → ℕ → ListRead
list_end bang colon count tilde none lone end =
    cond lone
    (cond (not (bang || colon || tilde) && eqb count 1)
    (ListRead.List (cond none ListKind.NoModifier ListKind.AnyModifier) end)
    ListRead.Broken)
    (ListRead.List ListKind.Listed end)

abbrev pub list_from : Bool → Bool → ModifiersRead → ListRead
list_from bang colon ModifiersRead.Broken = ListRead.Broken
list_from bang colon (ModifiersRead.Modifiers count tilde none lone end) = list_end bang colon count tilde none lone end

-- the modifiers that stand there, none where they are not in the grammar
abbrev pub modifiers_in : Modifiers → List Modifier
modifiers_in Modifiers.broken = []
modifiers_in (modifiers ms end) = ms

-- the model's list of a kind
abbrev pub list_of_kind : ListKind → Bool → Bool → List Modifier → ModifierList
list_of_kind ListKind.Listed bang colon ms = listed bang colon ms
list_of_kind ListKind.NoModifier bang colon ms = no_modifier
list_of_kind ListKind.AnyModifier bang colon ms = any_modifier
