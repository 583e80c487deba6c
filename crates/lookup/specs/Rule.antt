-- The table's rule: it holds exactly the names and the meanings of the rules' entries.
use Rattle.std.specs.Prelude.{ℕ, ◌+◌, ◌-◌, ◌≤◌, ◌≡◌, List}
use Rattle.words.specs.Runs.{run}
use Rattle.model.specs.Lists.{bytes}
use Rattle.model.specs.Names.{Entry, modifier_entries, type_entries}
use Rattle.model.specs.Details.{keysym_entries, button_entries, motion_entries, mode_entries, request_entries}
use Rattle.names.specs.Places.{keysyms_at, buttons_at, motions_at, modes_at, requests_at, directives_at, none_at, any_at, modifier_names_at, types_at, modifier_total, type_total}
use Rattle.names.specs.Groups.{group_of, modifier_group, type_group}
use Rattle.names.specs.Table.{name_row, names_in, meanings_in, directive_entries}
use Rattle.names.specs.declared.groups.Group.{Group}
use Rattle.lookup.specs.Find.{modifier_meaning, type_meaning, detail_meaning, directive_meaning}

-- the n places from i on hold the names of these entries, and stand for what these stand for
pub record Holds {A : Type 0} (mean : ℕ → A) (n i : ℕ) (es : List (Entry A)) : Type 0 where
  pub names : run name_row i n ≡ names_in es
  pub meanings : run mean i n ≡ meanings_in es

-- the places of a group, of a kind of `total` names from the place `start` on, hold these entries
pub record HoldsGroup {A : Type 0} (mean : ℕ → A) (start total : ℕ) (g : Group) (es : List (Entry A)) : Type 0 where
  pub rising : g.from ≤ g.to
  pub within : g.to ≤ total
  pub holds : Holds mean (g.to - g.from) (start + g.from) es

-- R-3: "each group holds exactly the names of its length and first byte": whatever the length and the byte, the places that the
-- index gives have every name of the rules' list with that length and first byte, and no other
abbrev pub Grouped : {A : Type 0} (mean : ℕ → A) (start total : ℕ) (group : ℕ → ℕ → Group) (es : List (Entry A)) → Type 0
Grouped mean start total group es = (len b : ℕ) → HoldsGroup mean start total (group len b) (group_of es len b)

pub record TableHolds : Type 0 where
  pub modifiers : Grouped modifier_meaning modifier_names_at modifier_total modifier_group modifier_entries
  pub types : Grouped type_meaning types_at type_total type_group type_entries
  pub keysyms : Holds detail_meaning (buttons_at - keysyms_at) keysyms_at keysym_entries
  pub buttons : Holds detail_meaning (motions_at - buttons_at) buttons_at button_entries
  pub motions : Holds detail_meaning (modes_at - motions_at) motions_at motion_entries
  pub modes : Holds detail_meaning (requests_at - modes_at) modes_at mode_entries
  pub requests : Holds detail_meaning (directives_at - requests_at) requests_at request_entries
  pub directives : Holds directive_meaning (none_at - directives_at) directives_at directive_entries
  pub none : name_row none_at ≡ bytes "None"
  pub any : name_row any_at ≡ bytes "Any"
