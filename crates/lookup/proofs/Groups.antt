-- The table's rule, by computed tests over the whole table, and the lookup of each kind from it. Assumes nothing.
use Prim.Native.Nat.{ℕ, ◌+◌, ◌-◌, ◌≤◌, ◌<◌}
use native.Mathlib.Omega.{arith}
use mathlib.Core.Path.{◌≡◌, refl, sym, ◌∙◌}
use mathlib.Core.Bool.{Bool, true, false, false≢true}
use mathlib.Core.List.{List, [], ◌∷◌}
use Rattle.std.specs.Prelude.{None}
use lib.ListN.{length}
use borrow.Author.Tests.{eq-eqb}
use Rattle.words.specs.Runs.{run}
use Rattle.model.specs.Lists.{bytes, same}
use Rattle.model.specs.Bytes.{byte_at}
use Rattle.model.proofs.Sameness.{same_eq}
use Rattle.model.specs.Names.{Entry, first_meaning, modifier_named, type_named, modifier_entries, type_entries}
use Rattle.model.specs.Latin1.{latin1_entries}
use Rattle.model.specs.Details.{keysym_entries, keysym_names, button_entries, motion_entries, mode_entries, request_entries, name_or_number}
use Rattle.model.specs.Lines.{directive_of}
use Rattle.model.specs.declared.names.DetailRead.{DetailRead}
use Rattle.model.specs.declared.names.TypeName.{TypeName}
use Rattle.model.specs.declared.names.ModifierName.{ModifierName}
use Rattle.names.specs.Places.{keysyms_at, buttons_at, motions_at, modes_at, requests_at, directives_at, none_at, modifier_names_at, types_at, modifier_total, type_total}
use Rattle.names.specs.Groups.{begins, group_of, modifier_group, type_group}
use Rattle.names.specs.declared.groups.Group.{Group}
use Rattle.names.specs.Table.{name_row, all_names, other_names, directive_entries, detail_values}
use Rattle.keysyms.specs.Rule.{latin1_named}
use Rattle.lookup.specs.Find.{find_from, meaning_of, modifier_meaning, type_meaning, detail_meaning, directive_meaning, detail_found, found_or_number}
use Rattle.lookup.specs.Rule.{HoldsGroup, Grouped, TableHolds}
use Rattle.lookup.specs.declared.find.Found.{Found}
use Rattle.lookup.proofs.Lookup.{found_within, named_append, found_named}
use Rattle.lookup.proofs.Grouped.{modifiers_grouped, types_grouped}

pub table_holds : TableHolds
unfolding run name_row all_names other_names detail_values directive_entries keysym_entries button_entries motion_entries mode_entries request_entries
table_holds =
    record {
      modifiers = modifiers_grouped;
      types = types_grouped;
      keysyms = record { names = refl; meanings = refl };
      buttons = record { names = refl; meanings = refl };
      motions = record { names = refl; meanings = refl };
      modes = record { names = refl; meanings = refl };
      requests = record { names = refl; meanings = refl };
      directives = record { names = refl; meanings = refl };
      none = refl;
      any = refl;
    }

-- a word has the length and first byte of the name that it is
begins_same : (w n : List ℕ) → same w n ≡ true → begins (length w) (byte_at w 0) n ≡ true
begins_same w n e = rw (same_eq w n e, eq-eqb (length n) (length n) refl, eq-eqb (byte_at n 0) (byte_at n 0) refl)

-- a word's own group gives what the whole list gives
module _ {A : Type 0} (other : A) (w : List ℕ) where
  own_group : (es : List (Entry A)) → first_meaning (group_of es (length w) (byte_at w 0)) other w ≡ first_meaning es other w
  own_group [] = refl
  own_group (e ∷ es) = go (same w (bytes e.name)) refl (begins (length w) (byte_at w 0) (bytes e.name)) refl (own_group es)
    where
      go : (t : Bool) → same w (bytes e.name) ≡ t → (u : Bool) → begins (length w) (byte_at w 0) (bytes e.name) ≡ u
          → first_meaning (group_of es (length w) (byte_at w 0)) other w ≡ first_meaning es other w
          → first_meaning (group_of (e ∷ es) (length w) (byte_at w 0)) other w ≡ first_meaning (e ∷ es) other w
      go true p true q ih = rw (q, p)
      go true p false q ih = absurd (false≢true (sym q ∙ begins_same w (bytes e.name) p))
      go false p true q ih = rw (q, p) ih
      go false p false q ih = rw (q, p) ih

-- the search of a word in the group g of a kind, which the code has by the word's length and first byte
module _ {A : Type 0} (mean : ℕ → A) (other : A) (start total : ℕ) (group_for : ℕ → ℕ → Group) (es : List (Entry A)) (exact : Grouped mean start total group_for es) where
  module _ (w : List ℕ) (b : ℕ) (g : Group) (first : b ≡ byte_at w 0) (group : g ≡ group_for (length w) b) where
    own : HoldsGroup mean start total g (group_of es (length w) (byte_at w 0))
    own = rw (group, first) (exact (length w) (byte_at w 0))

    -- the places are those of the kind
    within : (g.from ≤ g.to) × (g.to ≤ total)
    within = (own.rising, own.within)

    -- what is found there is what the whole list gives
    found : meaning_of mean other (find_from (start + g.to - (start + g.from)) (start + g.from) w) ≡ first_meaning es other w
    found =
        let n : start + g.to - (start + g.from) ≡ g.to - g.from = omega arith in
        rw n (found_named mean other w _ _ _ own.holds ∙ own_group other w es)

    -- and lies in the kind
    place : (k : ℕ) → find_from (start + g.to - (start + g.from)) (start + g.from) w ≡ Found.At k → (start ≤ k) × (k < start + total)
    place k e =
        let f = found_within (start + g.to - (start + g.from)) (start + g.from) w k e in
        (omega (arith, f), omega (arith, f, own.within))

module _ (w : List ℕ) (b : ℕ) (g : Group) (first : b ≡ byte_at w 0) where
  module _ (group : g ≡ modifier_group (length w) b) where
    pub modifiers_within : (g.from ≤ g.to) × (g.to ≤ modifier_total)
    modifiers_within = within modifier_meaning ModifierName.Unknown _ _ _ modifier_entries modifiers_grouped w b g first group

    pub modifier_found : meaning_of modifier_meaning ModifierName.Unknown (find_from (modifier_names_at + g.to - (modifier_names_at + g.from)) (modifier_names_at + g.from) w) ≡ modifier_named w
    unfolding modifier_named
    modifier_found = found modifier_meaning ModifierName.Unknown _ _ _ modifier_entries modifiers_grouped w b g first group

    pub modifier_place : (k : ℕ) → find_from (modifier_names_at + g.to - (modifier_names_at + g.from)) (modifier_names_at + g.from) w ≡ Found.At k
        → (modifier_names_at ≤ k) × (k < modifier_names_at + modifier_total)
    modifier_place = place modifier_meaning ModifierName.Unknown _ _ _ modifier_entries modifiers_grouped w b g first group

  module _ (group : g ≡ type_group (length w) b) where
    pub types_within : (g.from ≤ g.to) × (g.to ≤ type_total)
    types_within = within type_meaning TypeName.Unknown _ _ _ type_entries types_grouped w b g first group

    pub type_found : meaning_of type_meaning TypeName.Unknown (find_from (types_at + g.to - (types_at + g.from)) (types_at + g.from) w) ≡ type_named w
    unfolding type_named
    type_found = found type_meaning TypeName.Unknown _ _ _ type_entries types_grouped w b g first group

    pub type_place_lem : (k : ℕ) → find_from (types_at + g.to - (types_at + g.from)) (types_at + g.from) w ≡ Found.At k
        → (types_at ≤ k) × (k < types_at + type_total)
    type_place_lem = place type_meaning TypeName.Unknown _ _ _ type_entries types_grouped w b g first group

module _ (w : List ℕ) where
  -- a keysym's name that is not found there is looked for among the header's
  pub keysym_found : meaning_of detail_meaning (latin1_named w) (find_from (buttons_at - keysyms_at) keysyms_at w) ≡ first_meaning keysym_names DetailRead.Unknown w
  unfolding keysym_names latin1_named
  keysym_found =
      found_named detail_meaning (latin1_named w) w _ _ keysym_entries table_holds.keysyms
      ∙ sym (named_append keysym_entries latin1_entries DetailRead.Unknown w)

  pub button_found : detail_found buttons_at motions_at w ≡ first_meaning button_entries DetailRead.Unknown w
  unfolding detail_found
  button_found = found_named detail_meaning DetailRead.Unknown w _ _ button_entries table_holds.buttons

  pub motion_found : found_or_number motions_at modes_at w ≡ name_or_number motion_entries w
  unfolding found_or_number detail_found name_or_number
  motion_found = rw (found_named detail_meaning DetailRead.Unknown w _ _ motion_entries table_holds.motions)

  pub mode_found : found_or_number modes_at requests_at w ≡ name_or_number mode_entries w
  unfolding found_or_number detail_found name_or_number
  mode_found = rw (found_named detail_meaning DetailRead.Unknown w _ _ mode_entries table_holds.modes)

  pub request_found : found_or_number requests_at directives_at w ≡ name_or_number request_entries w
  unfolding found_or_number detail_found name_or_number
  request_found = rw (found_named detail_meaning DetailRead.Unknown w _ _ request_entries table_holds.requests)

  pub directive_found : meaning_of directive_meaning None (find_from (none_at - directives_at) directives_at w) ≡ directive_of w
  unfolding directive_of directive_entries
  directive_found = found_named directive_meaning None w _ _ directive_entries table_holds.directives
