-- The places of the kinds are those of the rules' lists, and no name is left out of the groups. Assumes nothing.
use Prim.Native.Nat.{◌+◌}
use mathlib.Core.Path.{◌≡◌, refl}
use lib.ListN.{length}
use Rattle.model.specs.Names.{modifier_entries, type_entries, protocol_entries, synonym_entries, abbreviation_entries}
use Rattle.model.specs.Details.{keysym_entries, button_entries, motion_entries, mode_entries, request_entries}
use Rattle.names.specs.Places.{keysyms_at, buttons_at, motions_at, modes_at, requests_at, directives_at, none_at, any_at, modifier_names_at, types_at, name_total, modifier_total, type_total}
use Rattle.names.specs.Groups.{modifier_groups, modifier_table, type_groups, type_table}
use Rattle.names.specs.Table.{directive_entries}

-- each kind begins where the one before it ends
pub kinds :
    (keysyms_at ≡ 0)
    × (buttons_at ≡ keysyms_at + length keysym_entries)
    × (motions_at ≡ buttons_at + length button_entries)
    × (modes_at ≡ motions_at + length motion_entries)
    × (requests_at ≡ modes_at + length mode_entries)
    × (directives_at ≡ requests_at + length request_entries)
    × (none_at ≡ directives_at + length directive_entries)
    × (any_at ≡ none_at + 1)
    × (modifier_names_at ≡ any_at + 1)
    × (types_at ≡ modifier_names_at + modifier_total)
    × (name_total ≡ types_at + type_total)
unfolding keysym_entries button_entries motion_entries mode_entries request_entries directive_entries
kinds = (refl, refl, refl, refl, refl, refl, refl, refl, refl, refl, refl)

pub modifiers : (modifier_total ≡ length modifier_entries) × (modifier_total ≡ length modifier_table)
unfolding modifier_table modifier_groups modifier_entries
modifiers = (refl, refl)

pub types : (type_total ≡ length type_entries) × (type_total ≡ length type_table)
unfolding type_table type_groups type_entries protocol_entries synonym_entries abbreviation_entries
types = (refl, refl)
