-- The grouped tables in the order of their places, and their indexes: computed once, since grouping costs more than reading a place
-- does. Assumes nothing.
use Prim.Native.Nat.{ℕ}
use mathlib.Core.Path.{◌≡◌, refl, sym, ap, ◌∙◌}
use mathlib.Core.List.{List, [], ◌++◌, map}
use lib.ListN.{get_or}
use Rattle.model.specs.Names.{Entry, modifier, plain, modifier_entries, type_entries, protocol_entries, synonym_entries, abbreviation_entries}
use Rattle.model.specs.declared.names.TypeName.{TypeName}
use Rattle.model.specs.declared.names.ModifierName.{ModifierName}
use Rattle.names.specs.Groups.{modifier_groups, modifier_table, modifier_index, type_groups, type_table, type_index}
use Rattle.names.specs.Table.{names_in, meanings_in, other_names, all_names, name_row, spelling_of, numbers_of, type_numbers}
use Rattle.names.proofs.InOrder.{modifier_order, modifier_lines, type_order, type_lines}

unfoldable pub modifiers_in_order : List (Entry ModifierName)
modifiers_in_order = map (λ (k : ℕ). get_or modifier_entries k (modifier "" ModifierName.Unknown)) modifier_order

unfoldable pub types_in_order : List (Entry TypeName)
types_in_order = map (λ (k : ℕ). get_or type_entries k (plain "" 0)) type_order

pub modifier_order_lem : modifier_table ≡ modifiers_in_order
unfolding modifier_table modifier_groups modifiers_in_order modifier_entries
modifier_order_lem = refl

pub type_order_lem : type_table ≡ types_in_order
unfolding type_table type_groups types_in_order type_entries protocol_entries synonym_entries abbreviation_entries
type_order_lem = refl

pub modifier_lines_lem : modifier_index ≡ modifier_lines
unfolding modifier_index modifier_groups modifier_entries
modifier_lines_lem = refl

pub type_lines_lem : type_index ≡ type_lines
unfolding type_index type_groups type_entries protocol_entries synonym_entries abbreviation_entries
type_lines_lem = refl

abbrev pub names_in_order : List (List ℕ)
names_in_order = other_names ++ (names_in modifiers_in_order ++ names_in types_in_order)

pub name_order : all_names ≡ names_in_order
unfolding all_names
name_order = rw (modifier_order_lem, type_order_lem)

-- ---- The arm of a place k in a `match` over places

pub spelling_at : {i k : ℕ} → i ≡ k → spelling_of (get_or names_in_order k []) ≡ spelling_of (name_row i)
unfolding name_row
spelling_at {i} {k} e =
    ap (λ (l : List (List ℕ)). spelling_of (get_or l k [])) (sym name_order) ∙ ap (λ (j : ℕ). spelling_of (name_row j)) (sym e)

pub numbers_at : {i k : ℕ} → i ≡ k → numbers_of (get_or (meanings_in types_in_order) k TypeName.Unknown) ≡ type_numbers i
unfolding type_numbers
numbers_at {i} {k} e =
    ap (λ (es : List (Entry TypeName)). numbers_of (get_or (meanings_in es) k TypeName.Unknown)) (sym type_order_lem) ∙ ap type_numbers (sym e)
