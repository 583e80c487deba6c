-- `names::rows::type_line` meets its contract. Assumes nothing.
-- Made by tools/name_table from the lists of crates/model/specs/Names.antt and Details.antt: change those and run it again.
use mathlib.Core.Path.{sym, ap}
use borrow.Author.Tests.{ne_eqb}
use Rattle.words.specs.Words.{zeros}
use Rattle.model.specs.Names.{type_entries, protocol_entries, synonym_entries, abbreviation_entries}
use Rattle.names.specs.Groups.{type_groups, type_index, type_line}
use Rattle.names.proofs.rows.type_line.Goals as goal

pub returns-in-66 : goal.returns-in-66
unfolding zeros type_line type_index type_groups type_entries protocol_entries synonym_entries abbreviation_entries
returns-in-66 c = ap type_line (sym c.in-66.is)

pub returns-in-67 : goal.returns-in-67
unfolding zeros type_line type_index type_groups type_entries protocol_entries synonym_entries abbreviation_entries
returns-in-67 c = ap type_line (sym c.in-67.is)

pub returns-in-68 : goal.returns-in-68
unfolding zeros type_line type_index type_groups type_entries protocol_entries synonym_entries abbreviation_entries
returns-in-68 c = ap type_line (sym c.in-68.is)

pub returns-in-69 : goal.returns-in-69
unfolding zeros type_line type_index type_groups type_entries protocol_entries synonym_entries abbreviation_entries
returns-in-69 c = ap type_line (sym c.in-69.is)

pub returns-in-70 : goal.returns-in-70
unfolding zeros type_line type_index type_groups type_entries protocol_entries synonym_entries abbreviation_entries
returns-in-70 c = ap type_line (sym c.in-70.is)

pub returns-in-71 : goal.returns-in-71
unfolding zeros type_line type_index type_groups type_entries protocol_entries synonym_entries abbreviation_entries
returns-in-71 c = ap type_line (sym c.in-71.is)

pub returns-in-75 : goal.returns-in-75
unfolding zeros type_line type_index type_groups type_entries protocol_entries synonym_entries abbreviation_entries
returns-in-75 c = ap type_line (sym c.in-75.is)

pub returns-in-76 : goal.returns-in-76
unfolding zeros type_line type_index type_groups type_entries protocol_entries synonym_entries abbreviation_entries
returns-in-76 c = ap type_line (sym c.in-76.is)

pub returns-in-77 : goal.returns-in-77
unfolding zeros type_line type_index type_groups type_entries protocol_entries synonym_entries abbreviation_entries
returns-in-77 c = ap type_line (sym c.in-77.is)

pub returns-in-78 : goal.returns-in-78
unfolding zeros type_line type_index type_groups type_entries protocol_entries synonym_entries abbreviation_entries
returns-in-78 c = ap type_line (sym c.in-78.is)

pub returns-in-80 : goal.returns-in-80
unfolding zeros type_line type_index type_groups type_entries protocol_entries synonym_entries abbreviation_entries
returns-in-80 c = ap type_line (sym c.in-80.is)

pub returns-in-82 : goal.returns-in-82
unfolding zeros type_line type_index type_groups type_entries protocol_entries synonym_entries abbreviation_entries
returns-in-82 c = ap type_line (sym c.in-82.is)

pub returns-in-83 : goal.returns-in-83
unfolding zeros type_line type_index type_groups type_entries protocol_entries synonym_entries abbreviation_entries
returns-in-83 c = ap type_line (sym c.in-83.is)

pub returns-in-85 : goal.returns-in-85
unfolding zeros type_line type_index type_groups type_entries protocol_entries synonym_entries abbreviation_entries
returns-in-85 c = ap type_line (sym c.in-85.is)

pub returns-in-86 : goal.returns-in-86
unfolding zeros type_line type_index type_groups type_entries protocol_entries synonym_entries abbreviation_entries
returns-in-86 c = ap type_line (sym c.in-86.is)

pub returns-in_default : goal.returns-in_default
unfolding zeros type_line type_index type_groups type_entries protocol_entries synonym_entries abbreviation_entries
returns-in_default c = rw (
  ne_eqb _ _ c.in_default.in_default-own.rest.0.0.0.0.0.0.0.0.0.0.0.0.0.0.1,
  ne_eqb _ _ c.in_default.in_default-own.rest.0.0.0.0.0.0.0.0.0.0.0.0.0.1,
  ne_eqb _ _ c.in_default.in_default-own.rest.0.0.0.0.0.0.0.0.0.0.0.0.1,
  ne_eqb _ _ c.in_default.in_default-own.rest.0.0.0.0.0.0.0.0.0.0.0.1,
  ne_eqb _ _ c.in_default.in_default-own.rest.0.0.0.0.0.0.0.0.0.0.1,
  ne_eqb _ _ c.in_default.in_default-own.rest.0.0.0.0.0.0.0.0.0.1,
  ne_eqb _ _ c.in_default.in_default-own.rest.0.0.0.0.0.0.0.0.1,
  ne_eqb _ _ c.in_default.in_default-own.rest.0.0.0.0.0.0.0.1,
  ne_eqb _ _ c.in_default.in_default-own.rest.0.0.0.0.0.0.1,
  ne_eqb _ _ c.in_default.in_default-own.rest.0.0.0.0.0.1,
  ne_eqb _ _ c.in_default.in_default-own.rest.0.0.0.0.1,
  ne_eqb _ _ c.in_default.in_default-own.rest.0.0.0.1,
  ne_eqb _ _ c.in_default.in_default-own.rest.0.0.1,
  ne_eqb _ _ c.in_default.in_default-own.rest.0.1,
  ne_eqb _ _ c.in_default.in_default-own.rest.1,
)
