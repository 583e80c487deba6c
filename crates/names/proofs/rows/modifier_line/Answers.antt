-- `names::rows::modifier_line` meets its contract. Assumes nothing.
-- Made by tools/name_table from the lists of crates/model/specs/Names.antt and Details.antt: change those and run it again.
use mathlib.Core.Path.{sym, ap}
use borrow.Author.Tests.{ne_eqb}
use Rattle.words.specs.Words.{zeros}
use Rattle.model.specs.Names.{modifier_entries}
use Rattle.names.specs.Groups.{modifier_groups, modifier_index, modifier_line}
use Rattle.names.proofs.rows.modifier_line.Goals as goal

pub returns-in-65 : goal.returns-in-65
unfolding zeros modifier_line modifier_index modifier_groups modifier_entries
returns-in-65 c = ap modifier_line (sym c.in-65.is)

pub returns-in-66 : goal.returns-in-66
unfolding zeros modifier_line modifier_index modifier_groups modifier_entries
returns-in-66 c = ap modifier_line (sym c.in-66.is)

pub returns-in-67 : goal.returns-in-67
unfolding zeros modifier_line modifier_index modifier_groups modifier_entries
returns-in-67 c = ap modifier_line (sym c.in-67.is)

pub returns-in-72 : goal.returns-in-72
unfolding zeros modifier_line modifier_index modifier_groups modifier_entries
returns-in-72 c = ap modifier_line (sym c.in-72.is)

pub returns-in-76 : goal.returns-in-76
unfolding zeros modifier_line modifier_index modifier_groups modifier_entries
returns-in-76 c = ap modifier_line (sym c.in-76.is)

pub returns-in-77 : goal.returns-in-77
unfolding zeros modifier_line modifier_index modifier_groups modifier_entries
returns-in-77 c = ap modifier_line (sym c.in-77.is)

pub returns-in-83 : goal.returns-in-83
unfolding zeros modifier_line modifier_index modifier_groups modifier_entries
returns-in-83 c = ap modifier_line (sym c.in-83.is)

pub returns-in-97 : goal.returns-in-97
unfolding zeros modifier_line modifier_index modifier_groups modifier_entries
returns-in-97 c = ap modifier_line (sym c.in-97.is)

pub returns-in-99 : goal.returns-in-99
unfolding zeros modifier_line modifier_index modifier_groups modifier_entries
returns-in-99 c = ap modifier_line (sym c.in-99.is)

pub returns-in-104 : goal.returns-in-104
unfolding zeros modifier_line modifier_index modifier_groups modifier_entries
returns-in-104 c = ap modifier_line (sym c.in-104.is)

pub returns-in-108 : goal.returns-in-108
unfolding zeros modifier_line modifier_index modifier_groups modifier_entries
returns-in-108 c = ap modifier_line (sym c.in-108.is)

pub returns-in-109 : goal.returns-in-109
unfolding zeros modifier_line modifier_index modifier_groups modifier_entries
returns-in-109 c = ap modifier_line (sym c.in-109.is)

pub returns-in-115 : goal.returns-in-115
unfolding zeros modifier_line modifier_index modifier_groups modifier_entries
returns-in-115 c = ap modifier_line (sym c.in-115.is)

pub returns-in_default : goal.returns-in_default
unfolding zeros modifier_line modifier_index modifier_groups modifier_entries
returns-in_default c = rw (
  ne_eqb _ _ c.in_default.in_default-own.rest.0.0.0.0.0.0.0.0.0.0.0.0.1,
  ne_eqb _ _ c.in_default.in_default-own.rest.0.0.0.0.0.0.0.0.0.0.0.1,
  ne_eqb _ _ c.in_default.in_default-own.rest.0.0.0.0.0.0.0.0.0.0.1,
  ne_eqb _ _ c.in_default.in_default-own.rest.0.0.0.0.0.0.0.0.0.1,
  ne_eqb _ _ c.in_default.in_default-own.rest.0.0.0.0.0.0.0.0.1,
  ne_eqb _ _ c.in_default.in_default-own.rest.0.0.0.0.0.0.0.1,
  ne_eqb _ _ c.in_default.in_default-own.rest.0.0.0.0.0.0.1,
  ne_eqb _ _ c.in_default.in_default-own.rest.0.0.0.0.0.1,
  ne_eqb _ _ c.in_default.in_default-own.rest.0.0.0.0.1,
  ne_eqb _ _ c.in_default.in_default-own.rest.0.0.0.1,
  ne_eqb _ _ c.in_default.in_default-own.rest.0.0.1,
  ne_eqb _ _ c.in_default.in_default-own.rest.0.1,
  ne_eqb _ _ c.in_default.in_default-own.rest.1,
)
