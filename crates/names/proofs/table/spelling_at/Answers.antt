-- `names::table::spelling_at` meets its contract: at each place stands the name that the rules' entries compute to. Assumes nothing.
-- Made by tools/name_table from the lists of crates/model/specs/Names.antt and Details.antt: change those and run it again.
use native.Mathlib.Omega.{arith}
use Rattle.model.specs.Names.{modifier_entries, type_entries, protocol_entries, synonym_entries, abbreviation_entries}
use Rattle.model.specs.Details.{keysym_entries, button_entries, motion_entries, mode_entries, request_entries}
use Rattle.names.specs.Table.{other_names, spelling_of, directive_entries}
use Rattle.names.proofs.Rest.{past}
use Rattle.names.proofs.Order.{modifiers_in_order, types_in_order, spelling_at}
use Rattle.names.proofs.table.spelling_at.Goals as goal

pub returns-in-0 : goal.returns-in-0
unfolding spelling_of other_names modifiers_in_order types_in_order directive_entries modifier_entries type_entries protocol_entries synonym_entries abbreviation_entries keysym_entries button_entries motion_entries mode_entries request_entries
returns-in-0 c = spelling_at c.in-0.is

pub returns-in-1 : goal.returns-in-1
unfolding spelling_of other_names modifiers_in_order types_in_order directive_entries modifier_entries type_entries protocol_entries synonym_entries abbreviation_entries keysym_entries button_entries motion_entries mode_entries request_entries
returns-in-1 c = spelling_at c.in-1.is

pub returns-in-2 : goal.returns-in-2
unfolding spelling_of other_names modifiers_in_order types_in_order directive_entries modifier_entries type_entries protocol_entries synonym_entries abbreviation_entries keysym_entries button_entries motion_entries mode_entries request_entries
returns-in-2 c = spelling_at c.in-2.is

pub returns-in-3 : goal.returns-in-3
unfolding spelling_of other_names modifiers_in_order types_in_order directive_entries modifier_entries type_entries protocol_entries synonym_entries abbreviation_entries keysym_entries button_entries motion_entries mode_entries request_entries
returns-in-3 c = spelling_at c.in-3.is

pub returns-in-4 : goal.returns-in-4
unfolding spelling_of other_names modifiers_in_order types_in_order directive_entries modifier_entries type_entries protocol_entries synonym_entries abbreviation_entries keysym_entries button_entries motion_entries mode_entries request_entries
returns-in-4 c = spelling_at c.in-4.is

pub returns-in-5 : goal.returns-in-5
unfolding spelling_of other_names modifiers_in_order types_in_order directive_entries modifier_entries type_entries protocol_entries synonym_entries abbreviation_entries keysym_entries button_entries motion_entries mode_entries request_entries
returns-in-5 c = spelling_at c.in-5.is

pub returns-in-6 : goal.returns-in-6
unfolding spelling_of other_names modifiers_in_order types_in_order directive_entries modifier_entries type_entries protocol_entries synonym_entries abbreviation_entries keysym_entries button_entries motion_entries mode_entries request_entries
returns-in-6 c = spelling_at c.in-6.is

pub returns-in-7 : goal.returns-in-7
unfolding spelling_of other_names modifiers_in_order types_in_order directive_entries modifier_entries type_entries protocol_entries synonym_entries abbreviation_entries keysym_entries button_entries motion_entries mode_entries request_entries
returns-in-7 c = spelling_at c.in-7.is

pub returns-in-8 : goal.returns-in-8
unfolding spelling_of other_names modifiers_in_order types_in_order directive_entries modifier_entries type_entries protocol_entries synonym_entries abbreviation_entries keysym_entries button_entries motion_entries mode_entries request_entries
returns-in-8 c = spelling_at c.in-8.is

pub returns-in-9 : goal.returns-in-9
unfolding spelling_of other_names modifiers_in_order types_in_order directive_entries modifier_entries type_entries protocol_entries synonym_entries abbreviation_entries keysym_entries button_entries motion_entries mode_entries request_entries
returns-in-9 c = spelling_at c.in-9.is

pub returns-in-10 : goal.returns-in-10
unfolding spelling_of other_names modifiers_in_order types_in_order directive_entries modifier_entries type_entries protocol_entries synonym_entries abbreviation_entries keysym_entries button_entries motion_entries mode_entries request_entries
returns-in-10 c = spelling_at c.in-10.is

pub returns-in-11 : goal.returns-in-11
unfolding spelling_of other_names modifiers_in_order types_in_order directive_entries modifier_entries type_entries protocol_entries synonym_entries abbreviation_entries keysym_entries button_entries motion_entries mode_entries request_entries
returns-in-11 c = spelling_at c.in-11.is

pub returns-in-12 : goal.returns-in-12
unfolding spelling_of other_names modifiers_in_order types_in_order directive_entries modifier_entries type_entries protocol_entries synonym_entries abbreviation_entries keysym_entries button_entries motion_entries mode_entries request_entries
returns-in-12 c = spelling_at c.in-12.is

pub returns-in-13 : goal.returns-in-13
unfolding spelling_of other_names modifiers_in_order types_in_order directive_entries modifier_entries type_entries protocol_entries synonym_entries abbreviation_entries keysym_entries button_entries motion_entries mode_entries request_entries
returns-in-13 c = spelling_at c.in-13.is

pub returns-in-14 : goal.returns-in-14
unfolding spelling_of other_names modifiers_in_order types_in_order directive_entries modifier_entries type_entries protocol_entries synonym_entries abbreviation_entries keysym_entries button_entries motion_entries mode_entries request_entries
returns-in-14 c = spelling_at c.in-14.is

pub returns-in-15 : goal.returns-in-15
unfolding spelling_of other_names modifiers_in_order types_in_order directive_entries modifier_entries type_entries protocol_entries synonym_entries abbreviation_entries keysym_entries button_entries motion_entries mode_entries request_entries
returns-in-15 c = spelling_at c.in-15.is

pub returns-in-16 : goal.returns-in-16
unfolding spelling_of other_names modifiers_in_order types_in_order directive_entries modifier_entries type_entries protocol_entries synonym_entries abbreviation_entries keysym_entries button_entries motion_entries mode_entries request_entries
returns-in-16 c = spelling_at c.in-16.is

pub returns-in-17 : goal.returns-in-17
unfolding spelling_of other_names modifiers_in_order types_in_order directive_entries modifier_entries type_entries protocol_entries synonym_entries abbreviation_entries keysym_entries button_entries motion_entries mode_entries request_entries
returns-in-17 c = spelling_at c.in-17.is

pub returns-in-18 : goal.returns-in-18
unfolding spelling_of other_names modifiers_in_order types_in_order directive_entries modifier_entries type_entries protocol_entries synonym_entries abbreviation_entries keysym_entries button_entries motion_entries mode_entries request_entries
returns-in-18 c = spelling_at c.in-18.is

pub returns-in-19 : goal.returns-in-19
unfolding spelling_of other_names modifiers_in_order types_in_order directive_entries modifier_entries type_entries protocol_entries synonym_entries abbreviation_entries keysym_entries button_entries motion_entries mode_entries request_entries
returns-in-19 c = spelling_at c.in-19.is

pub returns-in-20 : goal.returns-in-20
unfolding spelling_of other_names modifiers_in_order types_in_order directive_entries modifier_entries type_entries protocol_entries synonym_entries abbreviation_entries keysym_entries button_entries motion_entries mode_entries request_entries
returns-in-20 c = spelling_at c.in-20.is

pub returns-in-21 : goal.returns-in-21
unfolding spelling_of other_names modifiers_in_order types_in_order directive_entries modifier_entries type_entries protocol_entries synonym_entries abbreviation_entries keysym_entries button_entries motion_entries mode_entries request_entries
returns-in-21 c = spelling_at c.in-21.is

pub returns-in-22 : goal.returns-in-22
unfolding spelling_of other_names modifiers_in_order types_in_order directive_entries modifier_entries type_entries protocol_entries synonym_entries abbreviation_entries keysym_entries button_entries motion_entries mode_entries request_entries
returns-in-22 c = spelling_at c.in-22.is

pub returns-in-23 : goal.returns-in-23
unfolding spelling_of other_names modifiers_in_order types_in_order directive_entries modifier_entries type_entries protocol_entries synonym_entries abbreviation_entries keysym_entries button_entries motion_entries mode_entries request_entries
returns-in-23 c = spelling_at c.in-23.is

pub returns-in-24 : goal.returns-in-24
unfolding spelling_of other_names modifiers_in_order types_in_order directive_entries modifier_entries type_entries protocol_entries synonym_entries abbreviation_entries keysym_entries button_entries motion_entries mode_entries request_entries
returns-in-24 c = spelling_at c.in-24.is

pub returns-in-25 : goal.returns-in-25
unfolding spelling_of other_names modifiers_in_order types_in_order directive_entries modifier_entries type_entries protocol_entries synonym_entries abbreviation_entries keysym_entries button_entries motion_entries mode_entries request_entries
returns-in-25 c = spelling_at c.in-25.is

pub returns-in-26 : goal.returns-in-26
unfolding spelling_of other_names modifiers_in_order types_in_order directive_entries modifier_entries type_entries protocol_entries synonym_entries abbreviation_entries keysym_entries button_entries motion_entries mode_entries request_entries
returns-in-26 c = spelling_at c.in-26.is

pub returns-in-27 : goal.returns-in-27
unfolding spelling_of other_names modifiers_in_order types_in_order directive_entries modifier_entries type_entries protocol_entries synonym_entries abbreviation_entries keysym_entries button_entries motion_entries mode_entries request_entries
returns-in-27 c = spelling_at c.in-27.is

pub returns-in-28 : goal.returns-in-28
unfolding spelling_of other_names modifiers_in_order types_in_order directive_entries modifier_entries type_entries protocol_entries synonym_entries abbreviation_entries keysym_entries button_entries motion_entries mode_entries request_entries
returns-in-28 c = spelling_at c.in-28.is

pub returns-in-29 : goal.returns-in-29
unfolding spelling_of other_names modifiers_in_order types_in_order directive_entries modifier_entries type_entries protocol_entries synonym_entries abbreviation_entries keysym_entries button_entries motion_entries mode_entries request_entries
returns-in-29 c = spelling_at c.in-29.is

pub returns-in-30 : goal.returns-in-30
unfolding spelling_of other_names modifiers_in_order types_in_order directive_entries modifier_entries type_entries protocol_entries synonym_entries abbreviation_entries keysym_entries button_entries motion_entries mode_entries request_entries
returns-in-30 c = spelling_at c.in-30.is

pub returns-in-31 : goal.returns-in-31
unfolding spelling_of other_names modifiers_in_order types_in_order directive_entries modifier_entries type_entries protocol_entries synonym_entries abbreviation_entries keysym_entries button_entries motion_entries mode_entries request_entries
returns-in-31 c = spelling_at c.in-31.is

pub returns-in-32 : goal.returns-in-32
unfolding spelling_of other_names modifiers_in_order types_in_order directive_entries modifier_entries type_entries protocol_entries synonym_entries abbreviation_entries keysym_entries button_entries motion_entries mode_entries request_entries
returns-in-32 c = spelling_at c.in-32.is

pub returns-in-33 : goal.returns-in-33
unfolding spelling_of other_names modifiers_in_order types_in_order directive_entries modifier_entries type_entries protocol_entries synonym_entries abbreviation_entries keysym_entries button_entries motion_entries mode_entries request_entries
returns-in-33 c = spelling_at c.in-33.is

pub returns-in-34 : goal.returns-in-34
unfolding spelling_of other_names modifiers_in_order types_in_order directive_entries modifier_entries type_entries protocol_entries synonym_entries abbreviation_entries keysym_entries button_entries motion_entries mode_entries request_entries
returns-in-34 c = spelling_at c.in-34.is

pub returns-in-35 : goal.returns-in-35
unfolding spelling_of other_names modifiers_in_order types_in_order directive_entries modifier_entries type_entries protocol_entries synonym_entries abbreviation_entries keysym_entries button_entries motion_entries mode_entries request_entries
returns-in-35 c = spelling_at c.in-35.is

pub returns-in-36 : goal.returns-in-36
unfolding spelling_of other_names modifiers_in_order types_in_order directive_entries modifier_entries type_entries protocol_entries synonym_entries abbreviation_entries keysym_entries button_entries motion_entries mode_entries request_entries
returns-in-36 c = spelling_at c.in-36.is

pub returns-in-37 : goal.returns-in-37
unfolding spelling_of other_names modifiers_in_order types_in_order directive_entries modifier_entries type_entries protocol_entries synonym_entries abbreviation_entries keysym_entries button_entries motion_entries mode_entries request_entries
returns-in-37 c = spelling_at c.in-37.is

pub returns-in-38 : goal.returns-in-38
unfolding spelling_of other_names modifiers_in_order types_in_order directive_entries modifier_entries type_entries protocol_entries synonym_entries abbreviation_entries keysym_entries button_entries motion_entries mode_entries request_entries
returns-in-38 c = spelling_at c.in-38.is

pub returns-in-39 : goal.returns-in-39
unfolding spelling_of other_names modifiers_in_order types_in_order directive_entries modifier_entries type_entries protocol_entries synonym_entries abbreviation_entries keysym_entries button_entries motion_entries mode_entries request_entries
returns-in-39 c = spelling_at c.in-39.is

pub returns-in-40 : goal.returns-in-40
unfolding spelling_of other_names modifiers_in_order types_in_order directive_entries modifier_entries type_entries protocol_entries synonym_entries abbreviation_entries keysym_entries button_entries motion_entries mode_entries request_entries
returns-in-40 c = spelling_at c.in-40.is

pub returns-in-41 : goal.returns-in-41
unfolding spelling_of other_names modifiers_in_order types_in_order directive_entries modifier_entries type_entries protocol_entries synonym_entries abbreviation_entries keysym_entries button_entries motion_entries mode_entries request_entries
returns-in-41 c = spelling_at c.in-41.is

pub returns-in-42 : goal.returns-in-42
unfolding spelling_of other_names modifiers_in_order types_in_order directive_entries modifier_entries type_entries protocol_entries synonym_entries abbreviation_entries keysym_entries button_entries motion_entries mode_entries request_entries
returns-in-42 c = spelling_at c.in-42.is

pub returns-in-43 : goal.returns-in-43
unfolding spelling_of other_names modifiers_in_order types_in_order directive_entries modifier_entries type_entries protocol_entries synonym_entries abbreviation_entries keysym_entries button_entries motion_entries mode_entries request_entries
returns-in-43 c = spelling_at c.in-43.is

pub returns-in-44 : goal.returns-in-44
unfolding spelling_of other_names modifiers_in_order types_in_order directive_entries modifier_entries type_entries protocol_entries synonym_entries abbreviation_entries keysym_entries button_entries motion_entries mode_entries request_entries
returns-in-44 c = spelling_at c.in-44.is

pub returns-in-45 : goal.returns-in-45
unfolding spelling_of other_names modifiers_in_order types_in_order directive_entries modifier_entries type_entries protocol_entries synonym_entries abbreviation_entries keysym_entries button_entries motion_entries mode_entries request_entries
returns-in-45 c = spelling_at c.in-45.is

pub returns-in-46 : goal.returns-in-46
unfolding spelling_of other_names modifiers_in_order types_in_order directive_entries modifier_entries type_entries protocol_entries synonym_entries abbreviation_entries keysym_entries button_entries motion_entries mode_entries request_entries
returns-in-46 c = spelling_at c.in-46.is

pub returns-in-47 : goal.returns-in-47
unfolding spelling_of other_names modifiers_in_order types_in_order directive_entries modifier_entries type_entries protocol_entries synonym_entries abbreviation_entries keysym_entries button_entries motion_entries mode_entries request_entries
returns-in-47 c = spelling_at c.in-47.is

pub returns-in-48 : goal.returns-in-48
unfolding spelling_of other_names modifiers_in_order types_in_order directive_entries modifier_entries type_entries protocol_entries synonym_entries abbreviation_entries keysym_entries button_entries motion_entries mode_entries request_entries
returns-in-48 c = spelling_at c.in-48.is

pub returns-in-49 : goal.returns-in-49
unfolding spelling_of other_names modifiers_in_order types_in_order directive_entries modifier_entries type_entries protocol_entries synonym_entries abbreviation_entries keysym_entries button_entries motion_entries mode_entries request_entries
returns-in-49 c = spelling_at c.in-49.is

pub returns-in-50 : goal.returns-in-50
unfolding spelling_of other_names modifiers_in_order types_in_order directive_entries modifier_entries type_entries protocol_entries synonym_entries abbreviation_entries keysym_entries button_entries motion_entries mode_entries request_entries
returns-in-50 c = spelling_at c.in-50.is

pub returns-in-51 : goal.returns-in-51
unfolding spelling_of other_names modifiers_in_order types_in_order directive_entries modifier_entries type_entries protocol_entries synonym_entries abbreviation_entries keysym_entries button_entries motion_entries mode_entries request_entries
returns-in-51 c = spelling_at c.in-51.is

pub returns-in-52 : goal.returns-in-52
unfolding spelling_of other_names modifiers_in_order types_in_order directive_entries modifier_entries type_entries protocol_entries synonym_entries abbreviation_entries keysym_entries button_entries motion_entries mode_entries request_entries
returns-in-52 c = spelling_at c.in-52.is

pub returns-in-53 : goal.returns-in-53
unfolding spelling_of other_names modifiers_in_order types_in_order directive_entries modifier_entries type_entries protocol_entries synonym_entries abbreviation_entries keysym_entries button_entries motion_entries mode_entries request_entries
returns-in-53 c = spelling_at c.in-53.is

pub returns-in-54 : goal.returns-in-54
unfolding spelling_of other_names modifiers_in_order types_in_order directive_entries modifier_entries type_entries protocol_entries synonym_entries abbreviation_entries keysym_entries button_entries motion_entries mode_entries request_entries
returns-in-54 c = spelling_at c.in-54.is

pub returns-in-55 : goal.returns-in-55
unfolding spelling_of other_names modifiers_in_order types_in_order directive_entries modifier_entries type_entries protocol_entries synonym_entries abbreviation_entries keysym_entries button_entries motion_entries mode_entries request_entries
returns-in-55 c = spelling_at c.in-55.is

pub returns-in-56 : goal.returns-in-56
unfolding spelling_of other_names modifiers_in_order types_in_order directive_entries modifier_entries type_entries protocol_entries synonym_entries abbreviation_entries keysym_entries button_entries motion_entries mode_entries request_entries
returns-in-56 c = spelling_at c.in-56.is

pub returns-in-57 : goal.returns-in-57
unfolding spelling_of other_names modifiers_in_order types_in_order directive_entries modifier_entries type_entries protocol_entries synonym_entries abbreviation_entries keysym_entries button_entries motion_entries mode_entries request_entries
returns-in-57 c = spelling_at c.in-57.is

pub returns-in-58 : goal.returns-in-58
unfolding spelling_of other_names modifiers_in_order types_in_order directive_entries modifier_entries type_entries protocol_entries synonym_entries abbreviation_entries keysym_entries button_entries motion_entries mode_entries request_entries
returns-in-58 c = spelling_at c.in-58.is

pub returns-in-59 : goal.returns-in-59
unfolding spelling_of other_names modifiers_in_order types_in_order directive_entries modifier_entries type_entries protocol_entries synonym_entries abbreviation_entries keysym_entries button_entries motion_entries mode_entries request_entries
returns-in-59 c = spelling_at c.in-59.is

pub returns-in-60 : goal.returns-in-60
unfolding spelling_of other_names modifiers_in_order types_in_order directive_entries modifier_entries type_entries protocol_entries synonym_entries abbreviation_entries keysym_entries button_entries motion_entries mode_entries request_entries
returns-in-60 c = spelling_at c.in-60.is

pub returns-in-61 : goal.returns-in-61
unfolding spelling_of other_names modifiers_in_order types_in_order directive_entries modifier_entries type_entries protocol_entries synonym_entries abbreviation_entries keysym_entries button_entries motion_entries mode_entries request_entries
returns-in-61 c = spelling_at c.in-61.is

pub returns-in-62 : goal.returns-in-62
unfolding spelling_of other_names modifiers_in_order types_in_order directive_entries modifier_entries type_entries protocol_entries synonym_entries abbreviation_entries keysym_entries button_entries motion_entries mode_entries request_entries
returns-in-62 c = spelling_at c.in-62.is

pub returns-in-63 : goal.returns-in-63
unfolding spelling_of other_names modifiers_in_order types_in_order directive_entries modifier_entries type_entries protocol_entries synonym_entries abbreviation_entries keysym_entries button_entries motion_entries mode_entries request_entries
returns-in-63 c = spelling_at c.in-63.is

pub returns-in-64 : goal.returns-in-64
unfolding spelling_of other_names modifiers_in_order types_in_order directive_entries modifier_entries type_entries protocol_entries synonym_entries abbreviation_entries keysym_entries button_entries motion_entries mode_entries request_entries
returns-in-64 c = spelling_at c.in-64.is

pub returns-in-65 : goal.returns-in-65
unfolding spelling_of other_names modifiers_in_order types_in_order directive_entries modifier_entries type_entries protocol_entries synonym_entries abbreviation_entries keysym_entries button_entries motion_entries mode_entries request_entries
returns-in-65 c = spelling_at c.in-65.is

pub returns-in-66 : goal.returns-in-66
unfolding spelling_of other_names modifiers_in_order types_in_order directive_entries modifier_entries type_entries protocol_entries synonym_entries abbreviation_entries keysym_entries button_entries motion_entries mode_entries request_entries
returns-in-66 c = spelling_at c.in-66.is

pub returns-in-67 : goal.returns-in-67
unfolding spelling_of other_names modifiers_in_order types_in_order directive_entries modifier_entries type_entries protocol_entries synonym_entries abbreviation_entries keysym_entries button_entries motion_entries mode_entries request_entries
returns-in-67 c = spelling_at c.in-67.is

pub returns-in-68 : goal.returns-in-68
unfolding spelling_of other_names modifiers_in_order types_in_order directive_entries modifier_entries type_entries protocol_entries synonym_entries abbreviation_entries keysym_entries button_entries motion_entries mode_entries request_entries
returns-in-68 c = spelling_at c.in-68.is

pub returns-in-69 : goal.returns-in-69
unfolding spelling_of other_names modifiers_in_order types_in_order directive_entries modifier_entries type_entries protocol_entries synonym_entries abbreviation_entries keysym_entries button_entries motion_entries mode_entries request_entries
returns-in-69 c = spelling_at c.in-69.is

pub returns-in-70 : goal.returns-in-70
unfolding spelling_of other_names modifiers_in_order types_in_order directive_entries modifier_entries type_entries protocol_entries synonym_entries abbreviation_entries keysym_entries button_entries motion_entries mode_entries request_entries
returns-in-70 c = spelling_at c.in-70.is

pub returns-in-71 : goal.returns-in-71
unfolding spelling_of other_names modifiers_in_order types_in_order directive_entries modifier_entries type_entries protocol_entries synonym_entries abbreviation_entries keysym_entries button_entries motion_entries mode_entries request_entries
returns-in-71 c = spelling_at c.in-71.is

pub returns-in-72 : goal.returns-in-72
unfolding spelling_of other_names modifiers_in_order types_in_order directive_entries modifier_entries type_entries protocol_entries synonym_entries abbreviation_entries keysym_entries button_entries motion_entries mode_entries request_entries
returns-in-72 c = spelling_at c.in-72.is

pub returns-in-73 : goal.returns-in-73
unfolding spelling_of other_names modifiers_in_order types_in_order directive_entries modifier_entries type_entries protocol_entries synonym_entries abbreviation_entries keysym_entries button_entries motion_entries mode_entries request_entries
returns-in-73 c = spelling_at c.in-73.is

pub returns-in-74 : goal.returns-in-74
unfolding spelling_of other_names modifiers_in_order types_in_order directive_entries modifier_entries type_entries protocol_entries synonym_entries abbreviation_entries keysym_entries button_entries motion_entries mode_entries request_entries
returns-in-74 c = spelling_at c.in-74.is

pub returns-in-75 : goal.returns-in-75
unfolding spelling_of other_names modifiers_in_order types_in_order directive_entries modifier_entries type_entries protocol_entries synonym_entries abbreviation_entries keysym_entries button_entries motion_entries mode_entries request_entries
returns-in-75 c = spelling_at c.in-75.is

pub returns-in-76 : goal.returns-in-76
unfolding spelling_of other_names modifiers_in_order types_in_order directive_entries modifier_entries type_entries protocol_entries synonym_entries abbreviation_entries keysym_entries button_entries motion_entries mode_entries request_entries
returns-in-76 c = spelling_at c.in-76.is

pub returns-in-77 : goal.returns-in-77
unfolding spelling_of other_names modifiers_in_order types_in_order directive_entries modifier_entries type_entries protocol_entries synonym_entries abbreviation_entries keysym_entries button_entries motion_entries mode_entries request_entries
returns-in-77 c = spelling_at c.in-77.is

pub returns-in-78 : goal.returns-in-78
unfolding spelling_of other_names modifiers_in_order types_in_order directive_entries modifier_entries type_entries protocol_entries synonym_entries abbreviation_entries keysym_entries button_entries motion_entries mode_entries request_entries
returns-in-78 c = spelling_at c.in-78.is

pub returns-in-79 : goal.returns-in-79
unfolding spelling_of other_names modifiers_in_order types_in_order directive_entries modifier_entries type_entries protocol_entries synonym_entries abbreviation_entries keysym_entries button_entries motion_entries mode_entries request_entries
returns-in-79 c = spelling_at c.in-79.is

pub returns-in-80 : goal.returns-in-80
unfolding spelling_of other_names modifiers_in_order types_in_order directive_entries modifier_entries type_entries protocol_entries synonym_entries abbreviation_entries keysym_entries button_entries motion_entries mode_entries request_entries
returns-in-80 c = spelling_at c.in-80.is

pub returns-in-81 : goal.returns-in-81
unfolding spelling_of other_names modifiers_in_order types_in_order directive_entries modifier_entries type_entries protocol_entries synonym_entries abbreviation_entries keysym_entries button_entries motion_entries mode_entries request_entries
returns-in-81 c = spelling_at c.in-81.is

pub returns-in-82 : goal.returns-in-82
unfolding spelling_of other_names modifiers_in_order types_in_order directive_entries modifier_entries type_entries protocol_entries synonym_entries abbreviation_entries keysym_entries button_entries motion_entries mode_entries request_entries
returns-in-82 c = spelling_at c.in-82.is

pub returns-in-83 : goal.returns-in-83
unfolding spelling_of other_names modifiers_in_order types_in_order directive_entries modifier_entries type_entries protocol_entries synonym_entries abbreviation_entries keysym_entries button_entries motion_entries mode_entries request_entries
returns-in-83 c = spelling_at c.in-83.is

pub returns-in-84 : goal.returns-in-84
unfolding spelling_of other_names modifiers_in_order types_in_order directive_entries modifier_entries type_entries protocol_entries synonym_entries abbreviation_entries keysym_entries button_entries motion_entries mode_entries request_entries
returns-in-84 c = spelling_at c.in-84.is

pub returns-in-85 : goal.returns-in-85
unfolding spelling_of other_names modifiers_in_order types_in_order directive_entries modifier_entries type_entries protocol_entries synonym_entries abbreviation_entries keysym_entries button_entries motion_entries mode_entries request_entries
returns-in-85 c = spelling_at c.in-85.is

pub returns-in-86 : goal.returns-in-86
unfolding spelling_of other_names modifiers_in_order types_in_order directive_entries modifier_entries type_entries protocol_entries synonym_entries abbreviation_entries keysym_entries button_entries motion_entries mode_entries request_entries
returns-in-86 c = spelling_at c.in-86.is

pub returns-in-87 : goal.returns-in-87
unfolding spelling_of other_names modifiers_in_order types_in_order directive_entries modifier_entries type_entries protocol_entries synonym_entries abbreviation_entries keysym_entries button_entries motion_entries mode_entries request_entries
returns-in-87 c = spelling_at c.in-87.is

pub returns-in-88 : goal.returns-in-88
unfolding spelling_of other_names modifiers_in_order types_in_order directive_entries modifier_entries type_entries protocol_entries synonym_entries abbreviation_entries keysym_entries button_entries motion_entries mode_entries request_entries
returns-in-88 c = spelling_at c.in-88.is

pub returns-in-89 : goal.returns-in-89
unfolding spelling_of other_names modifiers_in_order types_in_order directive_entries modifier_entries type_entries protocol_entries synonym_entries abbreviation_entries keysym_entries button_entries motion_entries mode_entries request_entries
returns-in-89 c = spelling_at c.in-89.is

pub returns-in-90 : goal.returns-in-90
unfolding spelling_of other_names modifiers_in_order types_in_order directive_entries modifier_entries type_entries protocol_entries synonym_entries abbreviation_entries keysym_entries button_entries motion_entries mode_entries request_entries
returns-in-90 c = spelling_at c.in-90.is

pub returns-in-91 : goal.returns-in-91
unfolding spelling_of other_names modifiers_in_order types_in_order directive_entries modifier_entries type_entries protocol_entries synonym_entries abbreviation_entries keysym_entries button_entries motion_entries mode_entries request_entries
returns-in-91 c = spelling_at c.in-91.is

pub returns-in-92 : goal.returns-in-92
unfolding spelling_of other_names modifiers_in_order types_in_order directive_entries modifier_entries type_entries protocol_entries synonym_entries abbreviation_entries keysym_entries button_entries motion_entries mode_entries request_entries
returns-in-92 c = spelling_at c.in-92.is

pub returns-in-93 : goal.returns-in-93
unfolding spelling_of other_names modifiers_in_order types_in_order directive_entries modifier_entries type_entries protocol_entries synonym_entries abbreviation_entries keysym_entries button_entries motion_entries mode_entries request_entries
returns-in-93 c = spelling_at c.in-93.is

pub returns-in-94 : goal.returns-in-94
unfolding spelling_of other_names modifiers_in_order types_in_order directive_entries modifier_entries type_entries protocol_entries synonym_entries abbreviation_entries keysym_entries button_entries motion_entries mode_entries request_entries
returns-in-94 c = spelling_at c.in-94.is

pub returns-in-95 : goal.returns-in-95
unfolding spelling_of other_names modifiers_in_order types_in_order directive_entries modifier_entries type_entries protocol_entries synonym_entries abbreviation_entries keysym_entries button_entries motion_entries mode_entries request_entries
returns-in-95 c = spelling_at c.in-95.is

pub returns-in-96 : goal.returns-in-96
unfolding spelling_of other_names modifiers_in_order types_in_order directive_entries modifier_entries type_entries protocol_entries synonym_entries abbreviation_entries keysym_entries button_entries motion_entries mode_entries request_entries
returns-in-96 c = spelling_at c.in-96.is

pub returns-in-97 : goal.returns-in-97
unfolding spelling_of other_names modifiers_in_order types_in_order directive_entries modifier_entries type_entries protocol_entries synonym_entries abbreviation_entries keysym_entries button_entries motion_entries mode_entries request_entries
returns-in-97 c = spelling_at c.in-97.is

pub returns-in-98 : goal.returns-in-98
unfolding spelling_of other_names modifiers_in_order types_in_order directive_entries modifier_entries type_entries protocol_entries synonym_entries abbreviation_entries keysym_entries button_entries motion_entries mode_entries request_entries
returns-in-98 c = spelling_at c.in-98.is

pub returns-in-99 : goal.returns-in-99
unfolding spelling_of other_names modifiers_in_order types_in_order directive_entries modifier_entries type_entries protocol_entries synonym_entries abbreviation_entries keysym_entries button_entries motion_entries mode_entries request_entries
returns-in-99 c = spelling_at c.in-99.is

pub returns-in-100 : goal.returns-in-100
unfolding spelling_of other_names modifiers_in_order types_in_order directive_entries modifier_entries type_entries protocol_entries synonym_entries abbreviation_entries keysym_entries button_entries motion_entries mode_entries request_entries
returns-in-100 c = spelling_at c.in-100.is

pub returns-in-101 : goal.returns-in-101
unfolding spelling_of other_names modifiers_in_order types_in_order directive_entries modifier_entries type_entries protocol_entries synonym_entries abbreviation_entries keysym_entries button_entries motion_entries mode_entries request_entries
returns-in-101 c = spelling_at c.in-101.is

pub returns-in-102 : goal.returns-in-102
unfolding spelling_of other_names modifiers_in_order types_in_order directive_entries modifier_entries type_entries protocol_entries synonym_entries abbreviation_entries keysym_entries button_entries motion_entries mode_entries request_entries
returns-in-102 c = spelling_at c.in-102.is

pub returns-in-103 : goal.returns-in-103
unfolding spelling_of other_names modifiers_in_order types_in_order directive_entries modifier_entries type_entries protocol_entries synonym_entries abbreviation_entries keysym_entries button_entries motion_entries mode_entries request_entries
returns-in-103 c = spelling_at c.in-103.is

pub returns-in-104 : goal.returns-in-104
unfolding spelling_of other_names modifiers_in_order types_in_order directive_entries modifier_entries type_entries protocol_entries synonym_entries abbreviation_entries keysym_entries button_entries motion_entries mode_entries request_entries
returns-in-104 c = spelling_at c.in-104.is

pub returns-in-105 : goal.returns-in-105
unfolding spelling_of other_names modifiers_in_order types_in_order directive_entries modifier_entries type_entries protocol_entries synonym_entries abbreviation_entries keysym_entries button_entries motion_entries mode_entries request_entries
returns-in-105 c = spelling_at c.in-105.is

pub returns-in-106 : goal.returns-in-106
unfolding spelling_of other_names modifiers_in_order types_in_order directive_entries modifier_entries type_entries protocol_entries synonym_entries abbreviation_entries keysym_entries button_entries motion_entries mode_entries request_entries
returns-in-106 c = spelling_at c.in-106.is

pub returns-in-107 : goal.returns-in-107
unfolding spelling_of other_names modifiers_in_order types_in_order directive_entries modifier_entries type_entries protocol_entries synonym_entries abbreviation_entries keysym_entries button_entries motion_entries mode_entries request_entries
returns-in-107 c = spelling_at c.in-107.is

pub returns-in-108 : goal.returns-in-108
unfolding spelling_of other_names modifiers_in_order types_in_order directive_entries modifier_entries type_entries protocol_entries synonym_entries abbreviation_entries keysym_entries button_entries motion_entries mode_entries request_entries
returns-in-108 c = spelling_at c.in-108.is

pub returns-in-109 : goal.returns-in-109
unfolding spelling_of other_names modifiers_in_order types_in_order directive_entries modifier_entries type_entries protocol_entries synonym_entries abbreviation_entries keysym_entries button_entries motion_entries mode_entries request_entries
returns-in-109 c = spelling_at c.in-109.is

pub returns-in-110 : goal.returns-in-110
unfolding spelling_of other_names modifiers_in_order types_in_order directive_entries modifier_entries type_entries protocol_entries synonym_entries abbreviation_entries keysym_entries button_entries motion_entries mode_entries request_entries
returns-in-110 c = spelling_at c.in-110.is

pub returns-in-111 : goal.returns-in-111
unfolding spelling_of other_names modifiers_in_order types_in_order directive_entries modifier_entries type_entries protocol_entries synonym_entries abbreviation_entries keysym_entries button_entries motion_entries mode_entries request_entries
returns-in-111 c = spelling_at c.in-111.is

pub returns-in-112 : goal.returns-in-112
unfolding spelling_of other_names modifiers_in_order types_in_order directive_entries modifier_entries type_entries protocol_entries synonym_entries abbreviation_entries keysym_entries button_entries motion_entries mode_entries request_entries
returns-in-112 c = spelling_at c.in-112.is

pub returns-in-113 : goal.returns-in-113
unfolding spelling_of other_names modifiers_in_order types_in_order directive_entries modifier_entries type_entries protocol_entries synonym_entries abbreviation_entries keysym_entries button_entries motion_entries mode_entries request_entries
returns-in-113 c = spelling_at c.in-113.is

pub returns-in-114 : goal.returns-in-114
unfolding spelling_of other_names modifiers_in_order types_in_order directive_entries modifier_entries type_entries protocol_entries synonym_entries abbreviation_entries keysym_entries button_entries motion_entries mode_entries request_entries
returns-in-114 c = spelling_at c.in-114.is

pub returns-in-115 : goal.returns-in-115
unfolding spelling_of other_names modifiers_in_order types_in_order directive_entries modifier_entries type_entries protocol_entries synonym_entries abbreviation_entries keysym_entries button_entries motion_entries mode_entries request_entries
returns-in-115 c = spelling_at c.in-115.is

pub returns-in-116 : goal.returns-in-116
unfolding spelling_of other_names modifiers_in_order types_in_order directive_entries modifier_entries type_entries protocol_entries synonym_entries abbreviation_entries keysym_entries button_entries motion_entries mode_entries request_entries
returns-in-116 c = spelling_at c.in-116.is

pub returns-in-117 : goal.returns-in-117
unfolding spelling_of other_names modifiers_in_order types_in_order directive_entries modifier_entries type_entries protocol_entries synonym_entries abbreviation_entries keysym_entries button_entries motion_entries mode_entries request_entries
returns-in-117 c = spelling_at c.in-117.is

pub returns-in-118 : goal.returns-in-118
unfolding spelling_of other_names modifiers_in_order types_in_order directive_entries modifier_entries type_entries protocol_entries synonym_entries abbreviation_entries keysym_entries button_entries motion_entries mode_entries request_entries
returns-in-118 c = spelling_at c.in-118.is

pub returns-in-119 : goal.returns-in-119
unfolding spelling_of other_names modifiers_in_order types_in_order directive_entries modifier_entries type_entries protocol_entries synonym_entries abbreviation_entries keysym_entries button_entries motion_entries mode_entries request_entries
returns-in-119 c = spelling_at c.in-119.is

pub returns-in-120 : goal.returns-in-120
unfolding spelling_of other_names modifiers_in_order types_in_order directive_entries modifier_entries type_entries protocol_entries synonym_entries abbreviation_entries keysym_entries button_entries motion_entries mode_entries request_entries
returns-in-120 c = spelling_at c.in-120.is

pub returns-in-121 : goal.returns-in-121
unfolding spelling_of other_names modifiers_in_order types_in_order directive_entries modifier_entries type_entries protocol_entries synonym_entries abbreviation_entries keysym_entries button_entries motion_entries mode_entries request_entries
returns-in-121 c = spelling_at c.in-121.is

pub returns-in-122 : goal.returns-in-122
unfolding spelling_of other_names modifiers_in_order types_in_order directive_entries modifier_entries type_entries protocol_entries synonym_entries abbreviation_entries keysym_entries button_entries motion_entries mode_entries request_entries
returns-in-122 c = spelling_at c.in-122.is

pub returns-in-123 : goal.returns-in-123
unfolding spelling_of other_names modifiers_in_order types_in_order directive_entries modifier_entries type_entries protocol_entries synonym_entries abbreviation_entries keysym_entries button_entries motion_entries mode_entries request_entries
returns-in-123 c = spelling_at c.in-123.is

pub returns-in-124 : goal.returns-in-124
unfolding spelling_of other_names modifiers_in_order types_in_order directive_entries modifier_entries type_entries protocol_entries synonym_entries abbreviation_entries keysym_entries button_entries motion_entries mode_entries request_entries
returns-in-124 c = spelling_at c.in-124.is

pub returns-in-125 : goal.returns-in-125
unfolding spelling_of other_names modifiers_in_order types_in_order directive_entries modifier_entries type_entries protocol_entries synonym_entries abbreviation_entries keysym_entries button_entries motion_entries mode_entries request_entries
returns-in-125 c = spelling_at c.in-125.is

pub returns-in-126 : goal.returns-in-126
unfolding spelling_of other_names modifiers_in_order types_in_order directive_entries modifier_entries type_entries protocol_entries synonym_entries abbreviation_entries keysym_entries button_entries motion_entries mode_entries request_entries
returns-in-126 c = spelling_at c.in-126.is

pub returns-in-127 : goal.returns-in-127
unfolding spelling_of other_names modifiers_in_order types_in_order directive_entries modifier_entries type_entries protocol_entries synonym_entries abbreviation_entries keysym_entries button_entries motion_entries mode_entries request_entries
returns-in-127 c = spelling_at c.in-127.is

pub returns-in-128 : goal.returns-in-128
unfolding spelling_of other_names modifiers_in_order types_in_order directive_entries modifier_entries type_entries protocol_entries synonym_entries abbreviation_entries keysym_entries button_entries motion_entries mode_entries request_entries
returns-in-128 c = spelling_at c.in-128.is

pub returns-in-129 : goal.returns-in-129
unfolding spelling_of other_names modifiers_in_order types_in_order directive_entries modifier_entries type_entries protocol_entries synonym_entries abbreviation_entries keysym_entries button_entries motion_entries mode_entries request_entries
returns-in-129 c = spelling_at c.in-129.is

pub returns-in-130 : goal.returns-in-130
unfolding spelling_of other_names modifiers_in_order types_in_order directive_entries modifier_entries type_entries protocol_entries synonym_entries abbreviation_entries keysym_entries button_entries motion_entries mode_entries request_entries
returns-in-130 c = spelling_at c.in-130.is

pub returns-in-131 : goal.returns-in-131
unfolding spelling_of other_names modifiers_in_order types_in_order directive_entries modifier_entries type_entries protocol_entries synonym_entries abbreviation_entries keysym_entries button_entries motion_entries mode_entries request_entries
returns-in-131 c = spelling_at c.in-131.is

pub returns-in-132 : goal.returns-in-132
unfolding spelling_of other_names modifiers_in_order types_in_order directive_entries modifier_entries type_entries protocol_entries synonym_entries abbreviation_entries keysym_entries button_entries motion_entries mode_entries request_entries
returns-in-132 c = spelling_at c.in-132.is

pub returns-in-133 : goal.returns-in-133
unfolding spelling_of other_names modifiers_in_order types_in_order directive_entries modifier_entries type_entries protocol_entries synonym_entries abbreviation_entries keysym_entries button_entries motion_entries mode_entries request_entries
returns-in-133 c = spelling_at c.in-133.is

pub returns-in-134 : goal.returns-in-134
unfolding spelling_of other_names modifiers_in_order types_in_order directive_entries modifier_entries type_entries protocol_entries synonym_entries abbreviation_entries keysym_entries button_entries motion_entries mode_entries request_entries
returns-in-134 c = spelling_at c.in-134.is

pub returns-in-135 : goal.returns-in-135
unfolding spelling_of other_names modifiers_in_order types_in_order directive_entries modifier_entries type_entries protocol_entries synonym_entries abbreviation_entries keysym_entries button_entries motion_entries mode_entries request_entries
returns-in-135 c = spelling_at c.in-135.is

pub returns-in-136 : goal.returns-in-136
unfolding spelling_of other_names modifiers_in_order types_in_order directive_entries modifier_entries type_entries protocol_entries synonym_entries abbreviation_entries keysym_entries button_entries motion_entries mode_entries request_entries
returns-in-136 c = spelling_at c.in-136.is

pub returns-in-137 : goal.returns-in-137
unfolding spelling_of other_names modifiers_in_order types_in_order directive_entries modifier_entries type_entries protocol_entries synonym_entries abbreviation_entries keysym_entries button_entries motion_entries mode_entries request_entries
returns-in-137 c = spelling_at c.in-137.is

pub returns-in-138 : goal.returns-in-138
unfolding spelling_of other_names modifiers_in_order types_in_order directive_entries modifier_entries type_entries protocol_entries synonym_entries abbreviation_entries keysym_entries button_entries motion_entries mode_entries request_entries
returns-in-138 c = spelling_at c.in-138.is

pub returns-in-139 : goal.returns-in-139
unfolding spelling_of other_names modifiers_in_order types_in_order directive_entries modifier_entries type_entries protocol_entries synonym_entries abbreviation_entries keysym_entries button_entries motion_entries mode_entries request_entries
returns-in-139 c = spelling_at c.in-139.is

pub returns-in-140 : goal.returns-in-140
unfolding spelling_of other_names modifiers_in_order types_in_order directive_entries modifier_entries type_entries protocol_entries synonym_entries abbreviation_entries keysym_entries button_entries motion_entries mode_entries request_entries
returns-in-140 c = spelling_at c.in-140.is

pub returns-in-141 : goal.returns-in-141
unfolding spelling_of other_names modifiers_in_order types_in_order directive_entries modifier_entries type_entries protocol_entries synonym_entries abbreviation_entries keysym_entries button_entries motion_entries mode_entries request_entries
returns-in-141 c = spelling_at c.in-141.is

pub returns-in-142 : goal.returns-in-142
unfolding spelling_of other_names modifiers_in_order types_in_order directive_entries modifier_entries type_entries protocol_entries synonym_entries abbreviation_entries keysym_entries button_entries motion_entries mode_entries request_entries
returns-in-142 c = spelling_at c.in-142.is

pub returns-in-143 : goal.returns-in-143
unfolding spelling_of other_names modifiers_in_order types_in_order directive_entries modifier_entries type_entries protocol_entries synonym_entries abbreviation_entries keysym_entries button_entries motion_entries mode_entries request_entries
returns-in-143 c = spelling_at c.in-143.is

pub returns-in-144 : goal.returns-in-144
unfolding spelling_of other_names modifiers_in_order types_in_order directive_entries modifier_entries type_entries protocol_entries synonym_entries abbreviation_entries keysym_entries button_entries motion_entries mode_entries request_entries
returns-in-144 c = spelling_at c.in-144.is

pub returns-in-145 : goal.returns-in-145
unfolding spelling_of other_names modifiers_in_order types_in_order directive_entries modifier_entries type_entries protocol_entries synonym_entries abbreviation_entries keysym_entries button_entries motion_entries mode_entries request_entries
returns-in-145 c = spelling_at c.in-145.is

pub returns-in-146 : goal.returns-in-146
unfolding spelling_of other_names modifiers_in_order types_in_order directive_entries modifier_entries type_entries protocol_entries synonym_entries abbreviation_entries keysym_entries button_entries motion_entries mode_entries request_entries
returns-in-146 c = spelling_at c.in-146.is

pub returns-in-147 : goal.returns-in-147
unfolding spelling_of other_names modifiers_in_order types_in_order directive_entries modifier_entries type_entries protocol_entries synonym_entries abbreviation_entries keysym_entries button_entries motion_entries mode_entries request_entries
returns-in-147 c = spelling_at c.in-147.is

pub returns-in-148 : goal.returns-in-148
unfolding spelling_of other_names modifiers_in_order types_in_order directive_entries modifier_entries type_entries protocol_entries synonym_entries abbreviation_entries keysym_entries button_entries motion_entries mode_entries request_entries
returns-in-148 c = spelling_at c.in-148.is

pub returns-in-149 : goal.returns-in-149
unfolding spelling_of other_names modifiers_in_order types_in_order directive_entries modifier_entries type_entries protocol_entries synonym_entries abbreviation_entries keysym_entries button_entries motion_entries mode_entries request_entries
returns-in-149 c = spelling_at c.in-149.is

pub returns-in-150 : goal.returns-in-150
unfolding spelling_of other_names modifiers_in_order types_in_order directive_entries modifier_entries type_entries protocol_entries synonym_entries abbreviation_entries keysym_entries button_entries motion_entries mode_entries request_entries
returns-in-150 c = spelling_at c.in-150.is

pub returns-in-151 : goal.returns-in-151
unfolding spelling_of other_names modifiers_in_order types_in_order directive_entries modifier_entries type_entries protocol_entries synonym_entries abbreviation_entries keysym_entries button_entries motion_entries mode_entries request_entries
returns-in-151 c = spelling_at c.in-151.is

pub returns-in-152 : goal.returns-in-152
unfolding spelling_of other_names modifiers_in_order types_in_order directive_entries modifier_entries type_entries protocol_entries synonym_entries abbreviation_entries keysym_entries button_entries motion_entries mode_entries request_entries
returns-in-152 c = spelling_at c.in-152.is

pub returns-in-153 : goal.returns-in-153
unfolding spelling_of other_names modifiers_in_order types_in_order directive_entries modifier_entries type_entries protocol_entries synonym_entries abbreviation_entries keysym_entries button_entries motion_entries mode_entries request_entries
returns-in-153 c = spelling_at c.in-153.is

pub returns-in-154 : goal.returns-in-154
unfolding spelling_of other_names modifiers_in_order types_in_order directive_entries modifier_entries type_entries protocol_entries synonym_entries abbreviation_entries keysym_entries button_entries motion_entries mode_entries request_entries
returns-in-154 c = spelling_at c.in-154.is

pub returns-in_default : goal.returns-in_default
unfolding spelling_of other_names modifiers_in_order types_in_order directive_entries modifier_entries type_entries protocol_entries synonym_entries abbreviation_entries keysym_entries button_entries motion_entries mode_entries request_entries
returns-in_default c = absurd (omega (arith, past 155 c.args.place c.in_default.in_default-own.rest))
