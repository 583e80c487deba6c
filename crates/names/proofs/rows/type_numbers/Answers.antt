-- `names::rows::type_numbers` meets its contract: the numbers are those of the rules' entries. Assumes nothing.
-- Made by tools/name_table from the lists of crates/model/specs/Names.antt and Details.antt: change those and run it again.
use native.Mathlib.Omega.{arith}
use Rattle.model.specs.Names.{type_entries, protocol_entries, synonym_entries, abbreviation_entries}
use Rattle.names.proofs.Rest.{past}
use Rattle.names.proofs.Order.{types_in_order, numbers_at}
use Rattle.names.proofs.rows.type_numbers.Goals as goal

pub returns-in-0 : goal.returns-in-0
unfolding types_in_order type_entries protocol_entries synonym_entries abbreviation_entries
returns-in-0 c = numbers_at c.in-0.is

pub returns-in-1 : goal.returns-in-1
unfolding types_in_order type_entries protocol_entries synonym_entries abbreviation_entries
returns-in-1 c = numbers_at c.in-1.is

pub returns-in-2 : goal.returns-in-2
unfolding types_in_order type_entries protocol_entries synonym_entries abbreviation_entries
returns-in-2 c = numbers_at c.in-2.is

pub returns-in-3 : goal.returns-in-3
unfolding types_in_order type_entries protocol_entries synonym_entries abbreviation_entries
returns-in-3 c = numbers_at c.in-3.is

pub returns-in-4 : goal.returns-in-4
unfolding types_in_order type_entries protocol_entries synonym_entries abbreviation_entries
returns-in-4 c = numbers_at c.in-4.is

pub returns-in-5 : goal.returns-in-5
unfolding types_in_order type_entries protocol_entries synonym_entries abbreviation_entries
returns-in-5 c = numbers_at c.in-5.is

pub returns-in-6 : goal.returns-in-6
unfolding types_in_order type_entries protocol_entries synonym_entries abbreviation_entries
returns-in-6 c = numbers_at c.in-6.is

pub returns-in-7 : goal.returns-in-7
unfolding types_in_order type_entries protocol_entries synonym_entries abbreviation_entries
returns-in-7 c = numbers_at c.in-7.is

pub returns-in-8 : goal.returns-in-8
unfolding types_in_order type_entries protocol_entries synonym_entries abbreviation_entries
returns-in-8 c = numbers_at c.in-8.is

pub returns-in-9 : goal.returns-in-9
unfolding types_in_order type_entries protocol_entries synonym_entries abbreviation_entries
returns-in-9 c = numbers_at c.in-9.is

pub returns-in-10 : goal.returns-in-10
unfolding types_in_order type_entries protocol_entries synonym_entries abbreviation_entries
returns-in-10 c = numbers_at c.in-10.is

pub returns-in-11 : goal.returns-in-11
unfolding types_in_order type_entries protocol_entries synonym_entries abbreviation_entries
returns-in-11 c = numbers_at c.in-11.is

pub returns-in-12 : goal.returns-in-12
unfolding types_in_order type_entries protocol_entries synonym_entries abbreviation_entries
returns-in-12 c = numbers_at c.in-12.is

pub returns-in-13 : goal.returns-in-13
unfolding types_in_order type_entries protocol_entries synonym_entries abbreviation_entries
returns-in-13 c = numbers_at c.in-13.is

pub returns-in-14 : goal.returns-in-14
unfolding types_in_order type_entries protocol_entries synonym_entries abbreviation_entries
returns-in-14 c = numbers_at c.in-14.is

pub returns-in-15 : goal.returns-in-15
unfolding types_in_order type_entries protocol_entries synonym_entries abbreviation_entries
returns-in-15 c = numbers_at c.in-15.is

pub returns-in-16 : goal.returns-in-16
unfolding types_in_order type_entries protocol_entries synonym_entries abbreviation_entries
returns-in-16 c = numbers_at c.in-16.is

pub returns-in-17 : goal.returns-in-17
unfolding types_in_order type_entries protocol_entries synonym_entries abbreviation_entries
returns-in-17 c = numbers_at c.in-17.is

pub returns-in-18 : goal.returns-in-18
unfolding types_in_order type_entries protocol_entries synonym_entries abbreviation_entries
returns-in-18 c = numbers_at c.in-18.is

pub returns-in-19 : goal.returns-in-19
unfolding types_in_order type_entries protocol_entries synonym_entries abbreviation_entries
returns-in-19 c = numbers_at c.in-19.is

pub returns-in-20 : goal.returns-in-20
unfolding types_in_order type_entries protocol_entries synonym_entries abbreviation_entries
returns-in-20 c = numbers_at c.in-20.is

pub returns-in-21 : goal.returns-in-21
unfolding types_in_order type_entries protocol_entries synonym_entries abbreviation_entries
returns-in-21 c = numbers_at c.in-21.is

pub returns-in-22 : goal.returns-in-22
unfolding types_in_order type_entries protocol_entries synonym_entries abbreviation_entries
returns-in-22 c = numbers_at c.in-22.is

pub returns-in-23 : goal.returns-in-23
unfolding types_in_order type_entries protocol_entries synonym_entries abbreviation_entries
returns-in-23 c = numbers_at c.in-23.is

pub returns-in-24 : goal.returns-in-24
unfolding types_in_order type_entries protocol_entries synonym_entries abbreviation_entries
returns-in-24 c = numbers_at c.in-24.is

pub returns-in-25 : goal.returns-in-25
unfolding types_in_order type_entries protocol_entries synonym_entries abbreviation_entries
returns-in-25 c = numbers_at c.in-25.is

pub returns-in-26 : goal.returns-in-26
unfolding types_in_order type_entries protocol_entries synonym_entries abbreviation_entries
returns-in-26 c = numbers_at c.in-26.is

pub returns-in-27 : goal.returns-in-27
unfolding types_in_order type_entries protocol_entries synonym_entries abbreviation_entries
returns-in-27 c = numbers_at c.in-27.is

pub returns-in-28 : goal.returns-in-28
unfolding types_in_order type_entries protocol_entries synonym_entries abbreviation_entries
returns-in-28 c = numbers_at c.in-28.is

pub returns-in-29 : goal.returns-in-29
unfolding types_in_order type_entries protocol_entries synonym_entries abbreviation_entries
returns-in-29 c = numbers_at c.in-29.is

pub returns-in-30 : goal.returns-in-30
unfolding types_in_order type_entries protocol_entries synonym_entries abbreviation_entries
returns-in-30 c = numbers_at c.in-30.is

pub returns-in-31 : goal.returns-in-31
unfolding types_in_order type_entries protocol_entries synonym_entries abbreviation_entries
returns-in-31 c = numbers_at c.in-31.is

pub returns-in-32 : goal.returns-in-32
unfolding types_in_order type_entries protocol_entries synonym_entries abbreviation_entries
returns-in-32 c = numbers_at c.in-32.is

pub returns-in-33 : goal.returns-in-33
unfolding types_in_order type_entries protocol_entries synonym_entries abbreviation_entries
returns-in-33 c = numbers_at c.in-33.is

pub returns-in-34 : goal.returns-in-34
unfolding types_in_order type_entries protocol_entries synonym_entries abbreviation_entries
returns-in-34 c = numbers_at c.in-34.is

pub returns-in-35 : goal.returns-in-35
unfolding types_in_order type_entries protocol_entries synonym_entries abbreviation_entries
returns-in-35 c = numbers_at c.in-35.is

pub returns-in-36 : goal.returns-in-36
unfolding types_in_order type_entries protocol_entries synonym_entries abbreviation_entries
returns-in-36 c = numbers_at c.in-36.is

pub returns-in-37 : goal.returns-in-37
unfolding types_in_order type_entries protocol_entries synonym_entries abbreviation_entries
returns-in-37 c = numbers_at c.in-37.is

pub returns-in-38 : goal.returns-in-38
unfolding types_in_order type_entries protocol_entries synonym_entries abbreviation_entries
returns-in-38 c = numbers_at c.in-38.is

pub returns-in-39 : goal.returns-in-39
unfolding types_in_order type_entries protocol_entries synonym_entries abbreviation_entries
returns-in-39 c = numbers_at c.in-39.is

pub returns-in-40 : goal.returns-in-40
unfolding types_in_order type_entries protocol_entries synonym_entries abbreviation_entries
returns-in-40 c = numbers_at c.in-40.is

pub returns-in-41 : goal.returns-in-41
unfolding types_in_order type_entries protocol_entries synonym_entries abbreviation_entries
returns-in-41 c = numbers_at c.in-41.is

pub returns-in-42 : goal.returns-in-42
unfolding types_in_order type_entries protocol_entries synonym_entries abbreviation_entries
returns-in-42 c = numbers_at c.in-42.is

pub returns-in-43 : goal.returns-in-43
unfolding types_in_order type_entries protocol_entries synonym_entries abbreviation_entries
returns-in-43 c = numbers_at c.in-43.is

pub returns-in-44 : goal.returns-in-44
unfolding types_in_order type_entries protocol_entries synonym_entries abbreviation_entries
returns-in-44 c = numbers_at c.in-44.is

pub returns-in-45 : goal.returns-in-45
unfolding types_in_order type_entries protocol_entries synonym_entries abbreviation_entries
returns-in-45 c = numbers_at c.in-45.is

pub returns-in-46 : goal.returns-in-46
unfolding types_in_order type_entries protocol_entries synonym_entries abbreviation_entries
returns-in-46 c = numbers_at c.in-46.is

pub returns-in-47 : goal.returns-in-47
unfolding types_in_order type_entries protocol_entries synonym_entries abbreviation_entries
returns-in-47 c = numbers_at c.in-47.is

pub returns-in-48 : goal.returns-in-48
unfolding types_in_order type_entries protocol_entries synonym_entries abbreviation_entries
returns-in-48 c = numbers_at c.in-48.is

pub returns-in-49 : goal.returns-in-49
unfolding types_in_order type_entries protocol_entries synonym_entries abbreviation_entries
returns-in-49 c = numbers_at c.in-49.is

pub returns-in-50 : goal.returns-in-50
unfolding types_in_order type_entries protocol_entries synonym_entries abbreviation_entries
returns-in-50 c = numbers_at c.in-50.is

pub returns-in-51 : goal.returns-in-51
unfolding types_in_order type_entries protocol_entries synonym_entries abbreviation_entries
returns-in-51 c = numbers_at c.in-51.is

pub returns-in-52 : goal.returns-in-52
unfolding types_in_order type_entries protocol_entries synonym_entries abbreviation_entries
returns-in-52 c = numbers_at c.in-52.is

pub returns-in-53 : goal.returns-in-53
unfolding types_in_order type_entries protocol_entries synonym_entries abbreviation_entries
returns-in-53 c = numbers_at c.in-53.is

pub returns-in-54 : goal.returns-in-54
unfolding types_in_order type_entries protocol_entries synonym_entries abbreviation_entries
returns-in-54 c = numbers_at c.in-54.is

pub returns-in-55 : goal.returns-in-55
unfolding types_in_order type_entries protocol_entries synonym_entries abbreviation_entries
returns-in-55 c = numbers_at c.in-55.is

pub returns-in-56 : goal.returns-in-56
unfolding types_in_order type_entries protocol_entries synonym_entries abbreviation_entries
returns-in-56 c = numbers_at c.in-56.is

pub returns-in-57 : goal.returns-in-57
unfolding types_in_order type_entries protocol_entries synonym_entries abbreviation_entries
returns-in-57 c = numbers_at c.in-57.is

pub returns-in-58 : goal.returns-in-58
unfolding types_in_order type_entries protocol_entries synonym_entries abbreviation_entries
returns-in-58 c = numbers_at c.in-58.is

pub returns-in-59 : goal.returns-in-59
unfolding types_in_order type_entries protocol_entries synonym_entries abbreviation_entries
returns-in-59 c = numbers_at c.in-59.is

pub returns-in-60 : goal.returns-in-60
unfolding types_in_order type_entries protocol_entries synonym_entries abbreviation_entries
returns-in-60 c = numbers_at c.in-60.is

pub returns-in-61 : goal.returns-in-61
unfolding types_in_order type_entries protocol_entries synonym_entries abbreviation_entries
returns-in-61 c = numbers_at c.in-61.is

pub returns-in-62 : goal.returns-in-62
unfolding types_in_order type_entries protocol_entries synonym_entries abbreviation_entries
returns-in-62 c = numbers_at c.in-62.is

pub returns-in-63 : goal.returns-in-63
unfolding types_in_order type_entries protocol_entries synonym_entries abbreviation_entries
returns-in-63 c = numbers_at c.in-63.is

pub returns-in-64 : goal.returns-in-64
unfolding types_in_order type_entries protocol_entries synonym_entries abbreviation_entries
returns-in-64 c = numbers_at c.in-64.is

pub returns-in-65 : goal.returns-in-65
unfolding types_in_order type_entries protocol_entries synonym_entries abbreviation_entries
returns-in-65 c = numbers_at c.in-65.is

pub returns-in-66 : goal.returns-in-66
unfolding types_in_order type_entries protocol_entries synonym_entries abbreviation_entries
returns-in-66 c = numbers_at c.in-66.is

pub returns-in-67 : goal.returns-in-67
unfolding types_in_order type_entries protocol_entries synonym_entries abbreviation_entries
returns-in-67 c = numbers_at c.in-67.is

pub returns-in-68 : goal.returns-in-68
unfolding types_in_order type_entries protocol_entries synonym_entries abbreviation_entries
returns-in-68 c = numbers_at c.in-68.is

pub returns-in-69 : goal.returns-in-69
unfolding types_in_order type_entries protocol_entries synonym_entries abbreviation_entries
returns-in-69 c = numbers_at c.in-69.is

pub returns-in-70 : goal.returns-in-70
unfolding types_in_order type_entries protocol_entries synonym_entries abbreviation_entries
returns-in-70 c = numbers_at c.in-70.is

pub returns-in-71 : goal.returns-in-71
unfolding types_in_order type_entries protocol_entries synonym_entries abbreviation_entries
returns-in-71 c = numbers_at c.in-71.is

pub returns-in-72 : goal.returns-in-72
unfolding types_in_order type_entries protocol_entries synonym_entries abbreviation_entries
returns-in-72 c = numbers_at c.in-72.is

pub returns-in-73 : goal.returns-in-73
unfolding types_in_order type_entries protocol_entries synonym_entries abbreviation_entries
returns-in-73 c = numbers_at c.in-73.is

pub returns-in-74 : goal.returns-in-74
unfolding types_in_order type_entries protocol_entries synonym_entries abbreviation_entries
returns-in-74 c = numbers_at c.in-74.is

pub returns-in-75 : goal.returns-in-75
unfolding types_in_order type_entries protocol_entries synonym_entries abbreviation_entries
returns-in-75 c = numbers_at c.in-75.is

pub returns-in-76 : goal.returns-in-76
unfolding types_in_order type_entries protocol_entries synonym_entries abbreviation_entries
returns-in-76 c = numbers_at c.in-76.is

pub returns-in-77 : goal.returns-in-77
unfolding types_in_order type_entries protocol_entries synonym_entries abbreviation_entries
returns-in-77 c = numbers_at c.in-77.is

pub returns-in-78 : goal.returns-in-78
unfolding types_in_order type_entries protocol_entries synonym_entries abbreviation_entries
returns-in-78 c = numbers_at c.in-78.is

pub returns-in-79 : goal.returns-in-79
unfolding types_in_order type_entries protocol_entries synonym_entries abbreviation_entries
returns-in-79 c = numbers_at c.in-79.is

pub returns-in-80 : goal.returns-in-80
unfolding types_in_order type_entries protocol_entries synonym_entries abbreviation_entries
returns-in-80 c = numbers_at c.in-80.is

pub returns-in-81 : goal.returns-in-81
unfolding types_in_order type_entries protocol_entries synonym_entries abbreviation_entries
returns-in-81 c = numbers_at c.in-81.is

pub returns-in-82 : goal.returns-in-82
unfolding types_in_order type_entries protocol_entries synonym_entries abbreviation_entries
returns-in-82 c = numbers_at c.in-82.is

pub returns-in-83 : goal.returns-in-83
unfolding types_in_order type_entries protocol_entries synonym_entries abbreviation_entries
returns-in-83 c = numbers_at c.in-83.is

pub returns-in-84 : goal.returns-in-84
unfolding types_in_order type_entries protocol_entries synonym_entries abbreviation_entries
returns-in-84 c = numbers_at c.in-84.is

pub returns-in-85 : goal.returns-in-85
unfolding types_in_order type_entries protocol_entries synonym_entries abbreviation_entries
returns-in-85 c = numbers_at c.in-85.is

pub returns-in-86 : goal.returns-in-86
unfolding types_in_order type_entries protocol_entries synonym_entries abbreviation_entries
returns-in-86 c = numbers_at c.in-86.is

pub returns-in_default : goal.returns-in_default
unfolding types_in_order type_entries protocol_entries synonym_entries abbreviation_entries
returns-in_default c = absurd (omega (arith, past 87 c.args.i c.in_default.in_default-own.rest))
