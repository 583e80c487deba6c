-- The starred examples of document 01: the definitions give every answer of the table, by computation.
use mathlib.Core.Path.{refl}
use Rattle.model.specs.Bytes.{is_allowed, first_bad_byte, is_blank, is_digit, is_letter, belongs, run_end, skip}
use Rattle.model.specs.Lines.{line_end, line_at, is_blank_line, directive_of, directive_at}
use Rattle.model.specs.Names.{modifier_entries, modifier_named, protocol_entries, synonym_entries, abbreviation_entries, type_entries, type_named}
use Rattle.model.specs.Latin1.{latin1_entries}
use Rattle.model.specs.Details.{digit_value, digits_from, number_in, keysym_entries, keysym_names, key_detail, button_entries, motion_entries, mode_entries, request_entries, small_number, name_or_number, detail_named}
use Rattle.model.specs.Events.{keysym_from, name_from, modifier_name_at, modifier_from, modifier_at, modifiers_from, lead_colon, lead_from, lead_at, list_of, type_from, type_run, type_name, type_at, count_close, count_plus, count_run, count_digits, count_from, count_at, plain_event_at, marked_key, key_at, keys_from, key_sequence_at, events_from, events_at, after_event_from, after_event_at, left_from, left_side}
use Rattle.model.specs.Calls.{parameter_end, quoted_from, unquoted_from, parameter_from, parameter_at, parameters_from, parameters_past, parameters_at, call_name_from, call_from, call_at, calls_from, right_side}
use Rattle.model.specs.Modifiers.{mask, lists_set, lists_clear, asks_set, asks_clear, set_mask, clear_mask, keeps_clause, state_meets, no_state_meets}
use Rattle.model.specs.Named.{names_mask, with_keysym, keysyms_from, keysyms_of, is_crowded, has_names}
use Rattle.model.specs.Resolving.{is_bad_map, row_of, names_of, keycode_holds, has_bit, is_unmet, resolves_set, resolves_clear}
use Rattle.model.specs.Counts.{release_press, press_release, elements_at, elements_of, expanded, sequence, quick}
use Rattle.model.specs.Judging.{detail_of, kept_detail, is_impossible, kept_clear, kept_event, event_number, judged_written, judged}
use Rattle.model.specs.Compiling.{production_passes, totals_pass, passes_limit, line_read, judged_all, line_outcome, lines_from, lines_of, compiled}
use Rattle.model.specs.Asked.{asks_bit_set, asks_bit_clear, asked, test_met}
use Rattle.model.specs.Keyboard.{is_lower, is_upper, upper, lower, picked, raised, keysym_of, matches_with_colon, matches_without, pair_matches, key_matches}
use Rattle.model.specs.Records.{time_of, state_of, event_of, is_bad_record, record_read}
use Rattle.model.specs.Selection.{ends_in, smallest, left_for, hears, hears_all}
use Rattle.model.specs.Matching.{meets, follows, reads_as_prefix, is_whole_sequence, has_type}
use Rattle.model.specs.Canonical.{joined_by}
use Rattle.model.specs.Demand.{heard, heard_all, named, named_from}
use Rattle.model.specs.Examples.{AllAnswered, answer, call, one_key, no_modifiers, table_p, double_press, events_in_one, starred}

pub starred_answered : AllAnswered starred
unfolding is_allowed first_bad_byte is_blank is_digit is_letter belongs run_end skip line_end line_at is_blank_line directive_of directive_at modifier_entries modifier_named protocol_entries synonym_entries abbreviation_entries type_entries type_named digit_value digits_from number_in keysym_entries keysym_names latin1_entries key_detail button_entries motion_entries mode_entries request_entries small_number name_or_number detail_named keysym_from name_from modifier_name_at modifier_from modifier_at modifiers_from lead_colon lead_from lead_at list_of type_from type_run type_name type_at count_close count_plus count_run count_digits count_from count_at plain_event_at marked_key key_at keys_from key_sequence_at events_from events_at after_event_from after_event_at left_from left_side parameter_end quoted_from unquoted_from parameter_from parameter_at parameters_from parameters_past parameters_at call_name_from call_from call_at calls_from right_side mask lists_set lists_clear asks_set asks_clear set_mask clear_mask keeps_clause state_meets no_state_meets release_press press_release elements_at elements_of expanded sequence quick detail_of kept_detail is_impossible kept_clear kept_event event_number names_mask with_keysym keysyms_from keysyms_of is_crowded has_names is_bad_map row_of names_of keycode_holds has_bit is_unmet resolves_set resolves_clear asks_bit_set asks_bit_clear no_modifiers judged_written judged production_passes totals_pass passes_limit line_read judged_all line_outcome lines_from lines_of compiled asked test_met is_lower is_upper upper lower picked raised keysym_of matches_with_colon matches_without pair_matches key_matches time_of state_of event_of is_bad_record record_read ends_in smallest left_for hears hears_all meets follows reads_as_prefix is_whole_sequence has_type joined_by heard heard_all named named_from answer call one_key table_p double_press events_in_one starred
starred_answered = refl
