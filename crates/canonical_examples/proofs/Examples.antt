-- The examples come out byte for byte, by computation.
use mathlib.Core.Path.{◌≡◌, refl}
use mathlib.Core.Bool.{true}
use Rattle.model.specs.Lists.{is_before}
use Rattle.model.specs.Bytes.{is_allowed, first_bad_byte, is_blank, is_digit, is_letter, belongs, run_end, skip}
use Rattle.model.specs.Lines.{line_end, line_at, is_blank_line, directive_of, directive_at}
use Rattle.model.specs.Names.{names_with, modifier_entries, modifier_named, protocol_entries, synonym_entries, abbreviation_entries, type_entries, type_named}
use Rattle.model.specs.Latin1.{latin1_entries}
use Rattle.model.specs.Details.{digit_value, digits_from, number_in, keysym_entries, keysym_names, key_detail, button_entries, motion_entries, mode_entries, request_entries, small_number, name_or_number, detail_named}
use Rattle.model.specs.Events.{keysym_from, name_from, modifier_name_at, modifier_from, modifier_at, modifiers_from, lead_colon, lead_from, lead_at, list_of, type_from, type_run, type_name, type_at, count_close, count_plus, count_run, count_digits, count_from, count_at, plain_event_at, marked_key, key_at, keys_from, key_sequence_at, events_from, events_at, after_event_from, after_event_at, left_from, left_side}
use Rattle.model.specs.Calls.{parameter_end, quoted_from, unquoted_from, parameter_from, parameter_at, parameters_from, parameters_past, parameters_at, call_name_from, call_from, call_at, calls_from, right_side}
use Rattle.model.specs.Modifiers.{mask, lists_set, lists_clear, asks_set, asks_clear, set_mask, clear_mask, keeps_clause, no_state_meets}
use Rattle.model.specs.Named.{names_mask, with_keysym, keysyms_from, keysyms_of, is_crowded, has_names}
use Rattle.model.specs.Counts.{release_press, press_release, elements_at, elements_of, expanded, sequence}
use Rattle.model.specs.Judging.{detail_of, kept_detail, is_impossible, kept_clear, kept_event, event_number, judged_written, judged}
use Rattle.model.specs.Compiling.{production_passes, totals_pass, passes_limit, line_read, judged_all, line_outcome, lines_from, lines_of, compiled}
use Rattle.model.specs.Canonical.{joined_by, digits_in, hexadecimal, decimal, bit_name, asks_every, writes_bang, bit_texts, long_name, names_texts, list_text, modifiers_text, type_text, first_in_order, keysym_text, value_text, count_text, event_text, parameter_text, call_text, production_text, productions_text, canonical_text}
use Rattle.canonical_examples.specs.Examples.{written_examples, all_come}

pub examples_come : all_come ≡ true
unfolding names_mask with_keysym keysyms_from keysyms_of is_crowded has_names is_impossible kept_clear asks_every bit_texts long_name names_texts list_text is_allowed first_bad_byte is_blank is_digit is_letter belongs run_end skip line_end line_at is_blank_line directive_of directive_at modifier_entries modifier_named protocol_entries synonym_entries abbreviation_entries type_entries type_named digit_value digits_from number_in keysym_entries keysym_names latin1_entries key_detail button_entries motion_entries mode_entries request_entries small_number name_or_number detail_named keysym_from name_from modifier_name_at modifier_from modifier_at modifiers_from lead_colon lead_from lead_at list_of type_from type_run type_name type_at count_close count_plus count_run count_digits count_from count_at plain_event_at marked_key key_at keys_from key_sequence_at events_from events_at after_event_from after_event_at left_from left_side parameter_end quoted_from unquoted_from parameter_from parameter_at parameters_from parameters_past parameters_at call_name_from call_from call_at calls_from right_side mask lists_set lists_clear asks_set asks_clear set_mask clear_mask keeps_clause no_state_meets release_press press_release elements_at elements_of expanded sequence detail_of kept_detail kept_event event_number judged_written judged production_passes totals_pass passes_limit line_read judged_all line_outcome lines_from lines_of compiled joined_by digits_in hexadecimal decimal bit_name writes_bang modifiers_text type_text is_before names_with first_in_order keysym_text value_text count_text event_text parameter_text call_text production_text productions_text canonical_text written_examples
examples_come = refl
