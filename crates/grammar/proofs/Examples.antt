-- The lines of specs/Examples, by computing what is read of each.
use Prim.Native.Nat.{ℕ}
use Prim.Native.String.{String}
use mathlib.Core.Path.{◌≡◌, refl, sym, ap, ◌∙◌}
use mathlib.Core.Bool.{Bool, true, false, not, ◌&&◌, false≢true}
use mathlib.Core.List.{List, [], ◌∷◌}
use Rattle.model.specs.Lists.{bytes, all}
use Rattle.model.specs.Bytes.{is_blank, is_digit, is_letter, belongs, run_end, skip}
use Rattle.model.specs.Events.{keysym_from, name_from, modifier_name_at, modifier_from, modifier_at, modifiers_from, lead_colon, lead_from, lead_at, list_of, type_from, type_run, type_name, type_at, count_close, count_plus, count_run, count_digits, count_from, count_at, plain_event_at, marked_key, key_at, keys_from, key_sequence_at, events_from, events_at, after_event_from, after_event_at, left_from, left_side}
use Rattle.model.specs.Calls.{parameter_end, quoted_from, unquoted_from, parameter_from, parameter_at, parameters_from, parameters_past, parameters_at, call_name_from, call_from, call_at, calls_from, right_side}
use Rattle.model.specs.Compiling.{LineRead, line_read}
use Rattle.grammar.specs.Bytes.{line_byte}
use Rattle.grammar.specs.Examples.{Derivable, Every, derivable, underivable, example_line, example_events, example_calls, Examples}
use Rattle.grammar.proofs.Places.{and_left, and_right}
use Rattle.grammar.proofs.Productions.{LineView, line_sound, line_complete}
use Rattle.grammar.proofs.Exact.{production_of_lem}

abbrev is_production : LineRead → Bool
is_production LineRead.broken = false
is_production (LineRead.production es cs) = true

abbrev is_read : List ℕ → Bool
is_read l = all line_byte l && is_production (line_read l)

abbrev all_read : List String → Bool
all_read [] = true
all_read (s ∷ ss) = is_read (bytes s) && all_read ss

abbrev none_read : List String → Bool
none_read [] = true
none_read (s ∷ ss) = not (is_production (line_read (bytes s))) && none_read ss

derived_line : {l : List ℕ} {x : LineRead} → LineView l x → is_production x ≡ true → Derivable l
derived_line LineView.broken e = absurd (false≢true e)
derived_line (LineView.production {es = es} {cs = cs} d) e = (es, cs, d)

read_derivable : (l : List ℕ) → is_read l ≡ true → Derivable l
read_derivable l e =
    derived_line (line_sound l (and_left (all line_byte l) (is_production (line_read l)) e)) (and_right (all line_byte l) (is_production (line_read l)) e)

unread_underivable : (l : List ℕ) → not (is_production (line_read l)) ≡ true → Derivable l → ⊥
unread_underivable l e d =
    let i : not (is_production (line_read l)) ≡ false = ap (λ x. not (is_production x)) (line_complete l d.2) in
    false≢true (sym i ∙ e)

every_read : (ss : List String) → all_read ss ≡ true → Every Derivable ss
every_read [] e = tt
every_read (s ∷ ss) e =
    (read_derivable (bytes s) (and_left (is_read (bytes s)) (all_read ss) e), every_read ss (and_right (is_read (bytes s)) (all_read ss) e))

every_unread : (ss : List String) → none_read ss ≡ true → Every (λ l. Derivable l → ⊥) ss
every_unread [] e = tt
every_unread (s ∷ ss) e = (
  unread_underivable (bytes s) (and_left (not (is_production (line_read (bytes s)))) (none_read ss) e),
  every_unread ss (and_right (not (is_production (line_read (bytes s)))) (none_read ss) e),
)

derivable_read : all_read derivable ≡ true
unfolding derivable is_blank is_digit is_letter belongs run_end skip keysym_from name_from modifier_name_at modifier_from modifier_at modifiers_from lead_colon lead_from lead_at list_of type_from type_run type_name type_at count_close count_plus count_run count_digits count_from count_at plain_event_at marked_key key_at keys_from key_sequence_at events_from events_at after_event_from after_event_at left_from left_side parameter_end quoted_from unquoted_from parameter_from parameter_at parameters_from parameters_past parameters_at call_name_from call_from call_at calls_from right_side line_read
derivable_read = refl

underivable_unread : none_read underivable ≡ true
unfolding underivable is_blank is_digit is_letter belongs run_end skip keysym_from name_from modifier_name_at modifier_from modifier_at modifiers_from lead_colon lead_from lead_at list_of type_from type_run type_name type_at count_close count_plus count_run count_digits count_from count_at plain_event_at marked_key key_at keys_from key_sequence_at events_from events_at after_event_from after_event_at left_from left_side parameter_end quoted_from unquoted_from parameter_from parameter_at parameters_from parameters_past parameters_at call_name_from call_from call_at calls_from right_side line_read
underivable_unread = refl

example_clean : all line_byte example_line ≡ true
unfolding example_line
example_clean = refl

example_read : line_read example_line ≡ LineRead.production example_events example_calls
unfolding example_line is_blank is_digit is_letter belongs run_end skip keysym_from name_from modifier_name_at modifier_from modifier_at modifiers_from lead_colon lead_from lead_at list_of type_from type_run type_name type_at count_close count_plus count_run count_digits count_from count_at plain_event_at marked_key key_at keys_from key_sequence_at events_from events_at after_event_from after_event_at left_from left_side parameter_end quoted_from unquoted_from parameter_from parameter_at parameters_from parameters_past parameters_at call_name_from call_from call_at calls_from right_side line_read
example_read = refl

pub examples : Examples
examples =
    record {
      derived = every_read derivable derivable_read;
      underived = every_unread underivable underivable_unread;
      worked = production_of_lem example_line example_events example_calls (line_read example_line) (line_sound example_line example_clean) example_read;
    }
