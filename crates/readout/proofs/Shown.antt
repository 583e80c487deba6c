-- The calls that document 01 writes out are read as it says: the texts compile by computation.
use Prim.Native.Nat.{ℕ, zero, suc}
use native.Mathlib.Omega.{arith}
use mathlib.Core.Path.{◌≡◌, refl, sym, ap, ◌∙◌}
use mathlib.Core.List.{List, [], ◌∷◌, ◌++◌, map}
use mathlib.Core.Bool.{false}
use Rattle.std.specs.Prelude.{Option, None, Some}
use lib.ListN.{length, get_or, take, drop}
use Rattle.model.specs.Tables.{Call, Production, Table}
use Rattle.model.specs.Asking.{at, asked_production, call_in, asked_call, name_asked, parameters_asked, span_of, parameter_of, parameter_count, located_name, located_parameter}
use Rattle.model.specs.Compiling.{call_of, Outcome, accepted, refused}
use Rattle.model.specs.declared.scan.Span.{Span}
use Rattle.model.specs.declared.answers.Counted.{Counted}
use Rattle.tables.specs.Layout.{encode}
use Rattle.calls.specs.Answers.{parameters_answer}
use Rattle.calls.specs.Parts.{part_of, name_part, parameter_part}
use Rattle.roundtrip.specs.RoundTrip.{CameFrom}
use Rattle.readout.specs.Examples.{ReadExample, read_examples, Shown, AllShown}
use Rattle.readout.proofs.Elements.{none_some, same_some, at_mapped}
use Rattle.readout.proofs.Reader.{ReadsTable}
use Rattle.readout.proofs.Lines as lines
use Rattle.readout.proofs.ReadOut.{reads_fitting}
use Rattle.model.specs.Bytes.{is_allowed, first_bad_byte, is_blank, is_digit, is_letter, belongs, run_end, skip}
use Rattle.model.specs.Lines.{line_end, line_at, is_blank_line, directive_of, directive_at}
use Rattle.model.specs.Names.{modifier_entries, modifier_named, protocol_entries, synonym_entries, abbreviation_entries, type_entries, type_named}
use Rattle.model.specs.Latin1.{latin1_entries}
use Rattle.model.specs.Details.{digit_value, digits_from, number_in, keysym_entries, keysym_names, key_detail, button_entries, motion_entries, mode_entries, request_entries, small_number, name_or_number, detail_named}
use Rattle.model.specs.Events.{keysym_from, name_from, modifier_name_at, modifier_from, modifier_at, modifiers_from, lead_colon, lead_from, lead_at, list_of, type_from, type_run, type_name, type_at, count_close, count_plus, count_run, count_digits, count_from, count_at, plain_event_at, marked_key, key_at, keys_from, key_sequence_at, events_from, events_at, after_event_from, after_event_at, left_from, left_side}
use Rattle.model.specs.Calls.{parameter_end, quoted_from, unquoted_from, parameter_from, parameter_at, parameters_from, parameters_past, parameters_at, call_name_from, call_from, call_at, calls_from, right_side}
use Rattle.model.specs.Modifiers.{mask, lists_set, lists_clear, asks_set, asks_clear, set_mask, clear_mask, keeps_clause, state_meets, no_state_meets}
use Rattle.model.specs.Counts.{release_press, press_release, elements_at, elements_of, expanded, sequence}
use Rattle.model.specs.Named.{keysyms_from, keysyms_of, is_crowded}
use Rattle.model.specs.Judging.{detail_of, kept_detail, is_impossible, kept_event, event_number, judged_written, judged}
use Rattle.model.specs.Compiling.{production_passes, totals_pass, passes_limit, line_read, judged_all, line_outcome, lines_from, lines_of, compiled}

-- ---- What a text's first call holds

-- the bytes of a part
abbrev bytes_in : List ℕ → Span → List ℕ
bytes_in text s = take s.len (drop s.start text)

abbrev example_of : List ℕ → Call → ReadExample
example_of text c = record { text = text; name = bytes_in text c.name; parameters = map (bytes_in text) c.parameters }

abbrev of_call : List ℕ → Option Call → Option ReadExample
of_call text None = None
of_call text (Some c) = Some (example_of text c)

abbrev of_outcome : List ℕ → Outcome → Option ReadExample
of_outcome text (refused n place) = None
of_outcome text (accepted t) = of_call text (asked_call t 0 0)

abbrev written : ReadExample → Option ReadExample
written x = of_outcome x.text (compiled x.text)

-- every text of the table, compiled
computed : map written read_examples ≡ map (λ (x : ReadExample). Some x) read_examples
unfolding is_allowed first_bad_byte is_blank is_digit is_letter belongs run_end skip line_end line_at is_blank_line directive_of directive_at modifier_entries modifier_named protocol_entries synonym_entries abbreviation_entries type_entries type_named digit_value digits_from number_in keysym_entries keysym_names latin1_entries key_detail button_entries motion_entries mode_entries request_entries small_number name_or_number detail_named keysym_from name_from modifier_name_at modifier_from modifier_at modifiers_from lead_colon lead_from lead_at list_of type_from type_run type_name type_at count_close count_plus count_run count_digits count_from count_at plain_event_at marked_key key_at keys_from key_sequence_at events_from events_at after_event_from after_event_at left_from left_side parameter_end quoted_from unquoted_from parameter_from parameter_at parameters_from parameters_past parameters_at call_name_from call_from call_at calls_from right_side mask lists_set lists_clear asks_set asks_clear set_mask clear_mask keeps_clause state_meets no_state_meets release_press press_release elements_at elements_of expanded sequence detail_of kept_detail is_impossible kept_event event_number judged_written judged production_passes totals_pass passes_limit line_read judged_all line_outcome lines_from lines_of compiled read_examples asked_call asked_production keysyms_from keysyms_of is_crowded
computed = refl

-- ---- A text whose first call is as the example says is read so

part_at : (text second : List ℕ) (ss : List Span) (k : ℕ) → part_of text second (span_of false (at ss k)) ≡ get_or (map (bytes_in text) ss) k []
unfolding part_of
part_at text second [] k = refl
part_at text second (s ∷ ss) zero = refl
part_at text second (s ∷ ss) (suc k) = part_at text second ss k

length_parts : (text : List ℕ) (ss : List Span) → length (map (bytes_in text) ss) ≡ length ss
length_parts text [] = refl
length_parts text (s ∷ ss) = ap suc (length_parts text ss)

-- a call of the table of a text is marked as the first text's
first_mark : (text : List ℕ) (t : Table) → compiled text ≡ accepted t → (c : Call) → (o : Option Production) → at t.productions 0 ≡ o → call_in o 0 ≡ Some c
    → c.second ≡ false
first_mark text t e c None q f = absurd (none_some f)
first_mark text t e c (Some p) q f =
    let w : lines.Written text 0 p = lines.written text t e 0 p q in
    let x = at_mapped (call_of w.line.start) w.line.calls 0 c (rw w.calls at f) in
    ap (λ (y : Call). y.second) x.2

module _ (text : List ℕ) (t : Table) (e : compiled text ≡ accepted t) (c : Call) (asked : asked_call t 0 0 ≡ Some c) where
  reads : (rest second : List ℕ) → ReadsTable t (encode t ++ rest) text second
  reads rest second = reads_fitting t text second (CameFrom.compiling e) rest text second (omega arith) (omega arith)

  mark : c.second ≡ false
  unfolding asked_call asked_production
  mark = first_mark text t e c (at t.productions 0) refl asked

  name_shown : (rest second : List ℕ) → name_part (encode t ++ rest) text second 0 0 ≡ bytes_in text c.name
  unfolding located_name part_of
  name_shown rest second = ap (part_of text second) ((reads rest second).name 0 0 ∙ ap name_asked asked) ∙ rw mark

  count_shown : (rest : List ℕ) → parameters_answer (encode t ++ rest) 0 0 ≡ Counted.Accepted (length c.parameters)
  unfolding parameter_count
  count_shown rest = (reads rest []).parameters 0 0 ∙ ap parameters_asked asked

  parameter_shown : (rest second : List ℕ) (k : ℕ) → parameter_part (encode t ++ rest) text second 0 0 k ≡ get_or (map (bytes_in text) c.parameters) k []
  unfolding located_parameter
  parameter_shown rest second k =
      ap (part_of text second) ((reads rest second).parameter 0 0 k ∙ ap (λ (o : Option Call). parameter_of o k) asked)
      ∙ rw mark
      (part_at text second c.parameters k)

  call_shown : Shown (example_of text c) t
  call_shown =
      record {
        compiles = e;
        name = name_shown;
        count = λ rest. count_shown rest ∙ ap Counted.Accepted (sym (length_parts text c.parameters));
        parameter = parameter_shown;
      }

heads : {x y : Option ReadExample} {xs ys : List (Option ReadExample)} → ◌≡◌ {A = List (Option ReadExample)} (x ∷ xs) (y ∷ ys) → x ≡ y
heads e = cc

tails : {x y : Option ReadExample} {xs ys : List (Option ReadExample)} → ◌≡◌ {A = List (Option ReadExample)} (x ∷ xs) (y ∷ ys) → xs ≡ ys
tails e = cc

shown_call : (x : ReadExample) (t : Table) (o : Option Call) → compiled x.text ≡ accepted t → asked_call t 0 0 ≡ o → of_call x.text o ≡ Some x → Shown x t
shown_call x t None e a q = absurd (none_some q)
shown_call x t (Some c) e a q = rw (same_some q) at (call_shown x.text t e c a)

shown_outcome : (x : ReadExample) (o : Outcome) → compiled x.text ≡ o → of_outcome x.text o ≡ Some x → (t : Table) × Shown x t
shown_outcome x (refused n place) e q = absurd (none_some q)
shown_outcome x (accepted t) e q = (t, shown_call x t (asked_call t 0 0) e refl q)

all_shown : (xs : List ReadExample) → map written xs ≡ map (λ (x : ReadExample). Some x) xs → AllShown xs
all_shown [] e = tt
all_shown (x ∷ xs) e = (shown_outcome x (compiled x.text) refl (heads e), all_shown xs (tails e))

-- every line of the table
pub examples_shown : AllShown read_examples
examples_shown = all_shown read_examples computed
