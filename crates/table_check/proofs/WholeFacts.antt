-- What a whole table says of what is read from it: the bounds that its readers ask for.
use Prim.Native.Nat.{ℕ, ◌+◌, ◌≤◌, ◌<◌}
use mathlib.Core.Path.{◌≡◌}
use mathlib.Core.List.{List}
use mathlib.Core.Bool.{true, cond}
use lib.ListN.{length, get_or}
use borrow.Author.Tests.{leb-true}
use Rattle.words.specs.Words.{word_at}
use Rattle.words.proofs.RunLaws.{every_at}
use Rattle.model.specs.Counts.{sequence}
use Rattle.tables.specs.Layout.{table_length, marks_at}
use Rattle.tables.specs.Reading.{first_length_in, second_length_in, production_total, event_total, call_total, parameter_total, parameter_entry, mark_entry, name_entry, call_parameters, first_parameter, production_events, production_calls, first_event, first_call, production_entry, event_entry}
use Rattle.tables.specs.Fitting.{event_in_range}
use Rattle.tables.specs.Whole.{whole}
use Rattle.span_check.specs.Spans.{length_of_text, parameter_ok, parameters_ok}
use Rattle.table_check.proofs.CheckFacts.{CheckFacts, events_within_lem, calls_within_lem, parameters_within_lem}
use Rattle.table_check.proofs.Exact.{whole_facts}
use Rattle.table_check.proofs.Decoded as decoded

-- the length of the text that call i came from
abbrev pub text_length_at : List ℕ → ℕ → ℕ
text_length_at l i = cond (mark_entry l i) (second_length_in l) (first_length_in l)

pub record WholeFacts (l : List ℕ) : Type 0 where
  pub long : table_length ≤ length l
  pub first : first_length_in l ≤ 8192
  pub second : second_length_in l ≤ 8192
  pub productions : production_total l ≤ 64
  pub events : event_total l ≤ 256
  pub calls : call_total l ≤ 128
  pub parameters : parameter_total l ≤ 256
  -- a production's events and calls, and a call's parameters, are among all
  pub events_within : (p : ℕ) → p < production_total l → first_event l p + production_events l p ≤ event_total l
  pub calls_within : (p : ℕ) → p < production_total l → first_call l p + production_calls l p ≤ call_total l
  pub parameters_within : (i : ℕ) → i < call_total l → first_parameter l i + call_parameters l i ≤ parameter_total l
  pub some_event : (p : ℕ) → p < production_total l → 1 ≤ production_events l p
  pub few_calls : (p : ℕ) → p < production_total l → production_calls l p ≤ 8
  pub few_parameters : (i : ℕ) → i < call_total l → call_parameters l i ≤ 8
  -- names and parameters are parts of their texts
  pub name_within : (i : ℕ) → i < call_total l → (name_entry l i).start + (name_entry l i).len ≤ text_length_at l i
  pub parameter_within : (i k : ℕ) → i < call_total l → k < call_parameters l i
      → (parameter_entry l (first_parameter l i + k)).start + (parameter_entry l (first_parameter l i + k)).len ≤ text_length_at l i

pub facts_of_whole : (l : List ℕ) → whole l ≡ true → WholeFacts l
unfolding first_length_in second_length_in production_total event_total call_total parameter_total parameter_entry mark_entry name_entry call_parameters first_parameter production_events production_calls first_event first_call length_of_text parameter_ok parameters_ok
facts_of_whole l e =
    let f : CheckFacts l = whole_facts l e in
    record {
      long = f.long;
      first = f.header.first;
      second = f.header.second;
      productions = f.header.productions;
      events = f.header.events;
      calls = f.header.calls;
      parameters = f.header.parameters;
      events_within = events_within_lem l f.sums;
      calls_within = calls_within_lem l f.sums;
      parameters_within = parameters_within_lem l f.sums;
      some_event = λ p h. (f.productions p h).events;
      few_calls = λ p h. (f.productions p h).calls;
      few_parameters = λ i h. (f.calls i h).parameters;
      name_within = λ i h. (f.calls i h).name;
      parameter_within = λ i k h q.
          leb-true
          ((parameter_entry l (first_parameter l i + k)).start + (parameter_entry l (first_parameter l i + k)).len)
          (text_length_at l i)
          (every_at (parameter_ok l (length_of_text (word_at l (marks_at + i)) (word_at l 2) (word_at l 3))) (first_parameter l i) (call_parameters l i) k (f.parameters i h) q);
    }

module _ (l : List ℕ) (bytes : (i : ℕ) → get_or l i 0 < 256) (ok : whole l ≡ true) where
  -- each production that is read stands for at most 24 events
  pub production_size : (p : ℕ) → p < production_total l → length (sequence (production_entry l p)) ≤ 24
  unfolding production_total
  production_size p h = decoded.production_size l bytes (whole_facts l ok) p h

  -- each event that is read is in range
  pub event_range : (i : ℕ) → i < event_total l → event_in_range (event_entry l i) ≡ true
  unfolding event_total
  event_range i h = decoded.event_range l bytes (whole_facts l ok) i h
