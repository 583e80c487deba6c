-- A table within limits and ranges, as bytes, reads as itself.
use Prim.Native.Nat.{ℕ, zero, suc, ◌+◌, ◌%◌, ◌/◌, ◌≤◌, ◌<◌}
use native.Mathlib.Omega.{arith}
use native.Mathlib.Nat.{zero-add}
use mathlib.Core.Path.{◌≡◌, refl, sym, ap, ◌∙◌}
use mathlib.Core.List.{List, [], ◌++◌, map}
use mathlib.Core.Bool.{Bool, true, false, not}
use lib.Dec.{leb, eqb}
use lib.ListN.{length, get_or, length-map, get_or-map}
use borrow.Author.Tests.{leb-true, not-true}
use Rattle.words.specs.Words.{word_at, zeros}
use Rattle.words.specs.Runs.{total}
use Rattle.words.proofs.RunLaws.{run_list, total_same}
use Rattle.model.specs.Counts.{sequence}
use Rattle.model.specs.Compiling.{production_passes}
use Rattle.model.specs.Tables.{Call, Production, Table}
use Rattle.model.specs.Named.{no_keysyms}
use Rattle.model.specs.declared.scan.Span.{Span}
use Rattle.model.specs.declared.events.Detail.{Detail}
use Rattle.model.specs.declared.events.KeptEvent.{KeptEvent}
use Rattle.model.specs.declared.events.Directive.{Directive}
use Rattle.tables.specs.Layout.{columns, for_each, event_fields, call_fields, parameter_fields, flag, is_given, value_of, flags_word, low_word, high_word, mark_word, directive_word, all_events, all_calls, all_parameters, header_of, entries_of, sections_of, offset, capacities, encode}
use Rattle.tables.specs.Layout.{production_events_at, production_calls_at, codes_at, counts_at, sets_at, clears_at, flags_at, lows_at, highs_at, first_lows_at, first_highs_at, second_lows_at, second_highs_at, third_lows_at, third_highs_at, fourth_lows_at, fourth_highs_at, marks_at, name_starts_at, name_lengths_at, call_parameters_at, parameter_starts_at, parameter_lengths_at}
use Rattle.tables.specs.Reading.{directive_from_word, directive_in, merged_in, first_length_in, second_length_in, production_total, parameter_entry, mark_entry, name_entry, call_parameters, first_parameter, call_entry, keysyms_entry, event_entry, production_events, production_calls, first_event, first_call, production_entry, decode}
use Rattle.tables.specs.Fitting.{event_in_range, fitting}
use Rattle.tables.proofs.Lists.{each_get_d, nested}
use Rattle.tables.proofs.EventWords.{flag_le, RangeFacts, range_facts, KeysymFacts, keysym_facts, keysym_below, flags_below, keysyms_back, event_back}
use Rattle.tables.proofs.Sizes.{length_expanded, length_le_size}
use Rattle.tables.proofs.Facts.{FitFacts, fit_facts, TextFacts, text_facts, short_span, short_spans, short_names, short_facts, ProductionFacts, production_facts, LimitFacts, limit_facts, events_in_all_lem, calls_in_all_lem, parameters_in_all_lem, few_parameters_lem}
use Rattle.tables.proofs.Columns.{spread, reach}
use Rattle.tables.proofs.Images.{Room, section_word, row_words, before_events, before_calls, before_parameters, events_there, calls_there, parameters_there, events_start, calls_start_lem, parameters_start}

-- ---- What stands at an unused place

abbrev pub no_event : KeptEvent
no_event =
    record {
      code = 0;
      set = 0;
      clear = 0;
      colon = false;
      clause = false;
      detail = Detail.Unspecified;
      count = 0;
      bang = false;
      names = 0;
      keysyms = no_keysyms;
    }

abbrev pub no_span : Span
no_span = record { start = 0; len = 0 }

abbrev pub no_call : Call
no_call = record { second = false; name = no_span; parameters = [] }

abbrev pub no_production : Production
no_production = record { events = []; calls = [] }

-- ---- Fields fit a word

pub record EventSmall (e : KeptEvent) : Type 0 where
  pub code : e.code < 256
  pub count : e.count < 256
  pub set : e.set < 8192
  pub clear : e.clear < 8192
  pub value : value_of e.detail ≤ 0x1FFFFFFF
  pub names : e.names < 256
  pub first : e.keysyms.first < 0x80000000
  pub second : e.keysyms.second < 0x80000000
  pub third : e.keysyms.third < 0x80000000
  pub fourth : e.keysyms.fourth < 0x80000000

none_small : EventSmall no_event
none_small =
    record {
      code = omega arith;
      count = omega arith;
      set = omega arith;
      clear = omega arith;
      value = omega arith;
      names = omega arith;
      first = omega arith;
      second = omega arith;
      third = omega arith;
      fourth = omega arith;
    }

pub event_small : (e : KeptEvent) → event_in_range e ≡ true → EventSmall e
event_small e h =
    let r : RangeFacts e = range_facts e h in
    let k : KeysymFacts e.keysyms = keysym_facts e.keysyms r.keysyms in
    record {
      code = omega arith;
      count = omega arith;
      set = r.set_below;
      clear = r.clear_below;
      value = r.detail;
      names = r.names_below;
      first = keysym_below e.keysyms.first k.first;
      second = keysym_below e.keysyms.second k.second;
      third = keysym_below e.keysyms.third k.third;
      fourth = keysym_below e.keysyms.fourth k.fourth;
    }

-- each field of an event
fields_small : (e : KeptEvent) → EventSmall e → (k : ℕ) → get_or (map (λ (f : KeptEvent → ℕ). f e) event_fields) k 0 < 65536
fields_small e s zero = let b = s.code in omega arith
fields_small e s (suc zero) = let b = s.count in omega arith
fields_small e s (suc (suc zero)) = let b = s.set in omega arith
fields_small e s (suc (suc (suc zero))) = let b = s.clear in omega arith
fields_small e s (suc (suc (suc (suc zero)))) = let b = flags_below e.colon e.clause (is_given e.detail) e.bang in let n = s.names in omega arith
fields_small e s (suc (suc (suc (suc (suc zero))))) = omega arith
fields_small e s (suc (suc (suc (suc (suc (suc zero)))))) = let b = s.value in omega arith
fields_small e s (suc (suc (suc (suc (suc (suc (suc zero))))))) = omega arith
fields_small e s (suc (suc (suc (suc (suc (suc (suc (suc zero)))))))) = let b = s.first in omega arith
fields_small e s (suc (suc (suc (suc (suc (suc (suc (suc (suc zero))))))))) = omega arith
fields_small e s (suc (suc (suc (suc (suc (suc (suc (suc (suc (suc zero)))))))))) = let b = s.second in omega arith
fields_small e s (suc (suc (suc (suc (suc (suc (suc (suc (suc (suc (suc zero))))))))))) = omega arith
fields_small e s (suc (suc (suc (suc (suc (suc (suc (suc (suc (suc (suc (suc zero)))))))))))) = let b = s.third in omega arith
fields_small e s (suc (suc (suc (suc (suc (suc (suc (suc (suc (suc (suc (suc (suc zero))))))))))))) = omega arith
fields_small e s (suc (suc (suc (suc (suc (suc (suc (suc (suc (suc (suc (suc (suc (suc zero)))))))))))))) = let b = s.fourth in omega arith
fields_small e s (suc (suc (suc (suc (suc (suc (suc (suc (suc (suc (suc (suc (suc (suc (suc k))))))))))))))) = omega arith

directive_small : (d : Directive) → directive_word d ≤ 2
directive_small Directive.Replace = omega arith
directive_small Directive.Override = omega arith
directive_small Directive.Augment = omega arith

directive_back : (d : Directive) → directive_from_word (directive_word d) ≡ d
directive_back Directive.Replace = refl
directive_back Directive.Override = refl
directive_back Directive.Augment = refl

mark_back : (b : Bool) → eqb (flag 1 b) 1 ≡ b
mark_back true = refl
mark_back false = refl

few_events : (p : Production) → ProductionFacts p → length p.events ≤ 24
unfolding sequence
few_events p r = omega (arith, r.size, length_expanded p.events, length_le_size p.events)

module _ (t : Table) (fit : fitting t ≡ true) (rest : List ℕ) where
  abbrev ps : List Production
  ps = t.productions

  abbrev es : List KeptEvent
  es = all_events t.productions

  abbrev cs : List Call
  cs = all_calls t.productions

  abbrev rs : List Span
  rs = all_parameters (all_calls t.productions)

  abbrev l : List ℕ
  l = encode t ++ rest

  pub fits : FitFacts t
  fits = fit_facts t fit

  pub texts : TextFacts t
  texts = text_facts t fits.texts

  pub limits : LimitFacts ps
  limits = limit_facts ps fits.limit

  pub room : Room (entries_of t)
  unfolding entries_of header_of
  room =
      record {
        header = omega arith;
        production_events = omega (arith, length-map ps (λ (p : Production). length p.events), limits.productions);
        production_calls = omega (arith, length-map ps (λ (p : Production). length p.calls), limits.productions);
        events = events_in_all_lem ps limits;
        calls = calls_in_all_lem ps limits;
        parameters = parameters_in_all_lem ps limits;
      }

  word : (j i : ℕ) → i < get_or capacities j 0 → get_or (get_or (sections_of (entries_of t)) j []) i 0 < 65536
      → word_at l (offset capacities j + i) ≡ get_or (get_or (sections_of (entries_of t)) j []) i 0
  unfolding encode
  word j i h b = section_word (entries_of t) rest room j i h b

  -- ---- Events

  small : (i : ℕ) → EventSmall (get_or es i no_event)
  small i = each_get_d EventSmall event_in_range es no_event none_small event_small fits.events i

  event_fields_lem : (i k : ℕ) → get_or (map (λ (f : KeptEvent → ℕ). f (get_or es i no_event)) event_fields) k 0 < 65536
  event_fields_lem i = fields_small (get_or es i no_event) (small i)

  -- the words of event i
  pub event_words : (i : ℕ) → i < 256
      → spread (word_at l) 256 (length event_fields) codes_at i ≡ map (λ (f : KeptEvent → ℕ). f (get_or es i no_event)) event_fields
  unfolding encode entries_of zeros reach
  event_words i h =
      row_words (entries_of t) rest room event_fields 256 es (for_each call_fields 128 ++ for_each parameter_fields 256) (columns call_fields cs ++ columns parameter_fields rs) (before_events (entries_of t)) codes_at (events_there (entries_of t)) (events_start (entries_of t) room) (omega arith) no_event i room.events h refl (event_fields_lem i)

  pub code_word_lem : (i : ℕ) → i < 256 → word_at l (codes_at + i) ≡ (get_or es i no_event).code
  unfolding spread
  code_word_lem i h = ap (λ (ws : List ℕ). get_or ws 0 0) (event_words i h)

  pub count_word : (i : ℕ) → i < 256 → word_at l (counts_at + i) ≡ (get_or es i no_event).count
  unfolding spread
  count_word i h = ap (λ (ws : List ℕ). get_or ws 1 0) (event_words i h)

  pub set_word : (i : ℕ) → i < 256 → word_at l (sets_at + i) ≡ (get_or es i no_event).set
  unfolding spread
  set_word i h = ap (λ (ws : List ℕ). get_or ws 2 0) (event_words i h)

  pub clear_word : (i : ℕ) → i < 256 → word_at l (clears_at + i) ≡ (get_or es i no_event).clear
  unfolding spread
  clear_word i h = ap (λ (ws : List ℕ). get_or ws 3 0) (event_words i h)

  pub flags_word_lem : (i : ℕ) → i < 256 → word_at l (flags_at + i) ≡ flags_word (get_or es i no_event)
  unfolding spread
  flags_word_lem i h = ap (λ (ws : List ℕ). get_or ws 4 0) (event_words i h)

  pub low_word_lem : (i : ℕ) → i < 256 → word_at l (lows_at + i) ≡ low_word (get_or es i no_event)
  unfolding spread
  low_word_lem i h = ap (λ (ws : List ℕ). get_or ws 5 0) (event_words i h)

  pub high_word_lem : (i : ℕ) → i < 256 → word_at l (highs_at + i) ≡ high_word (get_or es i no_event)
  unfolding spread
  high_word_lem i h = ap (λ (ws : List ℕ). get_or ws 6 0) (event_words i h)

  pub first_low_word : (i : ℕ) → i < 256 → word_at l (first_lows_at + i) ≡ (get_or es i no_event).keysyms.first % 65536
  unfolding spread
  first_low_word i h = ap (λ (ws : List ℕ). get_or ws 7 0) (event_words i h)

  pub first_high_word : (i : ℕ) → i < 256 → word_at l (first_highs_at + i) ≡ (get_or es i no_event).keysyms.first / 65536
  unfolding spread
  first_high_word i h = ap (λ (ws : List ℕ). get_or ws 8 0) (event_words i h)

  pub second_low_word : (i : ℕ) → i < 256 → word_at l (second_lows_at + i) ≡ (get_or es i no_event).keysyms.second % 65536
  unfolding spread
  second_low_word i h = ap (λ (ws : List ℕ). get_or ws 9 0) (event_words i h)

  pub second_high_word : (i : ℕ) → i < 256 → word_at l (second_highs_at + i) ≡ (get_or es i no_event).keysyms.second / 65536
  unfolding spread
  second_high_word i h = ap (λ (ws : List ℕ). get_or ws 10 0) (event_words i h)

  pub third_low_word : (i : ℕ) → i < 256 → word_at l (third_lows_at + i) ≡ (get_or es i no_event).keysyms.third % 65536
  unfolding spread
  third_low_word i h = ap (λ (ws : List ℕ). get_or ws 11 0) (event_words i h)

  pub third_high_word : (i : ℕ) → i < 256 → word_at l (third_highs_at + i) ≡ (get_or es i no_event).keysyms.third / 65536
  unfolding spread
  third_high_word i h = ap (λ (ws : List ℕ). get_or ws 12 0) (event_words i h)

  pub fourth_low_word : (i : ℕ) → i < 256 → word_at l (fourth_lows_at + i) ≡ (get_or es i no_event).keysyms.fourth % 65536
  unfolding spread
  fourth_low_word i h = ap (λ (ws : List ℕ). get_or ws 13 0) (event_words i h)

  pub fourth_high_word : (i : ℕ) → i < 256 → word_at l (fourth_highs_at + i) ≡ (get_or es i no_event).keysyms.fourth / 65536
  unfolding spread
  fourth_high_word i h = ap (λ (ws : List ℕ). get_or ws 14 0) (event_words i h)

  pub keysyms_read : (i : ℕ) → i < 256 → keysyms_entry l i ≡ (get_or es i no_event).keysyms
  unfolding keysyms_entry
  keysyms_read i h =
      rw (first_low_word i h, first_high_word i h, second_low_word i h, second_high_word i h, third_low_word i h, third_high_word i h, fourth_low_word i h, fourth_high_word i h)
      (keysyms_back (get_or es i no_event).keysyms)

  event_read : (i : ℕ) → i < 256 → event_entry l i ≡ get_or es i no_event
  unfolding event_entry
  event_read i h =
      rw (code_word_lem i h, count_word i h, set_word i h, clear_word i h, flags_word_lem i h, low_word_lem i h, high_word_lem i h, keysyms_read i h)
      (event_back (get_or es i no_event) (small i).code (small i).count (small i).names)

  -- ---- Parameters

  short_parameter : (i : ℕ) → (get_or rs i no_span).start + (get_or rs i no_span).len ≤ 8192
  short_parameter i =
      each_get_d (λ (s : Span). s.start + s.len ≤ 8192) short_span rs no_span (omega arith) short_facts (short_spans t texts cs fits.calls) i

  parameter_fields_lem : (i k : ℕ) → get_or (map (λ (f : Span → ℕ). f (get_or rs i no_span)) parameter_fields) k 0 < 65536
  parameter_fields_lem i zero = let b = short_parameter i in omega arith
  parameter_fields_lem i (suc zero) = let b = short_parameter i in omega arith
  parameter_fields_lem i (suc (suc k)) = omega arith

  pub parameter_words : (i : ℕ) → i < 256
      → spread (word_at l) 256 (length parameter_fields) parameter_starts_at i ≡ map (λ (f : Span → ℕ). f (get_or rs i no_span)) parameter_fields
  unfolding encode entries_of zeros reach
  parameter_words i h =
      row_words (entries_of t) rest room parameter_fields 256 rs [] [] (before_parameters (entries_of t)) parameter_starts_at (parameters_there (entries_of t)) (parameters_start (entries_of t) room) (omega arith) no_span i room.parameters h refl (parameter_fields_lem i)

  pub parameter_start_word : (i : ℕ) → i < 256 → word_at l (parameter_starts_at + i) ≡ (get_or rs i no_span).start
  unfolding spread
  parameter_start_word i h = ap (λ (ws : List ℕ). get_or ws 0 0) (parameter_words i h)

  pub parameter_length_word : (i : ℕ) → i < 256 → word_at l (parameter_lengths_at + i) ≡ (get_or rs i no_span).len
  unfolding spread
  parameter_length_word i h = ap (λ (ws : List ℕ). get_or ws 1 0) (parameter_words i h)

  parameter_read : (i : ℕ) → i < 256 → parameter_entry l i ≡ get_or rs i no_span
  unfolding parameter_entry
  parameter_read i h = rw (parameter_start_word i h, parameter_length_word i h)

  -- ---- Calls

  short_name : (i : ℕ) → (get_or cs i no_call).name.start + (get_or cs i no_call).name.len ≤ 8192
  short_name i =
      each_get_d (λ (c : Call). c.name.start + c.name.len ≤ 8192) (λ (c : Call). short_span c.name) cs no_call (omega arith) (λ c q. short_facts c.name q) (short_names t texts cs fits.calls) i

  few_of : (i : ℕ) → length (get_or cs i no_call).parameters ≤ 8
  few_of i =
      each_get_d (λ (c : Call). length c.parameters ≤ 8) (λ (c : Call). leb (length c.parameters) 8) cs no_call (omega arith) (λ c q. leb-true (length c.parameters) 8 q) (few_parameters_lem ps limits) i

  call_fields_lem : (i k : ℕ) → get_or (map (λ (f : Call → ℕ). f (get_or cs i no_call)) call_fields) k 0 < 65536
  call_fields_lem i zero = let b = flag_le 1 (get_or cs i no_call).second in omega arith
  call_fields_lem i (suc zero) = let b = short_name i in omega arith
  call_fields_lem i (suc (suc zero)) = let b = short_name i in omega arith
  call_fields_lem i (suc (suc (suc zero))) = let b = few_of i in omega arith
  call_fields_lem i (suc (suc (suc (suc k)))) = omega arith

  pub call_words : (i : ℕ) → i < 128
      → spread (word_at l) 128 (length call_fields) marks_at i ≡ map (λ (f : Call → ℕ). f (get_or cs i no_call)) call_fields
  unfolding encode entries_of zeros reach
  call_words i h =
      row_words (entries_of t) rest room call_fields 128 cs (for_each parameter_fields 256) (columns parameter_fields rs) (before_calls (entries_of t)) marks_at (calls_there (entries_of t)) (calls_start_lem (entries_of t) room) (omega arith) no_call i room.calls h refl (call_fields_lem i)

  pub mark_word_lem : (i : ℕ) → i < 128 → word_at l (marks_at + i) ≡ mark_word (get_or cs i no_call)
  unfolding spread
  mark_word_lem i h = ap (λ (ws : List ℕ). get_or ws 0 0) (call_words i h)

  pub name_start_word : (i : ℕ) → i < 128 → word_at l (name_starts_at + i) ≡ (get_or cs i no_call).name.start
  unfolding spread
  name_start_word i h = ap (λ (ws : List ℕ). get_or ws 1 0) (call_words i h)

  pub name_length_word : (i : ℕ) → i < 128 → word_at l (name_lengths_at + i) ≡ (get_or cs i no_call).name.len
  unfolding spread
  name_length_word i h = ap (λ (ws : List ℕ). get_or ws 2 0) (call_words i h)

  pub call_parameters_word : (i : ℕ) → i < 128 → word_at l (call_parameters_at + i) ≡ length (get_or cs i no_call).parameters
  unfolding spread
  call_parameters_word i h = ap (λ (ws : List ℕ). get_or ws 3 0) (call_words i h)

  pub parameters_total : (i : ℕ) → i ≤ length cs → total (word_at l) call_parameters_at i ≡ total (λ q. length (get_or cs q no_call).parameters) 0 i
  parameters_total i h =
      total_same (word_at l) (λ q. length (get_or cs q no_call).parameters) call_parameters_at 0 i
      (λ k q. rw zero-add (call_parameters_word k (omega (arith, room.calls, calls_in_all_lem ps limits))))

  call_read : (i : ℕ) → i < length cs → call_entry l i ≡ get_or cs i no_call
  unfolding call_entry mark_entry name_entry first_parameter call_parameters
  call_read i h =
      let b : i < 128 = omega (arith, calls_in_all_lem ps limits) in
      let q : i ≤ length cs = omega arith in
      rw (
        mark_word_lem i b,
        name_start_word i b,
        name_length_word i b,
        call_parameters_word i b,
        parameters_total i q,
        mark_back (get_or cs i no_call).second,
        nested (λ (c : Call). c.parameters) cs no_call no_span (parameter_entry l) i h
            (λ k p. parameter_read k (omega (arith, parameters_in_all_lem ps limits))),
      )

  -- ---- Productions

  production_small : (i : ℕ) → (length (get_or ps i no_production).events ≤ 24) × (length (get_or ps i no_production).calls ≤ 8)
  production_small i =
      each_get_d (λ (p : Production). (length p.events ≤ 24) × (length p.calls ≤ 8)) (λ (p : Production). not (production_passes p)) ps no_production
      (omega arith, omega arith)
      (λ p q. let r = production_facts p (not-true (production_passes p) q) in (few_events p r, r.calls))
      limits.each i

  pub production_events_word : (i : ℕ) → i < 64 → word_at l (production_events_at + i) ≡ length (get_or ps i no_production).events
  unfolding entries_of sections_of columns
  production_events_word i h =
      let m : get_or (map (λ (x : Production). length x.events) ps) i 0 ≡ length (get_or ps i no_production).events = get_or-map (λ (x : Production). length x.events) ps i no_production in
      word 1 i h (rw m (let b = (production_small i).0 in omega arith)) ∙ m

  pub production_calls_word : (i : ℕ) → i < 64 → word_at l (production_calls_at + i) ≡ length (get_or ps i no_production).calls
  unfolding entries_of sections_of columns
  production_calls_word i h =
      let m : get_or (map (λ (x : Production). length x.calls) ps) i 0 ≡ length (get_or ps i no_production).calls = get_or-map (λ (x : Production). length x.calls) ps i no_production in
      word 2 i h (rw m (let b = (production_small i).1 in omega arith)) ∙ m

  pub events_total : (i : ℕ) → i ≤ length ps → total (word_at l) production_events_at i ≡ total (λ q. length (get_or ps q no_production).events) 0 i
  events_total i h =
      total_same (word_at l) (λ q. length (get_or ps q no_production).events) production_events_at 0 i
      (λ k q. rw zero-add (production_events_word k (omega (arith, limits.productions))))

  pub calls_total : (i : ℕ) → i ≤ length ps → total (word_at l) production_calls_at i ≡ total (λ q. length (get_or ps q no_production).calls) 0 i
  calls_total i h =
      total_same (word_at l) (λ q. length (get_or ps q no_production).calls) production_calls_at 0 i
      (λ k q. rw zero-add (production_calls_word k (omega (arith, limits.productions))))

  production_read : (i : ℕ) → i < length ps → production_entry l i ≡ get_or ps i no_production
  unfolding production_entry first_event production_events first_call production_calls
  production_read i h =
      let b : i < 64 = omega (arith, limits.productions) in
      let q : i ≤ length ps = omega arith in
      rw (
        production_events_word i b,
        production_calls_word i b,
        events_total i q,
        calls_total i q,
        nested (λ (p : Production). p.events) ps no_production no_event (event_entry l) i h
            (λ k p. event_read k (omega (arith, events_in_all_lem ps limits))),
        nested (λ (p : Production). p.calls) ps no_production no_call (call_entry l) i h (λ k p. call_read k p),
      )

  -- ---- The header

  pub header_word : (k : ℕ) → k < 8 → get_or (header_of t) k 0 < 65536 → word_at l k ≡ get_or (header_of t) k 0
  unfolding entries_of sections_of columns
  header_word k h b = ap (word_at l) (sym (zero-add k)) ∙ word 0 k h b

  pub directive_word_lem : word_at l 0 ≡ directive_word t.directive
  unfolding header_of
  directive_word_lem = header_word 0 (omega arith) (let b = directive_small t.directive in omega arith)

  pub merged_word_lem : word_at l 1 ≡ flag 1 t.merged
  unfolding header_of
  merged_word_lem = header_word 1 (omega arith) (let b = flag_le 1 t.merged in omega arith)

  pub first_word : word_at l 2 ≡ t.first_length
  unfolding header_of
  first_word = header_word 2 (omega arith) (let b = texts.first in omega arith)

  pub second_word : word_at l 3 ≡ t.second_length
  unfolding header_of
  second_word = header_word 3 (omega arith) (let b = texts.second in omega arith)

  pub productions_word : word_at l 4 ≡ length ps
  unfolding header_of
  productions_word = header_word 4 (omega arith) (let b = limits.productions in omega arith)

  pub events_word : word_at l 5 ≡ length es
  unfolding header_of
  events_word = header_word 5 (omega arith) (let b = events_in_all_lem ps limits in omega arith)

  pub calls_word : word_at l 6 ≡ length cs
  unfolding header_of
  calls_word = header_word 6 (omega arith) (let b = calls_in_all_lem ps limits in omega arith)

  pub parameters_word : word_at l 7 ≡ length rs
  unfolding header_of
  parameters_word = header_word 7 (omega arith) (let b = parameters_in_all_lem ps limits in omega arith)

  -- ---- The table

  -- a table that fits is read back from its bytes, whatever stands past them
  pub decode_encode : decode (encode t ++ rest) ≡ t
  unfolding decode directive_in merged_in first_length_in second_length_in production_total
  decode_encode =
      rw (
        directive_word_lem,
        merged_word_lem,
        first_word,
        second_word,
        productions_word,
        directive_back t.directive,
        mark_back t.merged,
        run_list (production_entry l) 0 (length ps) ps no_production refl (λ i h. rw zero-add (production_read i h)),
      )
