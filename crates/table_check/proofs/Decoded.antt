-- Bytes that pass the checks are those of the table that they read as, and that table fits.
use Prim.Native.Nat.{ℕ, zero, suc, ◌+◌, ◌-◌, ◌≤◌, ◌<◌}
use native.Mathlib.Omega.{arith}
use native.Mathlib.Nat.{zero-add, add-zero, add_assoc}
use mathlib.Core.Path.{◌≡◌, refl, sym, ap, ◌∙◌}
use mathlib.Core.List.{List, [], ◌∷◌, ◌++◌, map}
use mathlib.Core.Bool.{Bool, true, false, not, ◌||◌}
use lib.Dec.{leb, eqb}
use lib.ListN.{length, get_or, take, drop}
use borrow.Author.Tests.{le-leb, eqb-true}
use Rattle.words.specs.Words.{word_at, word_bytes, zeros}
use Rattle.words.specs.Runs.{run, total, every, is_zero, zero_between}
use Rattle.words.proofs.Images.{word_below, bytes_run}
use Rattle.words.proofs.Laws.{length_zeros, get_d_zeros}
use Rattle.words.proofs.RunLaws.{total_same, every_at, run_append, run_list, run_same, map_run, length_run}
use Rattle.model.specs.Lists.{all, in_all}
use Rattle.model.specs.Counts.{sequence}
use Rattle.model.specs.Compiling.{production_passes, passes_limit}
use Rattle.model.specs.Tables.{Call, Production, Table}
use Rattle.model.specs.declared.scan.Span.{Span}
use Rattle.model.specs.declared.events.KeptEvent.{KeptEvent}
use Rattle.tables.specs.Layout.{columns, for_each, event_fields, call_fields, parameter_fields, flag, directive_word, all_events, all_calls, all_parameters, padded, joined_sections, offset, capacities, header_of, entries_of, sections_of, image, encode, table_length}
use Rattle.tables.specs.Layout.{production_events_at, production_calls_at, codes_at, counts_at, sets_at, clears_at, flags_at, lows_at, highs_at, first_lows_at, first_highs_at, second_lows_at, second_highs_at, third_lows_at, third_highs_at, fourth_lows_at, fourth_highs_at, marks_at, call_parameters_at, parameter_starts_at}
use Rattle.tables.specs.Reading.{directive_from_word, directive_in, merged_in, first_length_in, second_length_in, production_total, parameter_entry, mark_entry, name_entry, call_parameters, first_parameter, call_entry, keysyms_entry, event_entry, production_events, production_calls, first_event, first_call, production_entry, decode}
use Rattle.tables.specs.Fitting.{event_in_range, span_in_text, call_in_range, texts_in_range, has_event, fitting}
use Rattle.event_check.specs.Events.{event_ok}
use Rattle.keysym_check.specs.Slots.{keysyms_ok}
use Rattle.span_check.specs.Spans.{length_of_text, parameter_ok, parameters_ok}
use Rattle.sequence_check.specs.Sequences.{size_at}
use Rattle.tables.proofs.Lists.{all_run, flat_runs, length_flat, in_all_flat, in_all_le, in_all_run}
use Rattle.event_check.proofs.EventTests.{low_half, high_half, keysym_words, words_range, words_back, code_back, count_back}
use Rattle.tables.proofs.Sizes.{event_size, length_expanded}
use Rattle.tables.proofs.Facts.{facts_fit, facts_text, facts_call, facts_production, facts_limit}
use Rattle.table_check.proofs.CheckFacts.{CheckFacts, events_within_lem, calls_within_lem}
use Rattle.header_check.proofs.UnusedFacts.{Rests, none, more, used}
use Rattle.tables.proofs.Columns.{consed, spread, reach}
use Rattle.span_check.proofs.CallWords.{CallWordFacts}

directive_back : (w : ℕ) → w ≤ 2 → directive_word (directive_from_word w) ≡ w
directive_back zero h = refl
directive_back (suc zero) h = refl
directive_back (suc (suc zero)) h = refl
directive_back (suc (suc (suc w))) h = absurd (omega arith)

flag_back : (w : ℕ) → w ≤ 1 → flag 1 (eqb w 1) ≡ w
flag_back zero h = refl
flag_back (suc zero) h = refl
flag_back (suc (suc w)) h = absurd (omega arith)

unused_second : (b : Bool) (n : ℕ) → (b || eqb n 0) ≡ true → (b || leb n 0) ≡ true
unused_second true n e = refl
unused_second false n e = let h = eqb-true n 0 e in le-leb n 0 (omega arith)

mark_allowed : (k m : ℕ) → k ≤ m → m ≤ 1 → (eqb m 1 || not (eqb k 1)) ≡ true
mark_allowed zero zero h b = refl
mark_allowed zero (suc zero) h b = refl
mark_allowed (suc zero) (suc zero) h b = refl
mark_allowed (suc k) zero h b = absurd (omega arith)
mark_allowed (suc (suc k)) (suc zero) h b = absurd (omega arith)
mark_allowed k (suc (suc m)) h b = absurd (omega arith)

module _ (l : List ℕ) where
  -- ---- Sections as runs of words

  section_run : {A : Type 0} (g : A → ℕ) (f : ℕ → A) (at n : ℕ) → ((i : ℕ) → i < n → g (f i) ≡ word_at l (at + i))
      → map g (run f 0 n) ≡ run (word_at l) at n
  section_run g f at n e = map_run g f 0 n ∙ run_same (λ i. g (f i)) (word_at l) 0 at n (λ i h. rw zero-add (e i h))

  zero_run : (s n : ℕ) → every (is_zero l) s n ≡ true → run (word_at l) s n ≡ zeros n
  unfolding is_zero
  zero_run s n e =
      run_list (word_at l) s n (zeros n) 0 (length_zeros n)
      (λ i h. eqb-true (word_at l (s + i)) 0 (every_at (is_zero l) s n i e h) ∙ sym (get_d_zeros n i))

  padded_run : (at cap n : ℕ) → n ≤ cap → zero_between l at n cap ≡ true → padded cap (run (word_at l) at n) ≡ run (word_at l) at cap
  unfolding padded zero_between
  padded_run at cap n h e =
      let k : cap ≡ n + (cap - n) = omega arith in
      rw (length_run, ← zero_run (at + n) (cap - n) e) (sym (ap (run (word_at l) at) k ∙ run_append (word_at l) at n (cap - n)))

  -- sections of these capacities, from word s on, n words of each used
  abbrev runs : (cs ns : List ℕ) → ℕ → List (List ℕ)
  runs [] ns s = []
  runs (c ∷ cs) [] s = []
  runs (c ∷ cs) (n ∷ ns) s = run (word_at l) s n ∷ runs cs ns (s + c)

  joined_runs : (cs ns : List ℕ) (s : ℕ) → Rests l cs ns s → joined_sections cs (runs cs ns s) ≡ run (word_at l) s (offset cs (length cs))
  unfolding joined_sections run
  joined_runs [] [] s none = refl
  joined_runs [] (n ∷ ns) s x = elim x [ ]
  joined_runs (c ∷ cs) [] s x = elim x [ ]
  joined_runs (c ∷ cs) (n ∷ ns) s (more h z r) =
      rw (padded_run s c n h z, joined_runs cs ns (s + c) r) (sym (run_append (word_at l) s c (offset cs (length cs))))

  -- fields of n entries, each of which has these words again
  columns_runs : {A : Type 0} (c : ℕ) (f : ℕ → A) (n : ℕ) (gs : List (A → ℕ)) (s e : ℕ) (cs ns : List ℕ) (ss : List (List ℕ)) → e ≡ s + reach c (length gs)
      → ((i : ℕ) → i < n → map (λ (g : A → ℕ). g (f i)) gs ≡ spread (word_at l) c (length gs) s i)
      → ss ≡ runs cs ns e
      → (columns gs (run f 0 n) ++ ss) ≡ runs (for_each gs c ++ cs) (for_each gs n ++ ns) s
  unfolding columns spread reach
  columns_runs c f n [] s e cs ns ss p back q = q ∙ ap (runs cs ns) (p ∙ add-zero s)
  columns_runs c f n (g ∷ gs) s e cs ns ss p back q =
      consed (section_run g f s n (λ i h. ap (λ (ws : List ℕ). get_or ws 0 0) (back i h)))
      (columns_runs c f n gs (s + c) e cs ns ss (p ∙ sym (add_assoc s c (reach c (length gs)))) (λ i h. ap (drop 1) (back i h)) q)

module _ (l : List ℕ) (bytes : (i : ℕ) → get_or l i 0 < 256) (facts : CheckFacts l) where
  abbrev t : Table
  t = decode l

  -- ---- Entries in production order

  pub events_flat : all_events (decode l).productions ≡ run (event_entry l) 0 (word_at l 5)
  unfolding decode production_total production_entry first_event production_events
  events_flat =
      flat_runs (λ (p : Production). p.events) (production_entry l) (event_entry l) (word_at l) production_events_at (word_at l 4) (λ p. refl)
      ∙ ap (run (event_entry l) 0) facts.sums.events

  pub calls_flat : all_calls (decode l).productions ≡ run (call_entry l) 0 (word_at l 6)
  unfolding decode production_total production_entry first_call production_calls
  calls_flat =
      flat_runs (λ (p : Production). p.calls) (production_entry l) (call_entry l) (word_at l) production_calls_at (word_at l 4) (λ p. refl)
      ∙ ap (run (call_entry l) 0) facts.sums.calls

  parameters_flat : all_parameters (all_calls (decode l).productions) ≡ run (parameter_entry l) 0 (word_at l 7)
  unfolding call_entry first_parameter call_parameters
  parameters_flat =
      ap all_parameters calls_flat
      ∙ flat_runs (λ (c : Call). c.parameters) (call_entry l) (parameter_entry l) (word_at l) call_parameters_at (word_at l 6) (λ p. refl)
      ∙ ap (run (parameter_entry l) 0) facts.sums.parameters

  -- ---- Their words

  production_events_lem : map (λ (p : Production). length p.events) (decode l).productions ≡ run (word_at l) production_events_at (word_at l 4)
  unfolding decode production_total production_entry production_events
  production_events_lem =
      section_run l (λ (p : Production). length p.events) (production_entry l) production_events_at (word_at l 4)
      (λ i h. length_run (event_entry l) (first_event l i) (word_at l (production_events_at + i)))

  production_calls_lem : map (λ (p : Production). length p.calls) (decode l).productions ≡ run (word_at l) production_calls_at (word_at l 4)
  unfolding decode production_total production_entry production_calls
  production_calls_lem =
      section_run l (λ (p : Production). length p.calls) (production_entry l) production_calls_at (word_at l 4)
      (λ i h. length_run (call_entry l) (first_call l i) (word_at l (production_calls_at + i)))

  -- the words of keysyms
  keysyms_back : (i : ℕ) → keysym_words (keysyms_entry l i)
      ≡ (word_at l (first_lows_at + i) ∷ word_at l (first_highs_at + i) ∷ word_at l (second_lows_at + i) ∷ word_at l (second_highs_at + i) ∷ word_at l (third_lows_at + i) ∷ word_at l (third_highs_at + i) ∷ word_at l (fourth_lows_at + i) ∷ word_at l (fourth_highs_at + i) ∷ [])
  unfolding keysyms_entry
  keysyms_back i =
      consed (low_half (word_at l (first_lows_at + i)) (word_at l (first_highs_at + i)) (word_below l bytes (first_lows_at + i)))
      (consed (high_half (word_at l (first_lows_at + i)) (word_at l (first_highs_at + i)) (word_below l bytes (first_lows_at + i)))
      (consed (low_half (word_at l (second_lows_at + i)) (word_at l (second_highs_at + i)) (word_below l bytes (second_lows_at + i)))
      (consed (high_half (word_at l (second_lows_at + i)) (word_at l (second_highs_at + i)) (word_below l bytes (second_lows_at + i)))
      (consed (low_half (word_at l (third_lows_at + i)) (word_at l (third_highs_at + i)) (word_below l bytes (third_lows_at + i)))
      (consed (high_half (word_at l (third_lows_at + i)) (word_at l (third_highs_at + i)) (word_below l bytes (third_lows_at + i)))
      (consed (low_half (word_at l (fourth_lows_at + i)) (word_at l (fourth_highs_at + i)) (word_below l bytes (fourth_lows_at + i)))
      (consed (high_half (word_at l (fourth_lows_at + i)) (word_at l (fourth_highs_at + i)) (word_below l bytes (fourth_lows_at + i))) refl)))))))

  event_back : (i : ℕ) → i < word_at l 5 → map (λ (f : KeptEvent → ℕ). f (event_entry l i)) event_fields ≡ spread (word_at l) 256 (length event_fields) codes_at i
  unfolding event_entry event_ok spread
  event_back i h =
      words_back (word_at l (codes_at + i)) (word_at l (counts_at + i)) (word_at l (sets_at + i)) (word_at l (clears_at + i)) (word_at l (flags_at + i)) (word_at l (lows_at + i)) (word_at l (highs_at + i)) (keysyms_entry l i) (facts.events i h) (word_below l bytes (flags_at + i)) (word_below l bytes (lows_at + i))
      ∙ ap (λ (ws : List ℕ). word_at l (codes_at + i) ∷ word_at l (counts_at + i) ∷ word_at l (sets_at + i) ∷ word_at l (clears_at + i) ∷ word_at l (flags_at + i) ∷ word_at l (lows_at + i) ∷ word_at l (highs_at + i) ∷ ws) (keysyms_back i)

  call_back : (i : ℕ) → i < word_at l 6 → map (λ (f : Call → ℕ). f (call_entry l i)) call_fields ≡ spread (word_at l) 128 (length call_fields) marks_at i
  unfolding call_entry mark_entry name_entry call_parameters spread
  call_back i h =
      consed (flag_back (word_at l (marks_at + i)) (let m = (facts.calls i h).mark in let b = facts.header.merged in omega arith))
      (consed refl
      (consed refl
      (consed (length_run (parameter_entry l) (first_parameter l i) (word_at l (call_parameters_at + i))) refl)))

  parameter_back : (i : ℕ) → i < word_at l 7 → map (λ (f : Span → ℕ). f (parameter_entry l i)) parameter_fields ≡ spread (word_at l) 256 (length parameter_fields) parameter_starts_at i
  unfolding parameter_entry spread
  parameter_back i h = refl

  header_run : header_of (decode l) ≡ run (word_at l) 0 8
  unfolding header_of decode directive_in merged_in first_length_in second_length_in production_total run
  header_run =
      consed (directive_back (word_at l 0) facts.header.directive)
      (consed (flag_back (word_at l 1) facts.header.merged)
      (consed refl
      (consed refl
      (consed (length_run (production_entry l) 0 (word_at l 4))
      (consed (ap length events_flat ∙ length_run (event_entry l) 0 (word_at l 5))
      (consed (ap length calls_flat ∙ length_run (call_entry l) 0 (word_at l 6))
      (consed (ap length parameters_flat ∙ length_run (parameter_entry l) 0 (word_at l 7)) refl)))))))

  sections_runs : sections_of (entries_of (decode l)) ≡ runs l capacities (used l) 0
  unfolding sections_of entries_of columns reach
  sections_runs =
      consed header_run
      (consed production_events_lem
      (consed production_calls_lem
      (ap (λ (es : List KeptEvent). columns event_fields es ++ (columns call_fields (all_calls (decode l).productions) ++ columns parameter_fields (all_parameters (all_calls (decode l).productions)))) events_flat
      ∙ ap (λ (cs : List Call). columns event_fields (run (event_entry l) 0 (word_at l 5)) ++ (columns call_fields cs ++ columns parameter_fields (all_parameters (all_calls (decode l).productions)))) calls_flat
      ∙ ap (λ (rs : List Span). columns event_fields (run (event_entry l) 0 (word_at l 5)) ++ (columns call_fields (run (call_entry l) 0 (word_at l 6)) ++ columns parameter_fields rs)) parameters_flat
      ∙ columns_runs l 256 (event_entry l) (word_at l 5) event_fields codes_at marks_at (for_each call_fields 128 ++ for_each parameter_fields 256) (for_each call_fields (word_at l 6) ++ for_each parameter_fields (word_at l 7)) (columns call_fields (run (call_entry l) 0 (word_at l 6)) ++ columns parameter_fields (run (parameter_entry l) 0 (word_at l 7))) refl event_back
      (columns_runs l 128 (call_entry l) (word_at l 6) call_fields marks_at parameter_starts_at (for_each parameter_fields 256) (for_each parameter_fields (word_at l 7)) (columns parameter_fields (run (parameter_entry l) 0 (word_at l 7))) refl call_back
      (columns_runs l 256 (parameter_entry l) (word_at l 7) parameter_fields parameter_starts_at 5000 [] [] [] refl parameter_back refl)))))

  -- the bytes are those of the table
  pub bytes_same : take table_length l ≡ encode (decode l)
  unfolding encode image
  bytes_same =
      bytes_run l 0 5000 bytes facts.long
      ∙ sym (ap (λ (ss : List (List ℕ)). word_bytes (joined_sections capacities ss)) sections_runs ∙ ap word_bytes (joined_runs l capacities (used l) 0 facts.rests))

  -- ---- The table fits

  texts_fit : texts_in_range (decode l) ≡ true
  unfolding decode merged_in first_length_in second_length_in
  texts_fit =
      facts_text (decode l)
      (record {
        first = facts.header.first;
        second = facts.header.second;
        unused = unused_second (eqb (word_at l 1) 1) (word_at l 3) facts.header.unused;
      })

  has_events_lem : all has_event (decode l).productions ≡ true
  unfolding decode production_total production_entry production_events
  has_events_lem =
      all_run has_event (production_entry l) 0 (word_at l 4)
      (λ i h. rw (zero-add, length_run (event_entry l) (first_event l i) (word_at l (production_events_at + i)))
      (le-leb 1 (word_at l (production_events_at + i)) (facts.productions i h).events))

  pub event_range : (i : ℕ) → i < word_at l 5 → event_in_range (event_entry l i) ≡ true
  unfolding event_entry event_ok keysyms_ok
  event_range i h =
      words_range (word_at l (codes_at + i)) (word_at l (counts_at + i)) (word_at l (sets_at + i)) (word_at l (clears_at + i)) (word_at l (flags_at + i)) (word_at l (lows_at + i)) (word_at l (highs_at + i)) (keysyms_entry l i) (facts.events i h) (word_below l bytes (flags_at + i)) (word_below l bytes (lows_at + i))
      (facts.keysyms i h)

  event_size_lem : (i : ℕ) → i < word_at l 5 → event_size (event_entry l i) ≡ size_at l i
  unfolding event_entry event_ok size_at
  event_size_lem i h =
      rw (code_back (word_at l (codes_at + i)) (word_at l (counts_at + i)) (word_at l (sets_at + i)) (word_at l (clears_at + i)) (word_at l (flags_at + i)) (word_at l (lows_at + i)) (word_at l (highs_at + i)) (keysyms_entry l i) (facts.events i h) (word_below l bytes (flags_at + i)) (word_below l bytes (lows_at + i)), count_back (word_at l (codes_at + i)) (word_at l (counts_at + i)) (word_at l (sets_at + i)) (word_at l (clears_at + i)) (word_at l (flags_at + i)) (word_at l (lows_at + i)) (word_at l (highs_at + i)) (keysyms_entry l i) (facts.events i h) (word_below l bytes (flags_at + i)) (word_below l bytes (lows_at + i)))

  events_fit : all event_in_range (all_events (decode l).productions) ≡ true
  events_fit = rw events_flat (all_run event_in_range (event_entry l) 0 (word_at l 5) (λ i h. rw zero-add (event_range i h)))

  parameter_fits : (i k : ℕ) → i < word_at l 6 → k < call_parameters l i
      → span_in_text (length_of_text (word_at l (marks_at + i)) (word_at l 2) (word_at l 3)) (parameter_entry l (first_parameter l i + k)) ≡ true
  unfolding span_in_text parameter_entry call_parameters first_parameter parameters_ok parameter_ok
  parameter_fits i k h q =
      every_at (parameter_ok l (length_of_text (word_at l (marks_at + i)) (word_at l 2) (word_at l 3))) (total (word_at l) call_parameters_at i) (word_at l (call_parameters_at + i)) k (facts.parameters i h) q

  call_fits : (i : ℕ) → i < word_at l 6 → call_in_range (decode l) (call_entry l i) ≡ true
  unfolding call_entry name_entry mark_entry decode merged_in first_length_in second_length_in length_of_text
  call_fits i h =
      let w : CallWordFacts l i = facts.calls i h in
      facts_call (decode l) (call_entry l i)
      (record {
        mark = mark_allowed (word_at l (marks_at + i)) (word_at l 1) w.mark facts.header.merged;
        name = w.name;
        parameters = all_run (span_in_text (length_of_text (word_at l (marks_at + i)) (word_at l 2) (word_at l 3))) (parameter_entry l) (first_parameter l i) (call_parameters l i) (λ k q. parameter_fits i k h q);
      })

  calls_fit : all (call_in_range (decode l)) (all_calls (decode l).productions) ≡ true
  calls_fit = rw calls_flat (all_run (call_in_range (decode l)) (call_entry l) 0 (word_at l 6) (λ i h. rw zero-add (call_fits i h)))

  -- ---- Limits

  pub production_size : (p : ℕ) → p < word_at l 4 → length (sequence (production_entry l p)) ≤ 24
  unfolding sequence production_entry first_event production_events
  production_size p h =
      let from : ℕ = total (word_at l) production_events_at p in
      let n : ℕ = word_at l (production_events_at + p) in
      let a = length_expanded (run (event_entry l) (total (word_at l) production_events_at p) (word_at l (production_events_at + p))) in
      let b = in_all_run event_size (event_entry l) (total (word_at l) production_events_at p) (word_at l (production_events_at + p)) in
      let c = total_same (λ i. event_size (event_entry l i)) (size_at l) (total (word_at l) production_events_at p) (total (word_at l) production_events_at p) (word_at l (production_events_at + p))
      (λ k q. event_size_lem (total (word_at l) production_events_at p + k) (let w = events_within_lem l facts.sums p h in omega arith)) in
      let d = (facts.productions p h).size in
      omega (arith, a, b, c, d)

  few : (i : ℕ) → i < word_at l 6 → leb (length (call_entry l i).parameters) 8 ≡ true
  unfolding call_entry call_parameters
  few i q =
      rw (length_run (parameter_entry l) (first_parameter l i) (word_at l (call_parameters_at + i)))
      (le-leb (word_at l (call_parameters_at + i)) 8 (facts.calls i q).parameters)

  few_calls_lem : (p : ℕ) → p < word_at l 4 → length (production_entry l p).calls ≤ 8
  unfolding production_entry production_calls
  few_calls_lem p h = let e = length_run (call_entry l) (first_call l p) (word_at l (production_calls_at + p)) in let b = (facts.productions p h).calls in omega arith

  few_parameters_lem : (p : ℕ) → p < word_at l 4 → all (λ (c : Call). leb (length c.parameters) 8) (production_entry l p).calls ≡ true
  unfolding production_entry first_call production_calls
  few_parameters_lem p h =
      all_run (λ (c : Call). leb (length c.parameters) 8) (call_entry l) (total (word_at l) production_calls_at p) (word_at l (production_calls_at + p))
      (λ k q. few (total (word_at l) production_calls_at p + k) (let w = calls_within_lem l facts.sums p h in omega arith))

  production_fits : (p : ℕ) → p < word_at l 4 → production_passes (production_entry l p) ≡ false
  production_fits p h =
      facts_production (production_entry l p)
      (record { size = production_size p h; calls = few_calls_lem p h; parameters = few_parameters_lem p h })

  sizes_in_all : in_all (λ (p : Production). length (sequence p)) (decode l).productions ≤ 256
  unfolding sequence
  sizes_in_all =
      let a = in_all_le (λ (p : Production). length (sequence p)) (λ (p : Production). in_all event_size p.events) (decode l).productions (λ p. let e = length_expanded p.events in omega arith) in
      let b = in_all_flat event_size (λ (p : Production). p.events) (decode l).productions in
      let c = ap (in_all event_size) events_flat in
      let d = in_all_run event_size (event_entry l) 0 (word_at l 5) in
      let e = total_same (λ i. event_size (event_entry l i)) (size_at l) 0 0 (word_at l 5) (λ k q. rw zero-add (event_size_lem k q)) in
      omega (arith, a, b, c, d, e, facts.sizes)

  each_fits : all (λ (p : Production). not (production_passes p)) (decode l).productions ≡ true
  unfolding decode production_total
  each_fits = all_run (λ (p : Production). not (production_passes p)) (production_entry l) 0 (word_at l 4) (λ i h. rw (zero-add, production_fits i h))

  count_productions : length (decode l).productions ≡ word_at l 4
  unfolding decode production_total
  count_productions = length_run (production_entry l) 0 (word_at l 4)

  limit_fits : passes_limit (decode l).productions ≡ false
  limit_fits =
      facts_limit (decode l).productions
      (record {
        each = each_fits;
        productions = let e = count_productions in let b = facts.header.productions in omega arith;
        events = sizes_in_all;
        calls =
            let a = length_flat (λ (p : Production). p.calls) (decode l).productions in
            let b = ap length calls_flat ∙ length_run (call_entry l) 0 (word_at l 6) in
            let c = facts.header.calls in
            omega arith;
        parameters =
            let a = in_all_flat (λ (c : Call). length c.parameters) (λ (p : Production). p.calls) (decode l).productions in
            let b = length_flat (λ (c : Call). c.parameters) (all_calls (decode l).productions) in
            let c = ap length parameters_flat ∙ length_run (parameter_entry l) 0 (word_at l 7) in
            let d = facts.header.parameters in
            omega arith;
      })

  pub table_fits : fitting (decode l) ≡ true
  table_fits =
      facts_fit (decode l)
      (record { texts = texts_fit; has_events = has_events_lem; events = events_fit; calls = calls_fit; limit = limit_fits })
