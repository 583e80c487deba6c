-- The bytes of a table that fits pass the checks.
use Prim.Native.Nat.{ℕ, ◌+◌, ◌-◌, ◌≤◌, ◌<◌}
use native.Mathlib.Omega.{arith}
use native.Mathlib.Nat.{zero-add, add_assoc}
use mathlib.Core.Path.{◌≡◌, refl, sym, ap, ◌∙◌}
use mathlib.Core.List.{List, [], ◌∷◌, ◌++◌, map}
use mathlib.Core.Bool.{Bool, true, false, not, ◌||◌, false≢true}
use lib.Dec.{leb, eqb}
use lib.ListN.{length, get_or, drop, length-append, get_or-eq_default}
use borrow.Author.Tests.{leb-true, le-leb, le-ltb, eq-eqb, not-true}
use Rattle.words.specs.Words.{word_at, zeros}
use Rattle.words.specs.Runs.{total, every, is_zero, zero_between, zero_in}
use Rattle.words.proofs.Bools.{and_both, chain_all}
use Rattle.words.proofs.RunLaws.{total_same, total_part, every_all}
use Rattle.model.specs.Lists.{in_all}
use Rattle.model.specs.Counts.{sequence}
use Rattle.model.specs.Compiling.{production_passes}
use Rattle.model.specs.Tables.{Call, Production, Table}
use Rattle.model.specs.declared.scan.Span.{Span}
use Rattle.model.specs.declared.events.KeptEvent.{KeptEvent}
use Rattle.model.specs.declared.events.Directive.{Directive}
use Rattle.tables.specs.Layout.{event_fields, call_fields, parameter_fields, flag, directive_word, all_events, all_calls, all_parameters, encode, table_length}
use Rattle.tables.specs.Layout.{production_events_at, production_calls_at, codes_at, marks_at, call_parameters_at, parameter_starts_at}
use Rattle.tables.specs.Fitting.{event_in_range, span_in_text, text_length, call_in_range, has_event, fitting}
use Rattle.header_check.specs.Header.{text_words_ok, count_words_ok, header_ok}
use Rattle.table_check.specs.Checks.{sums_ok, entries_ok, checks}
use Rattle.header_check.specs.Unused.{production_sections, event_sections, keysym_sections, call_sections, parameter_sections, unused_ok}
use Rattle.header_check.proofs.UnusedFacts.{in_row}
use Rattle.words.proofs.Zeros.{zero_all, zero_split}
use Rattle.tables.proofs.Columns.{spread}
use Rattle.event_check.specs.Events.{event_ok}
use Rattle.keysym_check.specs.Slots.{keysyms_ok, slots_ok}
use Rattle.span_check.specs.Spans.{length_of_text, call_words_ok, call_ok, parameter_ok, parameters_ok}
use Rattle.sequence_check.specs.Sequences.{size_at, production_ok}
use Rattle.tables.proofs.Lists.{all_at, flat_at, length_flat, in_all_total, in_all_flat, in_all_le}
use Rattle.tables.proofs.EventWords.{range_facts}
use Rattle.event_check.proofs.EventTests.{range_words}
use Rattle.tables.proofs.Sizes.{event_size, length_expanded}
use Rattle.tables.proofs.Facts.{CallFacts, call_facts, ProductionFacts, production_facts, events_in_all_lem, calls_in_all_lem, parameters_in_all_lem, few_parameters_lem}
use Rattle.tables.proofs.Encoded as enc
use Rattle.tables.proofs.Encoded.{no_event, no_span, no_call, no_production}
use Rattle.tables.proofs.Theorems.{length_encode}

directive_small : (d : Directive) → leb (directive_word d) 2 ≡ true
directive_small Directive.Replace = refl
directive_small Directive.Override = refl
directive_small Directive.Augment = refl

merged_small : (b : Bool) → leb (flag 1 b) 1 ≡ true
merged_small true = refl
merged_small false = refl

second_unused : (b : Bool) (n : ℕ) → (b || leb n 0) ≡ true → (eqb (flag 1 b) 1 || eqb n 0) ≡ true
second_unused true n e = refl
second_unused false n e = let h = leb-true n 0 e in eq-eqb n 0 (omega arith)

mark_small : (m b : Bool) → (m || not b) ≡ true → flag 1 b ≤ flag 1 m
mark_small true true e = omega arith
mark_small true false e = omega arith
mark_small false true e = absurd (false≢true e)
mark_small false false e = omega arith

text_of : (t : Table) (b : Bool) → length_of_text (flag 1 b) t.first_length t.second_length ≡ text_length t b
unfolding length_of_text
text_of t true = refl
text_of t false = refl

module _ (t : Table) (fit : fitting t ≡ true) (rest : List ℕ) where
  abbrev ps : List Production
  ps = t.productions

  abbrev es : List KeptEvent
  es = all_events t.productions

  abbrev cs : List Call
  cs = all_calls t.productions

  abbrev rs : List Span
  rs = all_parameters (all_calls t.productions)

  abbrev l : List ℕ
  l = encode t ++ rest

  -- ---- The header and the sums

  text_words : text_words_ok (word_at l 0) (word_at l 1) (word_at l 2) (word_at l 3) ≡ true
  unfolding text_words_ok
  text_words =
      let r = enc.texts t fit rest in
      rw (enc.directive_word_lem t fit rest, enc.merged_word_lem t fit rest, enc.first_word t fit rest, enc.second_word t fit rest)
      (chain_all (leb (directive_word t.directive) 2)
      (leb (flag 1 t.merged) 1 ∷ leb t.first_length 8192 ∷ leb t.second_length 8192 ∷ (eqb (flag 1 t.merged) 1 || eqb t.second_length 0) ∷ []) (
        directive_small t.directive,
        (
          merged_small t.merged,
          (
            le-leb t.first_length 8192 r.first,
            (
              le-leb t.second_length 8192 r.second,
              (second_unused t.merged t.second_length r.unused, tt),
            ),
          ),
        ),
      ))

  count_words : count_words_ok (word_at l 4) (word_at l 5) (word_at l 6) (word_at l 7) ≡ true
  unfolding count_words_ok
  count_words =
      let r = enc.limits t fit rest in
      rw (enc.productions_word t fit rest, enc.events_word t fit rest, enc.calls_word t fit rest, enc.parameters_word t fit rest)
      (chain_all (leb (length ps) 64) (leb (length es) 256 ∷ leb (length cs) 128 ∷ leb (length rs) 256 ∷ []) (
        le-leb (length ps) 64 r.productions,
        (
          le-leb (length es) 256 (events_in_all_lem ps r),
          (
            le-leb (length cs) 128 (calls_in_all_lem ps r),
            (le-leb (length rs) 256 (parameters_in_all_lem ps r), tt),
          ),
        ),
      ))

  header_ok_lem : header_ok l ≡ true
  unfolding header_ok
  header_ok_lem =
      and_both (text_words_ok (word_at l 0) (word_at l 1) (word_at l 2) (word_at l 3)) (count_words_ok (word_at l 4) (word_at l 5) (word_at l 6) (word_at l 7))
      text_words count_words

  sums_ok_lem : sums_ok l ≡ true
  unfolding sums_ok
  sums_ok_lem =
      rw (enc.productions_word t fit rest, enc.events_word t fit rest, enc.calls_word t fit rest, enc.parameters_word t fit rest)
      (chain_all (eqb (total (word_at l) production_events_at (length ps)) (length es))
      (eqb (total (word_at l) production_calls_at (length ps)) (length cs) ∷ eqb (total (word_at l) call_parameters_at (length cs)) (length rs) ∷ []) (
        eq-eqb (total (word_at l) production_events_at (length ps)) (length es)
            (enc.events_total t fit rest (length ps) (omega arith) ∙ sym (length_flat (λ (p : Production). p.events) ps ∙ in_all_total (λ (p : Production). length p.events) ps no_production)),
        (
          eq-eqb (total (word_at l) production_calls_at (length ps)) (length cs)
              (enc.calls_total t fit rest (length ps) (omega arith) ∙ sym (length_flat (λ (p : Production). p.calls) ps ∙ in_all_total (λ (p : Production). length p.calls) ps no_production)),
          (
            eq-eqb (total (word_at l) call_parameters_at (length cs)) (length rs)
                (enc.parameters_total t fit rest (length cs) (omega arith) ∙ sym (length_flat (λ (c : Call). c.parameters) cs ∙ in_all_total (λ (c : Call). length c.parameters) cs no_call)),
            tt,
          ),
        ),
      ))

  -- ---- Unused words

  section_zero : {A : Type 0} (at c : ℕ) (g : A → ℕ) (xs : List A) (d : A) → g d ≡ 0
      → ((i : ℕ) → i < c → word_at l (at + i) ≡ g (get_or xs i d)) → zero_between l at (length xs) c ≡ true
  unfolding zero_between is_zero
  section_zero at c g xs d z e =
      every_all (is_zero l) (at + length xs) (c - length xs)
      (λ i h. eq-eqb (word_at l (at + length xs + i)) 0
      (ap (word_at l) (add_assoc at (length xs) i) ∙ e (length xs + i) (omega arith) ∙ ap g (get_or-eq_default xs d (omega arith)) ∙ z))

  -- the sections of some fields of entries
  row_zero : {A : Type 0} (c : ℕ) (xs : List A) (d : A) (fs : List (A → ℕ)) (s : ℕ) → map (λ (f : A → ℕ). f d) fs ≡ zeros (length fs)
      → ((i : ℕ) → i < c → spread (word_at l) c (length fs) s i ≡ map (λ (f : A → ℕ). f (get_or xs i d)) fs)
      → zero_in l (in_row c (length fs) s) (length xs) c ≡ true
  unfolding zero_in zeros spread
  row_zero c xs d [] s z e = refl
  row_zero c xs d (f ∷ fs) s z e =
      and_both (zero_between l s (length xs) c) (zero_in l (in_row c (length fs) (s + c)) (length xs) c)
      (section_zero s c f xs d (ap (λ (ws : List ℕ). get_or ws 0 0) z) (λ i h. ap (λ (ws : List ℕ). get_or ws 0 0) (e i h)))
      (row_zero c xs d fs (s + c) (ap (drop 1) z) (λ i h. ap (drop 1) (e i h)))

  unused_events : (zero_in l event_sections (length es) 256 ≡ true) × (zero_in l keysym_sections (length es) 256 ≡ true)
  unfolding zeros
  unused_events =
      zero_split l event_sections keysym_sections (length es) 256 (row_zero 256 es no_event event_fields codes_at refl (enc.event_words t fit rest))

  unused_ok_lem : unused_ok l ≡ true
  unfolding unused_ok zeros
  unused_ok_lem =
      rw (enc.productions_word t fit rest, enc.events_word t fit rest, enc.calls_word t fit rest, enc.parameters_word t fit rest)
      (chain_all (zero_in l production_sections (length ps) 64)
      (zero_in l event_sections (length es) 256 ∷ zero_in l call_sections (length cs) 128 ∷ zero_in l parameter_sections (length rs) 256 ∷ []) (
        zero_all l production_sections (length ps) 64 (
          section_zero production_events_at 64 (λ (p : Production). length p.events) ps no_production refl (enc.production_events_word t fit rest),
          (section_zero production_calls_at 64 (λ (p : Production). length p.calls) ps no_production refl (enc.production_calls_word t fit rest), tt),
        ),
        (
          unused_events.0,
          (
            row_zero 128 cs no_call call_fields marks_at refl (enc.call_words t fit rest),
            (row_zero 256 rs no_span parameter_fields parameter_starts_at refl (enc.parameter_words t fit rest), tt),
          ),
        ),
      ))

  -- ---- Entries

  events_below : (i : ℕ) → i < length es → i < 256
  events_below i h = omega (arith, events_in_all_lem ps (enc.limits t fit rest))

  calls_below : (i : ℕ) → i < length cs → i < 128
  calls_below i h = omega (arith, calls_in_all_lem ps (enc.limits t fit rest))

  parameters_below : (i : ℕ) → i < length rs → i < 256
  parameters_below i h = omega (arith, parameters_in_all_lem ps (enc.limits t fit rest))

  productions_below : (i : ℕ) → i < length ps → i < 64
  productions_below i h = omega (arith, (enc.limits t fit rest).productions)

  event_ok_lem : (i : ℕ) → i < length es → event_ok l i ≡ true
  unfolding event_ok
  event_ok_lem i h =
      let b = events_below i h in
      rw (enc.code_word_lem t fit rest i b, enc.count_word t fit rest i b, enc.set_word t fit rest i b, enc.clear_word t fit rest i b, enc.flags_word_lem t fit rest i b, enc.low_word_lem t fit rest i b, enc.high_word_lem t fit rest i b)
      (range_words (get_or es i no_event) (all_at event_in_range es i no_event (enc.fits t fit rest).events h))

  keysyms_ok_lem : (i : ℕ) → i < length es → keysyms_ok l i ≡ true
  unfolding keysyms_ok
  keysyms_ok_lem i h =
      rw (enc.keysyms_read t fit rest i (events_below i h))
      (range_facts (get_or es i no_event) (all_at event_in_range es i no_event (enc.fits t fit rest).events h)).keysyms

  slots_ok_lem : slots_ok l (word_at l 5) ≡ true
  unfolding slots_ok
  slots_ok_lem =
      rw (enc.events_word t fit rest)
      (and_both (every (keysyms_ok l) 0 (length es)) (zero_in l keysym_sections (length es) 256)
      (every_all (keysyms_ok l) 0 (length es) (λ i h. rw zero-add (keysyms_ok_lem i h))) unused_events.1)

  call_of_lem : (i : ℕ) → i < length cs → CallFacts t (get_or cs i no_call)
  call_of_lem i h = call_facts t (get_or cs i no_call) (all_at (call_in_range t) cs i no_call (enc.fits t fit rest).calls h)

  text_at : (i : ℕ) → i < length cs → length_of_text (word_at l (marks_at + i)) (word_at l 2) (word_at l 3) ≡ text_length t (get_or cs i no_call).second
  text_at i h =
      rw (enc.mark_word_lem t fit rest i (calls_below i h), enc.first_word t fit rest, enc.second_word t fit rest)
      (text_of t (get_or cs i no_call).second)

  call_ok_lem : (i : ℕ) → i < length cs → call_ok l i ≡ true
  unfolding call_ok call_words_ok
  call_ok_lem i h =
      let b = calls_below i h in
      let r : CallFacts t (get_or cs i no_call) = call_of_lem i h in
      let few : leb (length (get_or cs i no_call).parameters) 8 ≡ true = all_at (λ (c : Call). leb (length c.parameters) 8) cs i no_call (few_parameters_lem ps (enc.limits t fit rest)) h in
      let c : Call = get_or cs i no_call in
      rw (text_at i h, enc.mark_word_lem t fit rest i b, enc.name_start_word t fit rest i b, enc.name_length_word t fit rest i b, enc.call_parameters_word t fit rest i b, enc.merged_word_lem t fit rest)
      (chain_all (leb (flag 1 (get_or cs i no_call).second) (flag 1 t.merged))
      (leb (length (get_or cs i no_call).parameters) 8 ∷ leb ((get_or cs i no_call).name.start + (get_or cs i no_call).name.len) (text_length t (get_or cs i no_call).second) ∷ []) (
        le-leb (flag 1 (get_or cs i no_call).second) (flag 1 t.merged) (mark_small t.merged (get_or cs i no_call).second r.mark),
        (
          few,
          (le-leb ((get_or cs i no_call).name.start + (get_or cs i no_call).name.len) (text_length t (get_or cs i no_call).second) r.name, tt),
        ),
      ))

  -- a parameter of call i, among all
  place : (i k : ℕ) → i < length cs → k < length (get_or cs i no_call).parameters
      → total (λ q. length (get_or cs q no_call).parameters) 0 i + k < length rs
  place i k h q =
      omega (arith, rw zero-add at (total_part (λ r. length (get_or cs r no_call).parameters) 0 i (length cs) h), length_flat (λ (c : Call). c.parameters) cs, in_all_total (λ (c : Call). length c.parameters) cs no_call)

  parameter_ok_lem : (i k : ℕ) → i < length cs → k < length (get_or cs i no_call).parameters
      → parameter_ok l (text_length t (get_or cs i no_call).second) (total (λ q. length (get_or cs q no_call).parameters) 0 i + k) ≡ true
  unfolding parameter_ok span_in_text
  parameter_ok_lem i k h q =
      let at : ℕ = total (λ q. length (get_or cs q no_call).parameters) 0 i + k in
      let b = parameters_below (total (λ q. length (get_or cs q no_call).parameters) 0 i + k) (place i k h q) in
      rw (
        enc.parameter_start_word t fit rest (total (λ q. length (get_or cs q no_call).parameters) 0 i + k) b,
        enc.parameter_length_word t fit rest (total (λ q. length (get_or cs q no_call).parameters) 0 i + k) b,
        flat_at (λ (c : Call). c.parameters) cs no_call no_span i k h q,
      )
      (all_at (span_in_text (text_length t (get_or cs i no_call).second)) (get_or cs i no_call).parameters k no_span (call_of_lem i h).parameters q)

  parameters_ok_lem : (i : ℕ) → i < length cs → parameters_ok l i ≡ true
  unfolding parameters_ok
  parameters_ok_lem i h =
      let q : i ≤ length cs = omega arith in
      rw (text_at i h, enc.parameters_total t fit rest i q, enc.call_parameters_word t fit rest i (calls_below i h))
      (every_all (parameter_ok l (text_length t (get_or cs i no_call).second)) (total (λ q. length (get_or cs q no_call).parameters) 0 i) (length (get_or cs i no_call).parameters)
      (λ k p. parameter_ok_lem i k h p))

  size_at_lem : (i : ℕ) → i < length es → size_at l i ≡ event_size (get_or es i no_event)
  unfolding size_at
  size_at_lem i h = rw (enc.code_word_lem t fit rest i (events_below i h), enc.count_word t fit rest i (events_below i h))

  event_place : (i k : ℕ) → i < length ps → k < length (get_or ps i no_production).events
      → total (λ q. length (get_or ps q no_production).events) 0 i + k < length es
  event_place i k h q =
      omega (arith, rw zero-add at (total_part (λ r. length (get_or ps r no_production).events) 0 i (length ps) h), length_flat (λ (p : Production). p.events) ps, in_all_total (λ (p : Production). length p.events) ps no_production)

  production_size : (i : ℕ) → i < length ps
      → total (size_at l) (total (λ q. length (get_or ps q no_production).events) 0 i) (length (get_or ps i no_production).events) ≡ length (sequence (get_or ps i no_production))
  unfolding sequence
  production_size i h =
      total_same (size_at l) (λ k. event_size (get_or (get_or ps i no_production).events k no_event)) (total (λ q. length (get_or ps q no_production).events) 0 i) 0 (length (get_or ps i no_production).events)
      (λ k q. size_at_lem (total (λ q. length (get_or ps q no_production).events) 0 i + k) (event_place i k h q)
      ∙ ap event_size (flat_at (λ (p : Production). p.events) ps no_production no_event i k h q)
      ∙ rw zero-add)
      ∙ sym (length_expanded (get_or ps i no_production).events ∙ in_all_total event_size (get_or ps i no_production).events no_event)

  production_ok_lem : (i : ℕ) → i < length ps → production_ok l i ≡ true
  unfolding production_ok
  production_ok_lem i h =
      let q : i ≤ length ps = omega arith in
      let b = productions_below i h in
      let r : ProductionFacts (get_or ps i no_production) = production_facts (get_or ps i no_production) (not-true (production_passes (get_or ps i no_production)) (all_at (λ (p : Production). not (production_passes p)) ps i no_production (enc.limits t fit rest).each h)) in
      rw (enc.events_total t fit rest i q, enc.production_events_word t fit rest i b, enc.production_calls_word t fit rest i b, production_size i h)
      (chain_all (leb 1 (length (get_or ps i no_production).events)) (leb (length (get_or ps i no_production).calls) 8 ∷ leb (length (sequence (get_or ps i no_production))) 24 ∷ []) (
        all_at has_event ps i no_production (enc.fits t fit rest).has_events h,
        (
          le-leb (length (get_or ps i no_production).calls) 8 r.calls,
          (le-leb (length (sequence (get_or ps i no_production))) 24 r.size, tt),
        ),
      ))

  sizes_ok : total (size_at l) 0 (length es) ≤ 256
  unfolding sequence
  sizes_ok =
      let a = total_same (size_at l) (λ k. event_size (get_or es k no_event)) 0 0 (length es) (λ k q. rw zero-add (size_at_lem k q)) in
      let b = in_all_total event_size es no_event in
      let c = in_all_flat event_size (λ (p : Production). p.events) ps in
      let d = in_all_le (λ (p : Production). in_all event_size p.events) (λ (p : Production). length (sequence p)) ps (λ p. let e = length_expanded p.events in omega arith) in
      omega (arith, a, b, c, d, (enc.limits t fit rest).events)

  entries_ok_lem : entries_ok l ≡ true
  unfolding entries_ok
  entries_ok_lem =
      rw (enc.productions_word t fit rest, enc.events_word t fit rest, enc.calls_word t fit rest)
      (chain_all (every (event_ok l) 0 (length es))
      (every (call_ok l) 0 (length cs) ∷ every (parameters_ok l) 0 (length cs) ∷ every (production_ok l) 0 (length ps) ∷ leb (total (size_at l) 0 (length es)) 256 ∷ []) (
        every_all (event_ok l) 0 (length es) (λ i h. rw zero-add (event_ok_lem i h)),
        (
          every_all (call_ok l) 0 (length cs) (λ i h. rw zero-add (call_ok_lem i h)),
          (
            every_all (parameters_ok l) 0 (length cs) (λ i h. rw zero-add (parameters_ok_lem i h)),
            (
              every_all (production_ok l) 0 (length ps) (λ i h. rw zero-add (production_ok_lem i h)),
              (le-leb (total (size_at l) 0 (length es)) 256 sizes_ok, tt),
            ),
          ),
        ),
      ))

  pub checks_encode : checks (encode t ++ rest) ≡ true
  unfolding checks
  checks_encode =
      let b : table_length ≤ length l = omega (arith, length-append (encode t) rest, length_encode t fit) in
      rw (le-ltb (length l) table_length b, header_ok_lem, sums_ok_lem) (chain_all (unused_ok l) (slots_ok l (word_at l 5) ∷ entries_ok l ∷ []) (unused_ok_lem, (slots_ok_lem, (entries_ok_lem, tt))))
