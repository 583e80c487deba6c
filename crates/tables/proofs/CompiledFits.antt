-- Every table that a text compiles to fits.
use Prim.Native.Nat.{ℕ, zero, suc, ◌+◌, ◌-◌, ◌≤◌, ◌<◌}
use native.Mathlib.Omega.{arith}
use mathlib.Core.Path.{◌≡◌, refl, ap}
use mathlib.Core.List.{List, [], ◌∷◌, ◌++◌, map, append-nil}
use mathlib.Core.Bool.{Bool, true, false, cond, not, ◌||◌}
use Rattle.std.specs.Prelude.{Option, None, Some}
use lib.Dec.{leb, ltb}
use lib.ListN.{length, take, drop, length-drop}
use borrow.Author.Tests.{le-leb, leb-true, leb-false, ltb-false, eqb-true}
use Rattle.words.proofs.Bools.{and_right, and_both, chain_all}
use Rattle.model.specs.Lists.{all, earliest}
use Rattle.model.specs.Bytes.{is_tab, is_newline, in_range, is_allowed, first_bad_byte}
use Rattle.model.specs.Lines.{line_end, line_at, is_blank_line, directive_at}
use Rattle.model.specs.Events.{WrittenEvent, EventsRead, events, left_side}
use Rattle.model.specs.Calls.{WrittenCall, CallsRead, calls, right_side}
use Rattle.model.specs.Judging.{judged}
use Rattle.model.specs.Tables.{Production, Table}
use Rattle.model.specs.Compiling.{totals_pass, passes_limit, with_calls, with_events, line_read, EventsJudged, keep, crowded, keep_one_more, crowded_with, judged_next, judged_all, in_text, call_of, LineOutcome, add, line_judged, line_from, line_outcome, Outcome, accepted, refused, table_of, go_on, after_line, after_directive, lines_from, lines_of, after_bytes, compiled}
use Rattle.model.specs.declared.scan.Span.{Span}
use Rattle.model.specs.declared.events.KeptEvent.{KeptEvent}
use Rattle.model.specs.declared.events.Directive.{Directive}
use Rattle.model.specs.declared.answers.Judged.{Judged}
use Rattle.tables.specs.Layout.{flat, all_events, all_calls, encode}
use Rattle.tables.specs.Reading.{decode}
use Rattle.tables.specs.Whole.{whole}
use Rattle.tables.proofs.Theorems.{whole_encode, decode_encode}
use Rattle.tables.specs.Fitting.{event_in_range, span_in_text, call_in_range, has_event, fitting}
use Rattle.tables.proofs.Lists.{flat_append, all_append}
use Rattle.tables.proofs.Facts.{facts_fit, facts_text}
use Rattle.tables.proofs.Positions.{cond_both, Small, small_take, small_drop}
use Rattle.tables.proofs.CallSpans.{Within, AllWithin, CallWithin, CallsWithin, CallsGood, calls_good}
use Rattle.tables.proofs.EventsRead.{AllSmall, AnyEvent, Good, left_good}
use Rattle.tables.proofs.JudgedRange.{InRange, judged_range}

-- ---- Events

abbrev KeptGood : List WrittenEvent → EventsJudged → Type 0
KeptGood es (keep ks) = (all event_in_range ks ≡ true) × (length ks ≡ length es)
KeptGood es crowded = Unit
KeptGood es (EventsJudged.refuse n) = Unit

kept_more : (e : WrittenEvent) (es : List WrittenEvent) (k : KeptEvent) (r : EventsJudged) → event_in_range k ≡ true → KeptGood es r → KeptGood (e ∷ es) (keep_one_more k r)
kept_more e es k (keep ks) a g = (and_both (event_in_range k) (all event_in_range ks) a g.0, ap suc g.1)
kept_more e es k crowded a g = tt
kept_more e es k (EventsJudged.refuse n) a g = tt

-- a crowded event keeps none
kept_crowded : (e : WrittenEvent) (es : List WrittenEvent) (r : EventsJudged) → KeptGood (e ∷ es) (crowded_with r)
kept_crowded e es (keep ks) = tt
kept_crowded e es crowded = tt
kept_crowded e es (EventsJudged.refuse n) = tt

kept_next : (e : WrittenEvent) (es : List WrittenEvent) (j : Judged) (r : EventsJudged) → InRange j → KeptGood es r → KeptGood (e ∷ es) (judged_next j r)
kept_next e es (Judged.Keep k) r a g = kept_more e es k r a g
kept_next e es Judged.Crowded r a g = kept_crowded e es r
kept_next e es (Judged.Refuse n) r a g = tt

kept_all_lem : (es : List WrittenEvent) → AllSmall es → KeptGood es (judged_all es)
unfolding judged_all
kept_all_lem [] s = (refl, refl)
kept_all_lem (e ∷ es) s = kept_next e es (judged e) (judged_all es) (judged_range e s.0) (kept_all_lem es s.1)

-- ---- Calls

-- a table of no entries, with a text of n bytes: what a call's range is judged by
abbrev bare : ℕ → Table
bare n = record { directive = Directive.Replace; merged = false; first_length = n; second_length = 0; productions = [] }

span_in : (base m n : ℕ) (s : Span) → Within m s → base + m ≤ n → span_in_text n (in_text base s) ≡ true
unfolding span_in_text
span_in base m n s w h = le-leb (base + s.start + s.len) n (omega arith)

spans_in_lem : (base m n : ℕ) (ss : List Span) → AllWithin m ss → base + m ≤ n → all (span_in_text n) (map (in_text base) ss) ≡ true
spans_in_lem base m n [] w h = refl
spans_in_lem base m n (s ∷ ss) w h =
    and_both (span_in_text n (in_text base s)) (all (span_in_text n) (map (in_text base) ss)) (span_in base m n s w.0 h) (spans_in_lem base m n ss w.1 h)

call_in_lem : (base m n : ℕ) (c : WrittenCall) → CallWithin m c → base + m ≤ n → call_in_range (bare n) (call_of base c) ≡ true
unfolding call_in_range
call_in_lem base m n c w h =
    chain_all true (span_in_text n (in_text base c.name) ∷ all (span_in_text n) (map (in_text base) c.parameters) ∷ [])
    (refl, (span_in base m n c.name w.0 h, (spans_in_lem base m n c.parameters w.1 h, tt)))

calls_in_lem : (base m n : ℕ) (cs : List WrittenCall) → CallsWithin m cs → base + m ≤ n → all (call_in_range (bare n)) (map (call_of base) cs) ≡ true
calls_in_lem base m n [] w h = refl
calls_in_lem base m n (c ∷ cs) w h =
    and_both (call_in_range (bare n) (call_of base c)) (all (call_in_range (bare n)) (map (call_of base) cs)) (call_in_lem base m n c w.0 h) (calls_in_lem base m n cs w.1 h)

-- ---- A line

-- a production of a text of n bytes
pub record ProductionGood (n : ℕ) (p : Production) : Type 0 where
  pub some : has_event p ≡ true
  pub events : all event_in_range p.events ≡ true
  pub calls : all (call_in_range (bare n)) p.calls ≡ true

abbrev LineGood : ℕ → List Production → LineOutcome → Type 0
LineGood n before (add p) = ProductionGood n p × (passes_limit (before ++ (p ∷ [])) ≡ false)
LineGood n before (LineOutcome.refuse k) = Unit

at_least_one : (es : List WrittenEvent) → AnyEvent es → 1 ≤ length es
at_least_one [] s = absurd s
at_least_one (e ∷ es) s = omega arith

judged_good : (n base m : ℕ) (before : List Production) (es : List WrittenEvent) (j : EventsJudged) (cs : List WrittenCall) → AnyEvent es → KeptGood es j → CallsWithin m cs → base + m ≤ n
    → LineGood n before (line_judged before base j cs)
judged_good n base m before es (keep ks) cs s g w h =
    cond_both (LineGood n before) (passes_limit (before ++ (record { events = ks; calls = map (call_of base) cs } ∷ []))) (LineOutcome.refuse 11) (add (record { events = ks; calls = map (call_of base) cs }))
    (λ _. tt)
    (λ e. (record { some = le-leb 1 (length ks) (let a = at_least_one es s in let b = g.1 in omega arith); events = g.0; calls = calls_in_lem base m n cs w h }, e))
judged_good n base m before es crowded cs s g w h = tt
judged_good n base m before es (EventsJudged.refuse k) cs s g w h = tt

calls_line : (n base m : ℕ) (before : List Production) (es : List WrittenEvent) (r : CallsRead) → AllSmall es → AnyEvent es → CallsGood m r → base + m ≤ n
    → LineGood n before (line_from before base (with_calls es r))
calls_line n base m before es CallsRead.broken a s g h = tt
calls_line n base m before es (calls cs) a s g h = judged_good n base m before es (judged_all es) cs s (kept_all_lem es a) g h

events_line : (n base : ℕ) (before : List Production) (line : List ℕ) (r : EventsRead) → Good r → base + length line ≤ n → LineGood n before (line_from before base (with_events line r))
unfolding right_side
events_line n base before line EventsRead.broken g h = tt
events_line n base before line (events es next) g h =
    calls_line n base (length line) before es (right_side line next) g.0 g.1 (calls_good (length line + 1) line next) h

line_good : (n base : ℕ) (before : List Production) (line : List ℕ) → Small line → base + length line ≤ n → LineGood n before (line_outcome before base line)
unfolding line_outcome line_read
line_good n base before line s h = events_line n base before line (left_side line) (left_good line s) h

-- ---- A text

record Kept (n : ℕ) (ps : List Production) : Type 0 where
  pub some : all has_event ps ≡ true
  pub events : all event_in_range (all_events ps) ≡ true
  pub calls : all (call_in_range (bare n)) (all_calls ps) ≡ true
  pub limit : passes_limit ps ≡ false

none_kept : (n : ℕ) → Kept n []
unfolding flat passes_limit totals_pass
none_kept n = record { some = refl; events = refl; calls = refl; limit = refl }

one_flat : {B : Type 0} (f : Production → List B) (p : Production) → flat f (p ∷ []) ≡ f p
unfolding flat
one_flat f p = append-nil (f p)

more_kept : (n : ℕ) (ps : List Production) (p : Production) → Kept n ps → ProductionGood n p → passes_limit (ps ++ (p ∷ [])) ≡ false → Kept n (ps ++ (p ∷ []))
more_kept n ps p k g e =
    record {
      some = all_append has_event ps (p ∷ []) k.some (and_both (has_event p) true g.some refl);
      events = rw (flat_append (λ (p : Production). p.events) ps (p ∷ []), one_flat (λ (p : Production). p.events) p) (all_append event_in_range (all_events ps) p.events k.events g.events);
      calls = rw (flat_append (λ (p : Production). p.calls) ps (p ∷ []), one_flat (λ (p : Production). p.calls) p) (all_append (call_in_range (bare n)) (all_calls ps) p.calls k.calls g.calls);
      limit = e;
    }

abbrev Fits : Outcome → Type 0
Fits (accepted t) = fitting t ≡ true
Fits (refused n p) = Unit

module _ (text : List ℕ) (small : Small text) (short : length text ≤ 8192) where
  table_fits : (d : Directive) (ps : List Production) → Kept (length text) ps → fitting (table_of text d ps) ≡ true
  unfolding call_in_range
  table_fits d ps k =
      facts_fit (table_of text d ps)
      (record {
        texts = facts_text (table_of text d ps) (record { first = short; second = omega arith; unused = refl });
        has_events = k.some;
        events = k.events;
        calls = k.calls;
        limit = k.limit;
      })

  Next : (ℕ → Directive → List Production → Outcome) → Type 0
  Next rest = (p : ℕ) (d : Directive) (qs : List Production) → p ≤ length text → Kept (length text) qs → Fits (rest p d qs)

  go_on_lem : (end : ℕ) (d : Directive) (ps : List Production) (rest : ℕ → Directive → List Production → Outcome) → Kept (length text) ps → Next rest → Fits (go_on text end d ps rest)
  unfolding Next
  go_on_lem end d ps rest k f =
      cond_both Fits (leb (length text) end) (accepted (table_of text d ps)) (rest (end + 1) d ps)
      (λ _. table_fits d ps k)
      (λ e. f (end + 1) d ps (let h = leb-false (length text) end e in omega arith) k)

  after_line_lem : (at : ℕ) (d : Directive) (ps : List Production) (o : LineOutcome) (rest : ℕ → Directive → List Production → Outcome) → Kept (length text) ps → LineGood (length text) ps o → Next rest
      → Fits (after_line text at d ps o rest)
  after_line_lem at d ps (add p) rest k g f = go_on_lem (line_end text at) d (ps ++ (p ∷ [])) rest (more_kept (length text) ps p k g.0 g.1) f
  after_line_lem at d ps (LineOutcome.refuse n) rest k g f = tt

  take_le : (n : ℕ) (l : List ℕ) → length (take n l) ≤ length l
  take_le zero l = omega arith
  take_le (suc n) [] = omega arith
  take_le (suc n) (x ∷ xs) = let h = take_le n xs in omega arith

  line_within : (at : ℕ) → at ≤ length text → at + length (line_at text at) ≤ length text
  unfolding line_at
  line_within at h = omega (arith, take_le (line_end text at - at) (drop at text), length-drop at text)

  line_small : (at : ℕ) → Small (line_at text at)
  unfolding line_at
  line_small at = small_take (line_end text at - at) (drop at text) (small_drop at text small)

  after_directive_lem : (at : ℕ) (d : Directive) (ps : List Production) (r : Option Directive) (rest : ℕ → Directive → List Production → Outcome) → at ≤ length text → Kept (length text) ps → Next rest
      → Fits (after_directive text at d ps r rest)
  after_directive_lem at d ps (Some e) rest h k f = go_on_lem (line_end text at) e ps rest k f
  after_directive_lem at d ps None rest h k f =
      cond_both Fits (is_blank_line (line_at text at)) (go_on text (line_end text at) d ps rest) (after_line text at d ps (line_outcome ps at (line_at text at)) rest)
      (λ _. go_on_lem (line_end text at) d ps rest k f)
      (λ _. after_line_lem at d ps (line_outcome ps at (line_at text at)) rest k (line_good (length text) at ps (line_at text at) (line_small at) (line_within at h)) f)

  lines_fit : (fuel at : ℕ) (d : Directive) (ps : List Production) → at ≤ length text → Kept (length text) ps → Fits (lines_from fuel text at d ps)
  unfolding lines_from Next
  lines_fit zero at d ps h k = tt
  lines_fit (suc fuel) at d ps h k =
      after_directive_lem at d ps (directive_at text at) (λ p e qs. lines_from fuel text p e qs) h k (λ p e qs q r. lines_fit fuel p e qs q r)

-- ---- Bytes

or_cases : {P : Type 0} (a b : Bool) → (a || b) ≡ true → (a ≡ true → P) → (b ≡ true → P) → P
or_cases true b e f g = f refl
or_cases false b e f g = g e

allowed_small : (b : ℕ) → is_allowed b ≡ true → b < 256
unfolding is_allowed
allowed_small b e =
    or_cases (is_tab b || is_newline b || in_range 32 b 126) (in_range 160 b 255) e
    (λ p. or_cases (is_tab b || is_newline b) (in_range 32 b 126) p
    (λ q. or_cases (is_tab b) (is_newline b) q (λ r. let h = eqb-true b 9 r in omega arith) (λ r. let h = eqb-true b 10 r in omega arith))
    (λ q. let h = leb-true b 126 (and_right (leb 32 b) (leb b 126) q) in omega arith))
    (λ p. let h = leb-true b 255 (and_right (leb 160 b) (leb b 255) p) in omega arith)

some_none : {P : Type 0} (i : ℕ) → ◌≡◌ {A = Option ℕ} (Some i) None → P
some_none i e = let z : ◌≡◌ {A = ℕ} 0 1 = cc in absurd (omega arith)

rest_small : (x : ℕ) (xs : List ℕ) → x < 256 → Small xs → Small (x ∷ xs)
rest_small x xs h s zero = h
rest_small x xs h s (suc k) = s k

split : (t : Bool) (x : ℕ) (xs : List ℕ) (i : ℕ) → is_allowed x ≡ t → cond (not (is_allowed x)) (Some i) (earliest (λ b. not (is_allowed b)) (suc i) xs) ≡ None
    → (earliest (λ b. not (is_allowed b)) (suc i) xs ≡ None → Small xs) → Small (x ∷ xs)
split true x xs i q e f = rest_small x xs (allowed_small x q) (f (rw q at e))
split false x xs i q e f = some_none i (rw q at e)

none_bad : (l : List ℕ) (i : ℕ) → earliest (λ b. not (is_allowed b)) i l ≡ None → Small l
none_bad [] i e = λ k. omega arith
none_bad (x ∷ xs) i e = split (is_allowed x) x xs i refl e (λ q. none_bad xs (suc i) q)

bytes_fit : (text : List ℕ) (r : Option ℕ) → first_bad_byte text ≡ r → length text ≤ 8192 → Fits (after_bytes text r)
unfolding first_bad_byte lines_of
bytes_fit text (Some p) e h = tt
bytes_fit text None e h = lines_fit text (none_bad text 0 e) h (length text + 1) 0 Directive.Replace [] (omega arith) (none_kept (length text))

outcome_fits : (text : List ℕ) → Fits (compiled text)
unfolding compiled
outcome_fits text =
    cond_both Fits (ltb 8192 (length text)) (refused 2 0) (after_bytes text (first_bad_byte text)) (λ _. tt)
    (λ e. bytes_fit text (first_bad_byte text) refl (ltb-false 8192 (length text) e))

-- a table that is accepted fits
pub compiled_fits : (text : List ℕ) (t : Table) → compiled text ≡ accepted t → fitting t ≡ true
compiled_fits text t e = rw e at (outcome_fits text)

-- so its bytes are whole, and read as it
pub compiled_whole : (text : List ℕ) (t : Table) (rest : List ℕ) → compiled text ≡ accepted t → whole (encode t ++ rest) ≡ true
compiled_whole text t rest e = whole_encode t (compiled_fits text t e) rest

pub compiled_decode : (text : List ℕ) (t : Table) (rest : List ℕ) → compiled text ≡ accepted t → decode (encode t ++ rest) ≡ t
compiled_decode text t rest e = decode_encode t (compiled_fits text t e) rest
