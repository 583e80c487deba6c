-- What a table within limits and ranges says of its parts.
use Prim.Native.Nat.{ℕ, ◌+◌, ◌≤◌}
use native.Mathlib.Omega.{arith}
use mathlib.Core.Path.{◌≡◌}
use mathlib.Core.List.{List, [], ◌∷◌}
use mathlib.Core.Bool.{Bool, true, false, not, ◌||◌}
use lib.Dec.{leb, ltb}
use lib.ListN.{length}
use borrow.Author.Tests.{leb-true, ltb-false, le-leb, le-ltb, not-true}
use Rattle.words.proofs.Bools.{or_no_left, or_no_right, or_neither, chain_parts, chain_all, AllTrue}
use Rattle.model.specs.Lists.{all, any, in_all}
use Rattle.model.specs.Counts.{sequence}
use Rattle.model.specs.Compiling.{production_passes, totals_pass, passes_limit}
use Rattle.model.specs.Tables.{Call, Production, Table}
use Rattle.model.specs.declared.scan.Span.{Span}
use Rattle.tables.specs.Layout.{all_events, all_calls, all_parameters}
use Rattle.tables.specs.Fitting.{event_in_range, span_in_text, text_length, call_in_range, texts_in_range, has_event, fitting}
use Rattle.tables.proofs.Lists.{none_all, all_none, all_weaker, all_flat, length_flat, in_all_flat, in_all_le}
use Rattle.tables.proofs.Sizes.{length_expanded, length_le_size}

-- ---- The whole

pub record FitFacts (t : Table) : Type 0 where
  pub texts : texts_in_range t ≡ true
  pub has_events : all has_event t.productions ≡ true
  pub events : all event_in_range (all_events t.productions) ≡ true
  pub calls : all (call_in_range t) (all_calls t.productions) ≡ true
  pub limit : passes_limit t.productions ≡ false

abbrev fit_tests : Table → List Bool
fit_tests t =
    all has_event t.productions
    ∷ all event_in_range (all_events t.productions)
    ∷ all (call_in_range t) (all_calls t.productions)
    ∷ not (passes_limit t.productions)
    ∷ []

pub fit_facts : (t : Table) → fitting t ≡ true → FitFacts t
unfolding fitting
fit_facts t e =
    let r : AllTrue (texts_in_range t ∷ fit_tests t) = chain_parts (texts_in_range t) (fit_tests t) e in
    record {
      texts = r.0;
      has_events = r.1.0;
      events = r.1.1.0;
      calls = r.1.1.1.0;
      limit = not-true (passes_limit t.productions) r.1.1.1.1.0;
    }

pub facts_fit : (t : Table) → FitFacts t → fitting t ≡ true
unfolding fitting
facts_fit t r =
    chain_all (texts_in_range t) (fit_tests t)
    (r.texts, (r.has_events, (r.events, (r.calls, (rw r.limit, tt)))))

-- ---- Texts

pub record TextFacts (t : Table) : Type 0 where
  pub first : t.first_length ≤ 8192
  pub second : t.second_length ≤ 8192
  pub unused : (t.merged || leb t.second_length 0) ≡ true

pub text_facts : (t : Table) → texts_in_range t ≡ true → TextFacts t
unfolding texts_in_range
text_facts t e =
    let r : AllTrue (leb t.first_length 8192 ∷ leb t.second_length 8192 ∷ (t.merged || leb t.second_length 0) ∷ []) = chain_parts (leb t.first_length 8192) (leb t.second_length 8192 ∷ (t.merged || leb t.second_length 0) ∷ []) e in
    record { first = leb-true t.first_length 8192 r.0; second = leb-true t.second_length 8192 r.1.0; unused = r.1.1.0 }

pub facts_text : (t : Table) → TextFacts t → texts_in_range t ≡ true
unfolding texts_in_range
facts_text t r =
    chain_all (leb t.first_length 8192) (leb t.second_length 8192 ∷ (t.merged || leb t.second_length 0) ∷ [])
    (le-leb t.first_length 8192 r.first, (le-leb t.second_length 8192 r.second, (r.unused, tt)))

text_below : (t : Table) → TextFacts t → (b : Bool) → text_length t b ≤ 8192
text_below t r true = r.second
text_below t r false = r.first

-- ---- Calls

pub record CallFacts (t : Table) (c : Call) : Type 0 where
  pub mark : (t.merged || not c.second) ≡ true
  pub name : c.name.start + c.name.len ≤ text_length t c.second
  pub parameters : all (span_in_text (text_length t c.second)) c.parameters ≡ true

pub call_facts : (t : Table) (c : Call) → call_in_range t c ≡ true → CallFacts t c
unfolding call_in_range span_in_text
call_facts t c e =
    let r : AllTrue ((t.merged || not c.second) ∷ span_in_text (text_length t c.second) c.name ∷ all (span_in_text (text_length t c.second)) c.parameters ∷ []) = chain_parts (t.merged || not c.second) (span_in_text (text_length t c.second) c.name ∷ all (span_in_text (text_length t c.second)) c.parameters ∷ []) e in
    record { mark = r.0; name = leb-true (c.name.start + c.name.len) (text_length t c.second) r.1.0; parameters = r.1.1.0 }

pub facts_call : (t : Table) (c : Call) → CallFacts t c → call_in_range t c ≡ true
unfolding call_in_range span_in_text
facts_call t c r =
    chain_all (t.merged || not c.second) (span_in_text (text_length t c.second) c.name ∷ all (span_in_text (text_length t c.second)) c.parameters ∷ [])
    (r.mark, (le-leb (c.name.start + c.name.len) (text_length t c.second) r.name, (r.parameters, tt)))

-- spans are within 8,192 bytes
pub short_span : Span → Bool
short_span s = span_in_text 8192 s

pub short_spans : (t : Table) → TextFacts t → (cs : List Call) → all (call_in_range t) cs ≡ true → all short_span (all_parameters cs) ≡ true
unfolding short_span span_in_text
short_spans t r cs e =
    all_flat short_span (λ (c : Call). c.parameters) cs
    (all_weaker (call_in_range t) (λ (c : Call). all short_span c.parameters) cs
    (λ c q. all_weaker (span_in_text (text_length t c.second)) short_span c.parameters (λ s p. shorter c s p) (call_facts t c q).parameters) e)
  where
    shorter : (c : Call) (s : Span) → span_in_text (text_length t c.second) s ≡ true → short_span s ≡ true
    shorter c s p =
        let m = text_below t r c.second in
        let q = leb-true (s.start + s.len) (text_length t c.second) p in
        le-leb (s.start + s.len) 8192 (omega arith)

pub short_names : (t : Table) → TextFacts t → (cs : List Call) → all (call_in_range t) cs ≡ true → all (λ (c : Call). short_span c.name) cs ≡ true
unfolding short_span span_in_text
short_names t r cs e = all_weaker (call_in_range t) (λ (c : Call). short_span c.name) cs (λ c q. shorter c q) e
  where
    shorter : (c : Call) → call_in_range t c ≡ true → short_span c.name ≡ true
    shorter c q =
        let m = text_below t r c.second in
        let p = (call_facts t c q).name in
        le-leb (c.name.start + c.name.len) 8192 (omega arith)

pub short_facts : (s : Span) → short_span s ≡ true → s.start + s.len ≤ 8192
unfolding short_span span_in_text
short_facts s e = leb-true (s.start + s.len) 8192 e

-- ---- Limits

pub record ProductionFacts (p : Production) : Type 0 where
  pub size : length (sequence p) ≤ 24
  pub calls : length p.calls ≤ 8
  pub parameters : all (λ (c : Call). leb (length c.parameters) 8) p.calls ≡ true

few : (cs : List Call) → any (λ (c : Call). ltb 8 (length c.parameters)) cs ≡ false → all (λ (c : Call). leb (length c.parameters) 8) cs ≡ true
few cs e =
    all_weaker (λ (c : Call). not (ltb 8 (length c.parameters))) (λ (c : Call). leb (length c.parameters) 8) cs
    (λ c q. le-leb (length c.parameters) 8 (ltb-false 8 (length c.parameters) (not-true (ltb 8 (length c.parameters)) q)))
    (none_all (λ (c : Call). ltb 8 (length c.parameters)) cs e)

few_back : (cs : List Call) → all (λ (c : Call). leb (length c.parameters) 8) cs ≡ true → any (λ (c : Call). ltb 8 (length c.parameters)) cs ≡ false
few_back cs e =
    all_none (λ (c : Call). ltb 8 (length c.parameters)) cs
    (all_weaker (λ (c : Call). leb (length c.parameters) 8) (λ (c : Call). not (ltb 8 (length c.parameters))) cs
    (λ c q. rw (le-ltb 8 (length c.parameters) (leb-true (length c.parameters) 8 q))) e)

pub production_facts : (p : Production) → production_passes p ≡ false → ProductionFacts p
unfolding production_passes
production_facts p e =
    let ab = or_no_left (ltb 24 (length (sequence p)) || ltb 8 (length p.calls)) (any (λ (c : Call). ltb 8 (length c.parameters)) p.calls) e in
    let c3 = or_no_right (ltb 24 (length (sequence p)) || ltb 8 (length p.calls)) (any (λ (c : Call). ltb 8 (length c.parameters)) p.calls) e in
    record {
      size = ltb-false 24 (length (sequence p)) (or_no_left (ltb 24 (length (sequence p))) (ltb 8 (length p.calls)) ab);
      calls = ltb-false 8 (length p.calls) (or_no_right (ltb 24 (length (sequence p))) (ltb 8 (length p.calls)) ab);
      parameters = few p.calls c3;
    }

pub facts_production : (p : Production) → ProductionFacts p → production_passes p ≡ false
unfolding production_passes
facts_production p r =
    or_neither (ltb 24 (length (sequence p)) || ltb 8 (length p.calls)) (any (λ (c : Call). ltb 8 (length c.parameters)) p.calls)
    (or_neither (ltb 24 (length (sequence p))) (ltb 8 (length p.calls)) (le-ltb 24 (length (sequence p)) r.size) (le-ltb 8 (length p.calls) r.calls))
    (few_back p.calls r.parameters)

pub record LimitFacts (ps : List Production) : Type 0 where
  pub each : all (λ (p : Production). not (production_passes p)) ps ≡ true
  pub productions : length ps ≤ 64
  pub events : in_all (λ (p : Production). length (sequence p)) ps ≤ 256
  pub calls : in_all (λ (p : Production). length p.calls) ps ≤ 128
  pub parameters : in_all (λ (p : Production). in_all (λ (c : Call). length c.parameters) p.calls) ps ≤ 256

module _ (ps : List Production) where
  abbrev es : ℕ
  es = in_all (λ (p : Production). length (sequence p)) ps

  abbrev cs : ℕ
  cs = in_all (λ (p : Production). length p.calls) ps

  abbrev rs : ℕ
  rs = in_all (λ (p : Production). in_all (λ (c : Call). length c.parameters) p.calls) ps

  pub limit_facts : passes_limit ps ≡ false → LimitFacts ps
  unfolding passes_limit totals_pass
  limit_facts e =
      let t = or_no_right (any production_passes ps) (totals_pass ps) e in
      let abc = or_no_left (ltb 64 (length ps) || ltb 256 es || ltb 128 cs) (ltb 256 rs) t in
      let ab = or_no_left (ltb 64 (length ps) || ltb 256 es) (ltb 128 cs) abc in
      record {
        each = none_all production_passes ps (or_no_left (any production_passes ps) (totals_pass ps) e);
        productions = ltb-false 64 (length ps) (or_no_left (ltb 64 (length ps)) (ltb 256 es) ab);
        events = ltb-false 256 es (or_no_right (ltb 64 (length ps)) (ltb 256 es) ab);
        calls = ltb-false 128 cs (or_no_right (ltb 64 (length ps) || ltb 256 es) (ltb 128 cs) abc);
        parameters = ltb-false 256 rs (or_no_right (ltb 64 (length ps) || ltb 256 es || ltb 128 cs) (ltb 256 rs) t);
      }

  pub facts_limit : LimitFacts ps → passes_limit ps ≡ false
  unfolding passes_limit totals_pass
  facts_limit r =
      or_neither (any production_passes ps) (totals_pass ps) (all_none production_passes ps r.each)
      (or_neither (ltb 64 (length ps) || ltb 256 es || ltb 128 cs) (ltb 256 rs)
      (or_neither (ltb 64 (length ps) || ltb 256 es) (ltb 128 cs)
      (or_neither (ltb 64 (length ps)) (ltb 256 es) (le-ltb 64 (length ps) r.productions) (le-ltb 256 es r.events))
      (le-ltb 128 cs r.calls))
      (le-ltb 256 rs r.parameters))

  -- how many entries there are in all
  pub events_in_all_lem : LimitFacts ps → length (all_events ps) ≤ 256
  unfolding sequence
  events_in_all_lem r =
      omega (
        arith,
        length_flat (λ (p : Production). p.events) ps,
        r.events,
        in_all_le (λ (p : Production). length p.events) (λ (p : Production). length (sequence p)) ps
            (λ p. let e = length_expanded p.events in let f = length_le_size p.events in omega arith),
      )

  pub calls_in_all_lem : LimitFacts ps → length (all_calls ps) ≤ 128
  calls_in_all_lem r = omega (arith, length_flat (λ (p : Production). p.calls) ps, r.calls)

  pub parameters_in_all_lem : LimitFacts ps → length (all_parameters (all_calls ps)) ≤ 256
  parameters_in_all_lem r =
      omega (
        arith,
        length_flat (λ (c : Call). c.parameters) (all_calls ps),
        r.parameters,
        in_all_flat (λ (c : Call). length c.parameters) (λ (p : Production). p.calls) ps,
      )

  -- 8 parameters a call
  pub few_parameters_lem : LimitFacts ps → all (λ (c : Call). leb (length c.parameters) 8) (all_calls ps) ≡ true
  few_parameters_lem r =
      all_flat (λ (c : Call). leb (length c.parameters) 8) (λ (p : Production). p.calls) ps
      (all_weaker (λ (p : Production). not (production_passes p)) (λ (p : Production). all (λ (c : Call). leb (length c.parameters) 8) p.calls) ps
      (λ p q. (production_facts p (not-true (production_passes p) q)).parameters) r.each)
