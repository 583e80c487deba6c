-- A line that adds a production: it fits what is left of the table, and once it is written the bytes hold the production.
use Prim.Native.Nat.{ℕ, ◌+◌, ◌≤◌, ◌<◌}
use native.Mathlib.Omega.{arith}
use mathlib.Core.Path.{◌≡◌, refl, sym, ap, ◌∙◌, subst}
use mathlib.Core.Bool.{Bool, true, false, cond}
use mathlib.Core.List.{List, [], ◌∷◌, ◌++◌, map}
use lib.ListN.{length, length-append, length-map}
use Rattle.model.specs.Lists.{in_all}
use Rattle.model.specs.Numbers.{past_limit}
use Rattle.model.specs.Events.{WrittenEvent, EventsRead, events, left_side}
use Rattle.model.specs.Calls.{WrittenCall, CallsRead, calls, right_side}
use Rattle.model.specs.Compiling.{passes_limit, with_calls, with_events, line_read, EventsJudged, keep, crowded, judged_all, call_of, LineOutcome, add, line_judged, line_from, line_outcome}
use Rattle.model.specs.Tables.{Call, Production}
use Rattle.model.specs.declared.events.KeptEvent.{KeptEvent}
use Rattle.event_scanner.specs.Spans.{events_in}
use Rattle.call_scanner.specs.RightSide.{parameter_number, calls_in}
use Rattle.lines.specs.Totals.{totals_of, held_line}
use Rattle.lines.specs.Line.{calls_found, calls_start}
use Rattle.tables.specs.Layout as layout
use Rattle.tables.specs.Layout.{Entries, all_events, all_calls, image}
use Rattle.tables.specs.Writing.{put_production}
use Rattle.tables.proofs.Lists.{length_flat, in_all_flat}
use Rattle.tables.proofs.Images.{Room}
use Rattle.tables.proofs.Facts.{limit_facts, events_in_all_lem, calls_in_all_lem, parameters_in_all_lem}
use Rattle.tables.proofs.Written as written
use Rattle.line_writer.specs.Puts.{put_written, put_calls}
use Rattle.line_writer.specs.Reads.{EventsFit, CallsFit}
use Rattle.line_writer.proofs.AllKept.{kept_length}
use Rattle.compiler.specs.WholeLine.{put_sides, put_line, LineFits}
use Rattle.compiler.specs.Held.{so_far, held}
use Rattle.compiler.proofs.Appended.{more_events, more_calls, put_events, put_calls_lem, so_far_more}

-- ---- What a line that adds a production is

abbrev pub production_of : ℕ → List KeptEvent → List WrittenCall → Production
production_of base ks cs = record { events = ks; calls = map (call_of base) cs }

pub record LineAdds (ps : List Production) (base : ℕ) (l : List ℕ) (p : Production) : Type 0 where
  pub es : List WrittenEvent
  pub next : ℕ
  pub ks : List KeptEvent
  pub cs : List WrittenCall
  pub left : left_side l ≡ events es next
  pub right : right_side l next ≡ calls cs
  pub kept : judged_all es ≡ keep ks
  pub is : p ≡ production_of base ks cs
  pub passes : passes_limit (ps ++ (p ∷ [])) ≡ false

module _ (ps : List Production) (base : ℕ) (l : List ℕ) (p : Production) where
  pick_adds : (es : List WrittenEvent) (next : ℕ) (ks : List KeptEvent) (cs : List WrittenCall) (b : Bool)
      → left_side l ≡ events es next → right_side l next ≡ calls cs → judged_all es ≡ keep ks
      → passes_limit (ps ++ (production_of base ks cs ∷ [])) ≡ b
      → cond b (LineOutcome.refuse past_limit) (add (production_of base ks cs)) ≡ add p → LineAdds ps base l p
  pick_adds es next ks cs true a b c d h = let z : ◌≡◌ {A = ℕ} 0 1 = cc in absurd (omega arith)
  pick_adds es next ks cs false a b c d h =
      let q : p ≡ production_of base ks cs = cc in
      record {
        es = es;
        next = next;
        ks = ks;
        cs = cs;
        left = a;
        right = b;
        kept = c;
        is = q;
        passes = ap (λ (r : Production). passes_limit (ps ++ (r ∷ []))) q ∙ d;
      }

  judged_adds : (es : List WrittenEvent) (next : ℕ) (j : EventsJudged) (cs : List WrittenCall) → left_side l ≡ events es next
      → right_side l next ≡ calls cs → judged_all es ≡ j → line_judged ps base j cs ≡ add p → LineAdds ps base l p
  judged_adds es next (keep ks) cs a b c h =
      pick_adds es next ks cs (passes_limit (ps ++ (production_of base ks cs ∷ []))) a b c refl h
  judged_adds es next crowded cs a b c h = let z : ◌≡◌ {A = ℕ} 0 1 = cc in absurd (omega arith)
  judged_adds es next (EventsJudged.refuse n) cs a b c h = let z : ◌≡◌ {A = ℕ} 0 1 = cc in absurd (omega arith)

  right_adds : (es : List WrittenEvent) (next : ℕ) (r : CallsRead) → left_side l ≡ events es next → right_side l next ≡ r
      → line_from ps base (with_calls es r) ≡ add p → LineAdds ps base l p
  right_adds es next CallsRead.broken a b h = let z : ◌≡◌ {A = ℕ} 0 1 = cc in absurd (omega arith)
  right_adds es next (calls cs) a b h = judged_adds es next (judged_all es) cs a b refl h

  left_adds : (r : EventsRead) → left_side l ≡ r → line_from ps base (with_events l r) ≡ add p → LineAdds ps base l p
  left_adds EventsRead.broken a h = let z : ◌≡◌ {A = ℕ} 0 1 = cc in absurd (omega arith)
  left_adds (events es next) a h = right_adds es next (right_side l next) a refl h

  pub line_adds : line_outcome ps base l ≡ add p → LineAdds ps base l p
  unfolding line_outcome line_read
  line_adds h = left_adds (left_side l) refl h

-- ---- Numbers

parameters_same : (base : ℕ) (cs : List WrittenCall) → length (layout.all_parameters (map (call_of base) cs)) ≡ in_all parameter_number cs
parameters_same base cs = length_flat (λ (c : Call). c.parameters) (map (call_of base) cs) ∙ each cs
  where
    each : (ds : List WrittenCall) → in_all (λ (c : Call). length c.parameters) (map (call_of base) ds) ≡ in_all parameter_number ds
    each [] = refl
    each (d ∷ ds) = let n = length-map d.parameters _ in λ i. n i + each ds i

-- totals are the numbers of entries
pub record TotalsAre (ps : List Production) : Type 0 where
  pub productions : (totals_of ps).productions ≡ length ps
  pub events : (totals_of ps).events ≡ length (all_events ps)
  pub calls : (totals_of ps).calls ≡ length (all_calls ps)
  pub parameters : (totals_of ps).parameters ≡ length (layout.all_parameters (all_calls ps))

pub totals_are : (ps : List Production) → TotalsAre ps
unfolding totals_of
totals_are ps =
    record {
      productions = refl;
      events = sym (length_flat (λ (p : Production). p.events) ps);
      calls = sym (length_flat (λ (p : Production). p.calls) ps);
      parameters =
          sym (length_flat (λ (c : Call). c.parameters) (all_calls ps)
          ∙ in_all_flat (λ (c : Call). length c.parameters) (λ (p : Production). p.calls) ps);
    }

pub so_far_room : (ps : List Production) → passes_limit ps ≡ false → Room (so_far ps)
so_far_room ps h =
    let f = limit_facts ps h in
    record {
      header = omega arith;
      production_events = omega (arith, length-map ps (λ (p : Production). length p.events), f.productions);
      production_calls = omega (arith, length-map ps (λ (p : Production). length p.calls), f.productions);
      events = events_in_all_lem ps f;
      calls = calls_in_all_lem ps f;
      parameters = parameters_in_all_lem ps f;
    }

module _ (ps : List Production) (base : ℕ) (l : List ℕ) (p : Production) (g : LineAdds ps base l p) where
  -- how many entries there are with the line's
  record Sums : Type 0 where
    productions : length ps < 64
    events : length (all_events ps) + length g.es ≤ 256
    calls : length (all_calls ps) + length g.cs ≤ 128
    parameters : length (layout.all_parameters (all_calls ps)) + in_all parameter_number g.cs ≤ 256
    kept : length p.events ≡ length g.es
    called : length p.calls ≡ length g.cs
    given : length (layout.all_parameters p.calls) ≡ in_all parameter_number g.cs

  sums : Sums
  sums =
      let x = so_far_more ps p in
      let f = so_far_room (ps ++ (p ∷ [])) g.passes in
      let es : length (all_events (ps ++ (p ∷ []))) ≡ length (all_events ps) + length p.events =
      sym (ap (λ (e : Entries). length e.events) x) ∙ length-append (all_events ps) p.events in
      let cs : length (all_calls (ps ++ (p ∷ []))) ≡ length (all_calls ps) + length p.calls =
      sym (ap (λ (e : Entries). length e.calls) x) ∙ length-append (all_calls ps) p.calls in
      let rs : length (layout.all_parameters (all_calls (ps ++ (p ∷ [])))) ≡ length (layout.all_parameters (all_calls ps)) + length (layout.all_parameters p.calls) =
      sym (ap (λ (e : Entries). length e.parameters) x) ∙ length-append (layout.all_parameters (all_calls ps)) (layout.all_parameters p.calls) in
      let k : length p.events ≡ length g.es = ap (λ (q : Production). length q.events) g.is ∙ kept_length g.es g.ks g.kept in
      let d : length p.calls ≡ length g.cs = ap (λ (q : Production). length q.calls) g.is ∙ length-map g.cs (call_of base) in
      let r : length (layout.all_parameters p.calls) ≡ in_all parameter_number g.cs =
      ap (λ (q : Production). length (layout.all_parameters q.calls)) g.is ∙ parameters_same base g.cs in
      record {
        productions = omega (arith, (limit_facts (ps ++ (p ∷ [])) g.passes).productions, length-append ps (p ∷ []));
        events = omega (arith, f.events);
        calls = omega (arith, f.calls);
        parameters = omega (arith, f.parameters);
        kept = k;
        called = d;
        given = r;
      }

  start : calls_start l ≡ g.next
  unfolding calls_start
  start = ap calls_found g.left

  -- ---- The line fits

  pub line_fits : LineFits l (totals_of ps) (held_line (calls_start l) p)
  unfolding held_line
  line_fits =
      let n = totals_are ps in
      let s = sums in
      let e : (totals_of ps).events + length g.es ≤ 256 = omega (arith, n.events, s.events) in
      let c : ((totals_of ps).calls + length g.cs ≤ 128) × ((totals_of ps).parameters + in_all parameter_number g.cs ≤ 256) =
      (omega (arith, n.calls, s.calls), omega (arith, n.parameters, s.parameters)) in
      record {
        events = subst (λ (r : EventsRead). EventsFit r (totals_of ps).events) (sym g.left) e;
        calls = subst (λ (r : CallsRead). CallsFit r (totals_of ps).calls (totals_of ps).parameters) (sym (ap (right_side l) start ∙ g.right)) c;
        production = omega (arith, n.productions, s.productions);
        few_events = omega (arith, s.kept, s.events);
        few_calls = omega (arith, s.called, s.calls);
      }

  -- ---- The bytes once it is written

  room₁ : passes_limit ps ≡ false → Room (more_events (so_far ps) p.events)
  room₁ h =
      let r = so_far_room ps h in
      let s = sums in
      record {
        header = r.header;
        production_events = r.production_events;
        production_calls = r.production_calls;
        events = omega (arith, length-append (all_events ps) p.events, s.kept, s.events);
        calls = r.calls;
        parameters = r.parameters;
      }

  room₂ : passes_limit ps ≡ false → Room (more_calls (more_events (so_far ps) p.events) p.calls)
  room₂ h =
      let r = room₁ h in
      let s = sums in
      record {
        header = r.header;
        production_events = r.production_events;
        production_calls = r.production_calls;
        events = r.events;
        calls = omega (arith, length-append (all_calls ps) p.calls, s.called, s.calls);
        parameters = omega (arith, length-append (layout.all_parameters (all_calls ps)) (layout.all_parameters p.calls), s.given, s.parameters);
      }

  module _ (rest : List ℕ) (h : passes_limit ps ≡ false) where
    step₁ : put_written (image (so_far ps) ++ rest) (totals_of ps).events (events_in (left_side l))
        ≡ image (more_events (so_far ps) p.events) ++ rest
    step₁ =
        let n = totals_are ps in
        let s = sums in
        ap (λ (r : EventsRead). put_written (image (so_far ps) ++ rest) (totals_of ps).events (events_in r)) g.left
        ∙ put_events rest g.es p.events (so_far ps) (totals_of ps).events (so_far_room ps h)
        (g.kept ∙ ap (λ (q : Production). keep q.events) (sym g.is))
        n.events
        (omega (arith, n.events, s.events))

    step₂ : put_calls (image (more_events (so_far ps) p.events) ++ rest) (totals_of ps).calls (totals_of ps).parameters (map (call_of base) (calls_in (right_side l (calls_start l))))
        ≡ image (more_calls (more_events (so_far ps) p.events) p.calls) ++ rest
    step₂ =
        let n = totals_are ps in
        let s = sums in
        let e : map (call_of base) (calls_in (right_side l (calls_start l))) ≡ p.calls =
        ap (λ (r : CallsRead). map (call_of base) (calls_in r)) (ap (right_side l) start ∙ g.right) ∙ ap (λ (q : Production). q.calls) (sym g.is) in
        ap (put_calls (image (more_events (so_far ps) p.events) ++ rest) (totals_of ps).calls (totals_of ps).parameters) e
        ∙ put_calls_lem rest p.calls (more_events (so_far ps) p.events) (totals_of ps).calls (totals_of ps).parameters (room₁ h)
        n.calls
        n.parameters
        (omega (arith, n.calls, s.called, s.calls))
        (omega (arith, n.parameters, s.given, s.parameters))

    step₃ : put_production (image (more_calls (more_events (so_far ps) p.events) p.calls) ++ rest) (totals_of ps).productions (length p.events) (length p.calls)
        ≡ image (so_far (ps ++ (p ∷ []))) ++ rest
    step₃ =
        let n = totals_are ps in
        let s = sums in
        let a = length-map ps (λ (q : Production). length q.events) in
        let b = length-map ps (λ (q : Production). length q.calls) in
        ap (λ (m : ℕ). put_production (image (more_calls (more_events (so_far ps) p.events) p.calls) ++ rest) m (length p.events) (length p.calls)) (n.productions ∙ sym a)
        ∙ written.put_production_lem (more_calls (more_events (so_far ps) p.events) p.calls) rest (room₂ h) (length p.events) (length p.calls) (b ∙ sym a) (omega (arith, s.productions))
        ∙ ap (λ (y : Entries). image y ++ rest) (so_far_more ps p)

    pub line_held : put_line base l (totals_of ps) (held_line (calls_start l) p) (held ps rest) ≡ held (ps ++ (p ∷ [])) rest
    unfolding put_line put_sides held held_line
    line_held =
        ap
        (λ (o : List ℕ).
        put_production
        (put_calls o (totals_of ps).calls (totals_of ps).parameters (map (call_of base) (calls_in (right_side l (calls_start l)))))
        (totals_of ps).productions
        (length p.events)
        (length p.calls))
        step₁
        ∙ ap (λ (o : List ℕ). put_production o (totals_of ps).productions (length p.events) (length p.calls)) step₂
        ∙ step₃
