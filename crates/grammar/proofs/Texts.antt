-- A text compiles to exactly what the relation over the grammar says.
use Prim.Native.Nat.{ℕ, zero, suc, ◌+◌, ◌≤◌, ◌<◌}
use native.Mathlib.Omega.{arith}
use mathlib.Core.Path.{◌≡◌, refl, sym, ap, ◌∙◌}
use mathlib.Core.Bool.{Bool, true, false, not}
use Rattle.std.specs.Prelude.{Option, None, Some}
use mathlib.Core.List.{List, [], ◌∷◌, ◌++◌, append-nil}
use lib.Dec.{ltb}
use lib.ListN.{length}
use borrow.Author.Tests.{lt-ltb, le-ltb, ltb-true, ltb-false, ne_eqb}
use Rattle.model.specs.Limits.{text_limit}
use Rattle.model.specs.Numbers as Numbers
use Rattle.model.specs.Lists.{all, earliest}
use Rattle.model.specs.Bytes.{is_allowed, first_bad_byte}
use Rattle.model.specs.Lines.{line_end, line_at, directive_of, directive_at}
use Rattle.model.specs.Events.{WrittenEvent}
use Rattle.model.specs.Calls.{WrittenCall}
use Rattle.model.specs.Tables as Tables
use Rattle.model.specs.Compiling.{LineRead, line_read, EventsJudged, line_outcome, totals_pass, passes_limit, Outcome, accepted, refused, table_of, go_on, after_line, lines_from, lines_of, compiled}
use Rattle.model.specs.declared.events.KeptEvent.{KeptEvent}
use Rattle.model.specs.declared.events.Directive as Model
use Rattle.grammar.specs.Bytes.{allowed_byte, blank, line_byte}
use Rattle.grammar.specs.Tokens.{Run}
use Rattle.grammar.specs.Productions.{DerivesProduction}
use Rattle.grammar.specs.Texts.{Line, Directive, Derived, start_in_text, Lines, TranslationTable}
use Rattle.grammar.specs.Compiling.{EventsKept, EventsCrowded, EventsRefused, ProductionsKept, production_of, Upto, Allowed, Compiles}
use Rattle.grammar.proofs.Places.{At, front, at_start, and_left, and_right}
use Rattle.grammar.proofs.Productions.{LineView, line_sound, line_complete}
use Rattle.grammar.proofs.Kept.{events_kept, events_refused, events_crowded, JudgedView, judged_view}
use Rattle.grammar.proofs.Lines.{cut_off, line_clean, at_line, at_place, go_on_last, go_on_next, at_next_line, line_shorter, directive_complete, DirectiveView, directive_view, directive_no_production}
use Rattle.grammar.proofs.Steps.{production_not_blank, onward, no_directive, step_blank, step_line, step_directive, line_added, first_lines, Reached, upto_reach}

-- ---- Numbers 2 and 3

bad_none : (i : ℕ) (l : List ℕ) → all allowed_byte l ≡ true → earliest (λ b. not (is_allowed b)) i l ≡ None
unfolding is_allowed
bad_none i [] e = refl
bad_none i (b ∷ l) e = rw (and_left (allowed_byte b) (all allowed_byte l) e) (bad_none (suc i) l (and_right (allowed_byte b) (all allowed_byte l) e))

bad_some :
    (i : ℕ) (w : List ℕ) (b : ℕ) (r : List ℕ) → all allowed_byte w ≡ true → allowed_byte b ≡ false
    → earliest (λ b. not (is_allowed b)) i (w ++ b ∷ r) ≡ Some (i + length w)
unfolding is_allowed
bad_some i [] b r e f = rw f (ap {B = Option ℕ} Some (let z : i ≡ i + 0 = omega arith in z))
bad_some i (c ∷ w) b r e f =
    rw (and_left (allowed_byte c) (all allowed_byte w) e)
    (bad_some (suc i) w b r (and_right (allowed_byte c) (all allowed_byte w) e) f
    ∙ ap {B = Option ℕ} Some (let z : suc i + length w ≡ i + suc (length w) = omega arith in z))

module _ (text : List ℕ) where
  compile_lines : Allowed text → compiled text ≡ lines_of text
  unfolding compiled first_bad_byte
  compile_lines a = rw (le-ltb text_limit (length text) a.short, bad_none 0 text a.bytes)

  compile_long : text_limit < length text → compiled text ≡ refused Numbers.long_text 0
  unfolding compiled
  compile_long h = rw (lt-ltb text_limit (length text) h)

  compile_bad :
      {w r : List ℕ} {b : ℕ} → length text ≤ text_limit → Run allowed_byte text w (b ∷ r) → compiled text ≡ refused Numbers.bad_byte (length w)
  unfolding compiled first_bad_byte
  compile_bad {w} {r} {b} h run =
      let e : earliest (λ b. not (is_allowed b)) 0 text ≡ Some (length w)
      = ap (earliest (λ b. not (is_allowed b)) 0) run.split ∙ bad_some 0 w b r run.within run.longest
      ∙ ap {B = Option ℕ} Some (let z : 0 + length w ≡ length w = omega arith in z) in
      rw (le-ltb text_limit (length text) h, e)

  -- ---- What the relation says is what comes of a text

  not_read : (w : List ℕ) → all line_byte w ≡ true → ((es : List WrittenEvent) (cs : List WrittenCall) → DerivesProduction w es cs → ⊥) → line_read w ≡ LineRead.broken
  not_read w clean n = go (line_read w) (line_sound w clean)
    where
      go : (x : LineRead) → LineView w x → x ≡ LineRead.broken
      go x LineView.broken = refl
      go x (LineView.production {es = es} {cs = cs} d) = absurd (n es cs d)

  no_line : (w : List ℕ) (p : ℕ) (d : Model.Directive) (ps : List Tables.Production) (f : ℕ) → line_read w ≡ LineRead.broken
      → after_line text p d ps (line_outcome ps p w) (onward text f) ≡ refused Numbers.not_grammar p
  unfolding line_outcome
  no_line w p d ps f e = rw e

  no_event_lem : {w : List ℕ} {es : List WrittenEvent} {cs : List WrittenCall} {n : ℕ} (p : ℕ) (d : Model.Directive) (ps : List Tables.Production) (f : ℕ)
      → DerivesProduction w es cs → EventsRefused es n → after_line text p d ps (line_outcome ps p w) (onward text f) ≡ refused n p
  unfolding line_outcome
  no_event_lem {w} p d ps f y r = rw (line_complete w y, events_refused r)

  many_keysyms : {w : List ℕ} {es : List WrittenEvent} {cs : List WrittenCall} (p : ℕ) (d : Model.Directive) (ps : List Tables.Production) (f : ℕ)
      → DerivesProduction w es cs → EventsCrowded es → after_line text p d ps (line_outcome ps p w) (onward text f) ≡ refused Numbers.past_limit p
  unfolding line_outcome
  many_keysyms {w} p d ps f y r = rw (line_complete w y, events_crowded r)

  no_room : {w : List ℕ} {es : List WrittenEvent} {cs : List WrittenCall} {ks : List KeptEvent} (p q : ℕ) (d : Model.Directive) (ps : List Tables.Production) (f : ℕ)
      → p ≡ q → DerivesProduction w es cs → EventsKept es ks → passes_limit (ps ++ (production_of q ks cs ∷ [])) ≡ true
      → after_line text p d ps (line_outcome ps p w) (onward text f) ≡ refused Numbers.past_limit q
  unfolding line_outcome
  no_room {w} p q d ps f i y k e = rw (i, line_complete w y, events_kept k, e)

  -- the line at which reading stands is refused
  stops :
      {l w : List ℕ} {r : Option (List ℕ)} {d : Model.Directive} {ps : List Tables.Production} {x : Outcome} (n : ℕ) → Line l w r → all blank w ≡ false
      → (start_in_text text l ≡ 0 → (e : Model.Directive) → Directive w e → ⊥)
      → ((f p : ℕ) → p ≡ start_in_text text l → after_line text p d ps (line_outcome ps p w) (onward text f) ≡ refused n p)
      → Reached text d ps x (Some l) → x ≡ refused n (start_in_text text l)
  stops n c b nd g (Reached.going zero p a h q) = absurd (omega arith)
  stops {l} {w} {r} {d} {ps} {x} n c b nd g (Reached.going (suc f) p a h q) =
      q ∙ step_line text f p d ps a c (no_directive text p a c nd) b ∙ g f p (at_place text p a) ∙ ap (refused n) (at_place text p a)

  ends : {d : Model.Directive} {ps : List Tables.Production} {x : Outcome} → Reached text d ps x None → x ≡ accepted (table_of text d ps)
  ends (Reached.ended q) = q

  pub complete : {o : Outcome} → Compiles text o → compiled text ≡ o
  complete (Compiles.long_text h) = compile_long h
  complete (Compiles.bad_byte h run) = compile_bad h run
  complete (Compiles.not_grammar {w = w} {d = d} {ps = ps} al u c n) =
      compile_lines al
      ∙ stops Numbers.not_grammar c n.not_blank n.not_directive
      (λ f p i. no_line w p d ps f (not_read w (line_clean c) n.not_production)) (upto_reach text u)
  complete (Compiles.refused_event {d = d} {ps = ps} {n = n} al u c y r) =
      compile_lines al
      ∙ stops n c (production_not_blank y) (λ z e x. directive_no_production x y) (λ f p i. no_event_lem p d ps f y r) (upto_reach text u)
  complete (Compiles.past_limit {l = l} {d = d} {ps = ps} al u c y k e) =
      compile_lines al
      ∙ stops Numbers.past_limit c (production_not_blank y) (λ z e x. directive_no_production x y)
      (λ f p i. no_room p (start_in_text text l) d ps f i y k e ∙ ap (refused Numbers.past_limit) (sym i)) (upto_reach text u)
  complete (Compiles.crowded_event {d = d} {ps = ps} al u c y r) =
      compile_lines al
      ∙ stops Numbers.past_limit c (production_not_blank y) (λ z e x. directive_no_production x y) (λ f p i. many_keysyms p d ps f y r)
      (upto_reach text u)
  complete (Compiles.accept al u) = compile_lines al ∙ ends (upto_reach text u)

  -- ---- What comes of a text is what the relation says

  lines_append :
      {s t u : Option (List ℕ)} {ds es : List Derived} → Lines text s ds t → Lines text t es u → Lines text s (ds ++ es) u
  lines_append Lines.done more = more
  lines_append (Lines.blanks c b ls) more = Lines.blanks c b (lines_append ls more)
  lines_append (Lines.production c y ls) more = Lines.production c y (lines_append ls more)

  table_append :
      {s t : Option (List ℕ)} {d : Model.Directive} {ds es : List Derived} → TranslationTable text d ds s → Lines text s es t
      → TranslationTable text d (ds ++ es) t
  table_append (TranslationTable.plain ls) more = TranslationTable.plain (lines_append ls more)
  table_append (TranslationTable.directed c x ls) more = TranslationTable.directed c x (lines_append ls more)

  kept_append :
      {ds es : List Derived} {ps qs : List Tables.Production} → ProductionsKept ds ps → ProductionsKept es qs → ProductionsKept (ds ++ es) (ps ++ qs)
  kept_append ProductionsKept.nothing rest = rest
  kept_append (ProductionsKept.more k ks) rest = ProductionsKept.more k (kept_append ks rest)

  upto_blank :
      {l w : List ℕ} {r : Option (List ℕ)} {d : Model.Directive} {ps : List Tables.Production} → Upto text (Some l) d ps → Line l w r
      → all blank w ≡ true → Upto text r d ps
  upto_blank {r = r} {d = d} u c b =
      let t : TranslationTable text d (u.derived ++ []) r = table_append u.table (Lines.blanks c b Lines.done) in
      record { derived = u.derived; table = rw (append-nil u.derived) at t; kept = u.kept; limits = u.limits }

  upto_production :
      {l w : List ℕ} {r : Option (List ℕ)} {d : Model.Directive} {ps : List Tables.Production} {es : List WrittenEvent} {cs : List WrittenCall}
      {ks : List KeptEvent} → Upto text (Some l) d ps → Line l w r → DerivesProduction w es cs → EventsKept es ks
      → passes_limit (ps ++ (production_of (start_in_text text l) ks cs ∷ [])) ≡ false
      → Upto text r d (ps ++ (production_of (start_in_text text l) ks cs ∷ []))
  upto_production {l} {w} {r} {d} {ps} {es} {cs} u c y k e =
      record {
        derived = u.derived ++ (record { start = start_in_text text l; events = es; calls = cs } ∷ []);
        table = table_append u.table (Lines.production c y Lines.done);
        kept = kept_append u.kept (ProductionsKept.more k ProductionsKept.nothing);
        limits = e;
      }

  module _ (allowed : Allowed text) where
    -- reading on with less fuel is sound
    Further : ℕ → Type 0
    Further f =
        (p : ℕ) (l : List ℕ) (d : Model.Directive) (ps : List Tables.Production) → 0 < p → At text p l → length l < f → Upto text (Some l) d ps
        → Compiles text (lines_from f text p d ps)

    go_on_sound :
        {l w : List ℕ} {r : Option (List ℕ)} (f p : ℕ) (d : Model.Directive) (ps : List Tables.Production) → Further f → At text p l → length l < suc f
        → Line l w r → Upto text r d ps → Compiles text (go_on text (line_end text p) d ps (onward text f))
    unfolding Further
    go_on_sound f p d ps ih a h (Line.last run) u = rw (go_on_last text p d ps (onward text f) a run) (Compiles.accept allowed u)
    go_on_sound f p d ps ih a h (Line.newline {r = r} run) u =
        rw (go_on_next text p d ps (onward text f) a run)
        (ih (line_end text p + 1) r d ps (omega arith) (at_next_line text p a run) (omega (arith, line_shorter run)) u)

    none_first :
        {l w : List ℕ} {r : Option (List ℕ)} (p : ℕ) → At text p l → Line l w r → directive_at text p ≡ None → start_in_text text l ≡ 0 → (d : Model.Directive)
        → Directive w d → ⊥
    unfolding directive_at
    none_first {l} {w} p a c n z d x =
        let i : p ≡ 0 = at_place text p a ∙ z in
        let j : line_at text 0 ≡ w = at_line text 0 (rw i at a) c in
        let k : directive_of (line_at text 0) ≡ None = rw i at n in
        let m : ◌≡◌ {A = ℕ} 0 1 = cc (sym k ∙ ap directive_of j ∙ directive_complete x) in
        omega arith

    -- a line that is not blank
    module _ {l w : List ℕ} {r : Option (List ℕ)} (f p : ℕ) (d : Model.Directive) (ps : List Tables.Production) (ih : Further f) (a : At text p l)
        (h : length l < suc f) (c : Line l w r) (u : Upto text (Some l) d ps) where
      room_sound :
          {es : List WrittenEvent} {cs : List WrittenCall} {ks : List KeptEvent} → DerivesProduction w es cs → EventsKept es ks → (t : Bool)
          → passes_limit (ps ++ (production_of (start_in_text text l) ks cs ∷ [])) ≡ t
          → Compiles text (after_line text p d ps (line_outcome ps p w) (onward text f))
      room_sound {es} {cs} {ks} y k true e =
          rw (no_room p (start_in_text text l) d ps f (at_place text p a) y k e) (Compiles.past_limit allowed u c y k e)
      room_sound {es} {cs} {ks} y k false e =
          rw (line_added text p (start_in_text text l) ps (at_place text p a) y k e)
          (go_on_sound f p d (ps ++ (production_of (start_in_text text l) ks cs ∷ [])) ih a h c (upto_production u c y k e))

      events_sound :
          {es : List WrittenEvent} {cs : List WrittenCall} {x : EventsJudged} → DerivesProduction w es cs → JudgedView es x
          → Compiles text (after_line text p d ps (line_outcome ps p w) (onward text f))
      events_sound y (JudgedView.refused q) = rw (no_event_lem p d ps f y q, at_place text p a) (Compiles.refused_event allowed u c y q)
      events_sound y (JudgedView.full q) = rw (many_keysyms p d ps f y q, at_place text p a) (Compiles.crowded_event allowed u c y q)
      events_sound {cs = cs} y (JudgedView.kept {ks = ks} k) = room_sound y k (passes_limit (ps ++ (production_of (start_in_text text l) ks cs ∷ []))) refl

      read_sound :
          directive_at text p ≡ None → all blank w ≡ false → (x : LineRead) → line_read w ≡ x → LineView w x
          → Compiles text (after_line text p d ps (line_outcome ps p w) (onward text f))
      read_sound n b x e LineView.broken =
          rw (no_line w p d ps f e, at_place text p a)
          (Compiles.not_grammar allowed u c
          (record {
            not_blank = b;
            not_production = λ es cs y. (let z : ◌≡◌ {A = ℕ} 0 1 = cc (e, line_complete w y) in omega arith);
            not_directive = none_first p a c n;
          }))
      read_sound n b x e (LineView.production {es = es} y) = events_sound y (judged_view es)

    line_step :
        {l : List ℕ} (f p : ℕ) (d : Model.Directive) (ps : List Tables.Production) → Further f → At text p l → length l < suc f
        → directive_at text p ≡ None → Upto text (Some l) d ps → (w : List ℕ) (r : Option (List ℕ)) → Line l w r → (t : Bool) → all blank w ≡ t
        → Compiles text (lines_from (suc f) text p d ps)
    line_step f p d ps ih a h n u w r c true e =
        rw (step_blank text f p d ps a c n e) (go_on_sound f p d ps ih a h c (upto_blank u c e))
    line_step f p d ps ih a h n u w r c false e =
        rw (step_line text f p d ps a c n e) (read_sound f p d ps ih a h c u n e (line_read w) refl (line_sound w (line_clean c)))

    later : (p : ℕ) → 0 < p → directive_at text p ≡ None
    unfolding directive_at
    later p h = rw (ne_eqb p 0 (λ (q : p ≡ 0). omega arith))

    further : (fuel : ℕ) → Further fuel
    unfolding Further
    further zero p l d ps z a h u = absurd (omega arith)
    further (suc f) p l d ps z a h u =
        let c = cut_off l in
        line_step f p d ps (further f) a h (later p z) u c.line c.rest c.cut (all blank c.line) refl

    empty_limits : passes_limit [] ≡ false
    unfolding passes_limit totals_pass
    empty_limits = refl

    upto_start : Upto text (Some text) Model.Directive.Replace []
    upto_start = record { derived = []; table = TranslationTable.plain Lines.done; kept = ProductionsKept.nothing; limits = empty_limits }

    first_sound :
        (w : List ℕ) (r : Option (List ℕ)) → Line text w r → (o : Option Model.Directive) → directive_of w ≡ o → DirectiveView w o
        → Compiles text (lines_from (suc (length text)) text 0 Model.Directive.Replace [])
    first_sound w r c o q (DirectiveView.absent n) =
        line_step (length text) 0 Model.Directive.Replace [] (further (length text)) (at_start text) (omega arith)
        (no_directive text 0 (at_start text) c (λ z e x. n e x)) upto_start w r c (all blank w) refl
    first_sound w r c o q (DirectiveView.present {d = d} x) =
        rw (step_directive text (length text) Model.Directive.Replace [] c x)
        (go_on_sound (length text) 0 d [] (further (length text)) (at_start text) (omega arith) c
        (record { derived = []; table = TranslationTable.directed c x Lines.done; kept = ProductionsKept.nothing; limits = empty_limits }))

    lines_sound : Compiles text (lines_of text)
    lines_sound =
        let c = cut_off text in
        rw (first_lines text) (first_sound c.line c.rest c.cut (directive_of c.line) refl (directive_view c.line))

  bytes_sound : length text ≤ text_limit → (w r : List ℕ) → Run allowed_byte text w r → Compiles text (compiled text)
  bytes_sound h w [] run =
      let al : Allowed text = record { short = h; bytes = rw (run.split ∙ append-nil w) run.within } in
      rw (compile_lines al) (lines_sound al)
  bytes_sound h w (b ∷ r) run = rw (compile_bad h run) (Compiles.bad_byte h run)

  pub sound : Compiles text (compiled text)
  sound = go (ltb text_limit (length text)) refl
    where
      go : (t : Bool) → ltb text_limit (length text) ≡ t → Compiles text (compiled text)
      go true e = let h = ltb-true text_limit (length text) e in rw (compile_long h) (Compiles.long_text h)
      go false e = let f = front allowed_byte text in bytes_sound (ltb-false text_limit (length text) e) f.word f.rest f.run
