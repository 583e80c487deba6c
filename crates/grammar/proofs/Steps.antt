-- The model reads a text line by line: one line, and where reading stands after the lines that the grammar derives.
use Prim.Native.Nat.{ℕ, zero, suc, ◌+◌, ◌<◌}
use native.Mathlib.Omega.{arith}
use native.Mathlib.Numerals.{add-one}
use mathlib.Core.Path.{◌≡◌, refl, sym, ap, ◌∙◌}
use mathlib.Core.Bool.{Bool, true, false, cond}
use Rattle.std.specs.Prelude.{Option, None, Some}
use mathlib.Core.List.{List, [], ◌∷◌, ◌++◌, append-nil}
use lib.Dec.{eqb}
use lib.ListN.{length}
use lib.Seq.{append_snoc}
use borrow.Author.Tests.{eqb-true}
use Rattle.model.specs.Lists.{all}
use Rattle.model.specs.Lines.{line_end, line_at, directive_of, directive_at}
use Rattle.model.specs.Events.{WrittenEvent}
use Rattle.model.specs.Calls.{WrittenCall}
use Rattle.model.specs.Tables as Tables
use Rattle.model.specs.Compiling.{LineOutcome, line_outcome, passes_limit, Outcome, accepted, table_of, go_on, after_line, lines_from, lines_of}
use Rattle.model.specs.declared.events.KeptEvent.{KeptEvent}
use Rattle.model.specs.declared.events.Directive as Model
use Rattle.grammar.specs.Bytes.{blank}
use Rattle.grammar.specs.Productions.{DerivesProduction}
use Rattle.grammar.specs.Texts.{Line, Directive, Derived, start_in_text, Lines, TranslationTable}
use Rattle.grammar.specs.Compiling.{EventsKept, ProductionsKept, production_of, Upto}
use Rattle.grammar.proofs.Places.{At, at_start}
use Rattle.grammar.proofs.Productions.{line_complete}
use Rattle.grammar.proofs.Kept.{events_kept, passes_less}
use Rattle.grammar.proofs.Lines.{at_line, at_place, go_on_last, go_on_next, at_next_line, line_shorter, blank_line, directive_complete, DirectiveView, directive_view, directive_no_production, directive_no_blanks, blanks_no_production}

directive_none : (w : List ℕ) → ((d : Model.Directive) → Directive w d → ⊥) → directive_of w ≡ None
directive_none w n = go (directive_of w) (directive_view w)
  where
    go : (o : Option Model.Directive) → DirectiveView w o → o ≡ None
    go o (DirectiveView.absent f) = refl
    go o (DirectiveView.present {d = d} x) = absurd (n d x)

pub production_not_blank : {w : List ℕ} {es : List WrittenEvent} {cs : List WrittenCall} → DerivesProduction w es cs → all blank w ≡ false
production_not_blank {w} d = go (all blank w) refl
  where
    go : (t : Bool) → all blank w ≡ t → all blank w ≡ false
    go true e = absurd (blanks_no_production e d)
    go false e = e

module _ (text : List ℕ) where
  -- ---- One line

  -- the lines after one that is done
  abbrev pub onward : ℕ → ℕ → Model.Directive → List Tables.Production → Outcome
  onward fuel p d ps = lines_from fuel text p d ps

  pub no_directive :
      {l w : List ℕ} {r : Option (List ℕ)} (p : ℕ) → At text p l → Line l w r
      → (start_in_text text l ≡ 0 → (d : Model.Directive) → Directive w d → ⊥) → directive_at text p ≡ None
  unfolding directive_at
  no_directive {l} {w} p x c n = go (eqb p 0) refl
    where
      go : (t : Bool) → eqb p 0 ≡ t → cond (eqb p 0) (directive_of (line_at text 0)) None ≡ None
      go true e =
          let i : p ≡ 0 = eqb-true p 0 e in
          let j : start_in_text text l ≡ 0 = sym (at_place text p x) ∙ i in
          let k : line_at text 0 ≡ w = at_line text 0 (rw i at x) c in
          rw (e, k) (directive_none w (n j))
      go false e = rw e

  pub step_blank :
      {l w : List ℕ} {r : Option (List ℕ)} (f p : ℕ) (d : Model.Directive) (ps : List Tables.Production) → At text p l → Line l w r
      → directive_at text p ≡ None → all blank w ≡ true → lines_from (suc f) text p d ps ≡ go_on text (line_end text p) d ps (onward f)
  unfolding lines_from
  step_blank {l} {w} f p d ps x c n b = rw (n, at_line text p x c, blank_line w, b)

  pub step_line :
      {l w : List ℕ} {r : Option (List ℕ)} (f p : ℕ) (d : Model.Directive) (ps : List Tables.Production) → At text p l → Line l w r
      → directive_at text p ≡ None → all blank w ≡ false
      → lines_from (suc f) text p d ps ≡ after_line text p d ps (line_outcome ps p w) (onward f)
  unfolding lines_from
  step_line {l} {w} f p d ps x c n b = rw (n, at_line text p x c, blank_line w, b)

  pub step_directive :
      {w : List ℕ} {r : Option (List ℕ)} {e : Model.Directive} (f : ℕ) (d : Model.Directive) (ps : List Tables.Production)
      → Line text w r → Directive w e → lines_from (suc f) text 0 d ps ≡ go_on text (line_end text 0) e ps (onward f)
  unfolding lines_from directive_at
  step_directive {w} f d ps c x = rw (at_line text 0 (at_start text) c, directive_complete x)

  pub line_added :
      {w : List ℕ} {es : List WrittenEvent} {cs : List WrittenCall} {ks : List KeptEvent} (p q : ℕ) (ps : List Tables.Production) → p ≡ q
      → DerivesProduction w es cs → EventsKept es ks → passes_limit (ps ++ (production_of q ks cs ∷ [])) ≡ false
      → line_outcome ps p w ≡ LineOutcome.add (production_of q ks cs)
  unfolding line_outcome
  line_added {w} p q ps i d k e = rw (i, line_complete w d, events_kept k, e)

  pub first_lines : lines_of text ≡ lines_from (suc (length text)) text 0 Model.Directive.Replace []
  unfolding lines_of
  first_lines = rw add-one

  -- ---- Where reading stands

  -- x is what comes of the text once its lines up to s are read
  pub data Reached (d : Model.Directive) (ps : List Tables.Production) (x : Outcome) : Option (List ℕ) → Type 0 where
    ended : x ≡ accepted (table_of text d ps) → Reached d ps x None
    going : {l : List ℕ} (fuel p : ℕ) → At text p l → length l < fuel → x ≡ lines_from fuel text p d ps → Reached d ps x (Some l)

  after_line_lem :
      {l w : List ℕ} {r : Option (List ℕ)} (f p : ℕ) (d : Model.Directive) (ps : List Tables.Production) (x : Outcome) → At text p l → Line l w r
      → length l < suc f → x ≡ go_on text (line_end text p) d ps (onward f) → Reached d ps x r
  after_line_lem f p d ps x a (Line.last run) h q = ended (q ∙ go_on_last text p d ps (onward f) a run)
  after_line_lem f p d ps x a (Line.newline run) h q =
      going f (line_end text p + 1) (at_next_line text p a run) (omega (arith, line_shorter run)) (q ∙ go_on_next text p d ps (onward f) a run)

  reach_blank :
      {l w : List ℕ} {r : Option (List ℕ)} (fuel p : ℕ) (d : Model.Directive) (ps : List Tables.Production) (x : Outcome) → At text p l → Line l w r
      → length l < fuel → x ≡ lines_from fuel text p d ps → all blank w ≡ true → Reached d ps x r
  reach_blank zero p d ps x a c h q b = absurd (omega arith)
  reach_blank (suc f) p d ps x a c h q b =
      after_line_lem f p d ps x a c h (q ∙ step_blank f p d ps a c (no_directive p a c (λ z e y. directive_no_blanks y b)) b)

  reach_production :
      {l w : List ℕ} {r : Option (List ℕ)} {es : List WrittenEvent} {cs : List WrittenCall} {ks : List KeptEvent}
      (fuel p : ℕ) (d : Model.Directive) (ps : List Tables.Production) (x : Outcome) → At text p l → Line l w r
      → length l < fuel → x ≡ lines_from fuel text p d ps → DerivesProduction w es cs → EventsKept es ks
      → passes_limit (ps ++ (production_of (start_in_text text l) ks cs ∷ [])) ≡ false
      → Reached d (ps ++ (production_of (start_in_text text l) ks cs ∷ [])) x r
  reach_production zero p d ps x a c h q y k e = absurd (omega arith)
  reach_production {l} {w} {r} {es} {cs} {ks} (suc f) p d ps x a c h q y k e =
      let s = step_line f p d ps a c (no_directive p a c (λ z e y2. directive_no_production y2 y)) (production_not_blank y) in
      let t = line_added p (start_in_text text l) ps (at_place text p a) y k e in
      after_line_lem f p d (ps ++ (production_of (start_in_text text l) ks cs ∷ [])) x a c h
      (q ∙ s ∙ ap (λ o. after_line text p d ps o (onward f)) t)

  lines_reach :
      {s t : Option (List ℕ)} {ds : List Derived} {qs : List Tables.Production} (d : Model.Directive) (ps : List Tables.Production) (x : Outcome)
      → Lines text s ds t → ProductionsKept ds qs → passes_limit (ps ++ qs) ≡ false → Reached d ps x s → Reached d (ps ++ qs) x t
  lines_reach d ps x Lines.done ProductionsKept.nothing e g = rw (append-nil ps) g
  lines_reach d ps x (Lines.blanks c b ls) k e (going fuel p a h q) = lines_reach d ps x ls k e (reach_blank fuel p d ps x a c h q b)
  lines_reach d ps x (Lines.production {l = l} {cs = cs} c y ls) (ProductionsKept.more {ks = ks} {ps = qs} k ks2) e (going fuel p a h q) =
      let this : Tables.Production = production_of (start_in_text text l) ks cs in
      let i : ps ++ (this ∷ []) ++ qs ≡ ps ++ this ∷ qs = append_snoc ps this qs in
      let f : passes_limit (ps ++ (this ∷ []) ++ qs) ≡ false = rw i e in
      rw (sym i)
      (lines_reach d (ps ++ (this ∷ [])) x ls ks2 f
      (reach_production fuel p d ps x a c h q y k (passes_less (ps ++ (this ∷ [])) qs f)))

  table_reach :
      {s : Option (List ℕ)} {d : Model.Directive} {ds : List Derived} {ps : List Tables.Production} → TranslationTable text d ds s → ProductionsKept ds ps
      → passes_limit ps ≡ false → Reached d ps (lines_of text) s
  table_reach (TranslationTable.plain ls) k e =
      lines_reach Model.Directive.Replace [] (lines_of text) ls k e (going (suc (length text)) 0 (at_start text) (omega arith) first_lines)
  table_reach (TranslationTable.directed {d = d} c x ls) k e =
      lines_reach d [] (lines_of text) ls k e
      (after_line_lem (length text) 0 d [] (lines_of text) (at_start text) c (omega arith)
      (first_lines ∙ step_directive (length text) Model.Directive.Replace [] c x))

  pub upto_reach : {s : Option (List ℕ)} {d : Model.Directive} {ps : List Tables.Production} → Upto text s d ps → Reached d ps (lines_of text) s
  upto_reach u = table_reach u.table u.kept u.limits
