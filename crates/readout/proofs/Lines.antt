-- Production n of the table of a text is that of line n of the text's reading.
use Prim.Native.Nat.{ℕ, zero, suc}
use native.Mathlib.Omega.{arith}
use mathlib.Core.Path.{◌≡◌, refl, sym, ap, ◌∙◌}
use Rattle.std.specs.Prelude.{Option, None, Some}
use mathlib.Core.List.{List, [], ◌∷◌, ◌++◌, map, append_assoc}
use lib.ListN.{length, length-append}
use lib.Seq.{append_snoc}
use Rattle.model.specs.Events.{WrittenEvent}
use Rattle.model.specs.Calls.{WrittenCall}
use Rattle.model.specs.Compiling.{call_of, compiled, accepted}
use Rattle.model.specs.Asking.{at}
use Rattle.model.specs.Tables as Tables
use Rattle.model.specs.declared.events.KeptEvent.{KeptEvent}
use Rattle.model.specs.declared.events.Directive as Model
use Rattle.grammar.specs.Productions.{DerivesProduction}
use Rattle.grammar.specs.Texts.{Line, Derived, start_in_text, Lines, TranslationTable}
use Rattle.grammar.specs.Compiling.{production_of, ProductionsKept}
use Rattle.grammar.specs.Exact.{Accepts}
use Rattle.grammar.proofs.Exact.{exact}
use Rattle.readout.specs.ReadOut.{TextHas}
use Rattle.readout.proofs.Elements.{none_some, same_some}

module _ (text : List ℕ) where
  -- the production q is that of the line at place n of some, which stands in the text
  record LineOf (ds : List Derived) (n : ℕ) (q : Tables.Production) : Type 0 where
    line : Derived
    number : at ds n ≡ Some line
    bytes : List ℕ
    before : List ℕ
    after : List ℕ
    split : text ≡ before ++ (bytes ++ after)
    start : length before ≡ line.start
    derives : DerivesProduction bytes line.events line.calls
    calls : q.calls ≡ map (call_of line.start) line.calls

  -- the text ends with these bytes
  abbrev Ending : Option (List ℕ) → Type 0
  Ending None = Unit
  Ending (Some l) = (b : List ℕ) × (text ≡ b ++ l)

  next_line : {l w : List ℕ} {r : Option (List ℕ)} → Ending (Some l) → Line l w r → Ending r
  next_line z (Line.last run) = tt
  next_line {l} {w} z (Line.newline {r = r} run) = (
    z.0 ++ (w ++ (10 ∷ [])),
    z.1 ∙ ap {B = List ℕ} (λ x. z.0 ++ x) (run.split ∙ sym (append_snoc w 10 r)) ∙ sym (append_assoc z.0 (w ++ (10 ∷ [])) r),
  )

  -- what stands after a line
  behind : {l w : List ℕ} {r : Option (List ℕ)} → Line l w r → (after : List ℕ) × (l ≡ w ++ after)
  behind (Line.last run) = ([], run.split)
  behind (Line.newline {r = r} run) = (10 ∷ r, run.split)

  line_first : {l w : List ℕ} {r : Option (List ℕ)} {es : List WrittenEvent} {cs : List WrittenCall} {ds : List Derived} {ks : List KeptEvent}
      (q : Tables.Production) → Ending (Some l) → Line l w r → DerivesProduction w es cs → production_of (start_in_text text l) ks cs ≡ q
      → LineOf (record { start = start_in_text text l; events = es; calls = cs } ∷ ds) zero q
  line_first {l} {w} {r} {es} {cs} {ds} {ks} q z c d e =
      let b = behind c in
      record {
        line = record { start = start_in_text text l; events = es; calls = cs };
        number = refl;
        bytes = w;
        before = z.0;
        after = b.0;
        split = z.1 ∙ ap {B = List ℕ} (λ x. z.0 ++ x) b.1;
        start = omega (arith, ap length z.1 ∙ length-append z.0 l);
        derives = d;
        calls = sym (ap (λ (x : Tables.Production). x.calls) e);
      }

  line_later : {d : Derived} {ds : List Derived} {n : ℕ} {q : Tables.Production} → LineOf ds n q → LineOf (d ∷ ds) (suc n) q
  line_later x =
      record {
        line = x.line;
        number = x.number;
        bytes = x.bytes;
        before = x.before;
        after = x.after;
        split = x.split;
        start = x.start;
        derives = x.derives;
        calls = x.calls;
      }

  lines_line : {s u : Option (List ℕ)} {ds : List Derived} {ps : List Tables.Production} → Ending s → Lines text s ds u → ProductionsKept ds ps
      → (n : ℕ) (q : Tables.Production) → at ps n ≡ Some q → LineOf ds n q
  lines_line z Lines.done ProductionsKept.nothing n q e = absurd (none_some e)
  lines_line z (Lines.blanks c b ls) k n q e = lines_line (next_line z c) ls k n q e
  lines_line z (Lines.production c d ls) (ProductionsKept.more k ks) zero q e = line_first q z c d (same_some e)
  lines_line z (Lines.production c d ls) (ProductionsKept.more k ks) (suc n) q e = line_later (lines_line (next_line z c) ls ks n q e)

  table_line : {d : Model.Directive} {u : Option (List ℕ)} {ds : List Derived} {ps : List Tables.Production} → TranslationTable text d ds u
      → ProductionsKept ds ps → (n : ℕ) (q : Tables.Production) → at ps n ≡ Some q → LineOf ds n q
  table_line (TranslationTable.plain ls) k n q e = lines_line ([], refl) ls k n q e
  table_line (TranslationTable.directed c x ls) k n q e = lines_line (next_line ([], refl) c) ls k n q e

  -- ---- The table of the text

  -- line n of the text, with the calls of a production
  pub record Written (n : ℕ) (q : Tables.Production) : Type 0 where
    pub line : Derived
    pub has : TextHas text n line
    pub calls : q.calls ≡ map (call_of line.start) line.calls

  pub accepts : (t : Tables.Table) → compiled text ≡ accepted t → Accepts text t
  accepts t e = (exact.accepts text t).0 e

  pub written : (t : Tables.Table) → compiled text ≡ accepted t → (n : ℕ) (q : Tables.Production) → at t.productions n ≡ Some q → Written n q
  written t e n q f =
      let a : Accepts text t = accepts t e in
      let x : LineOf a.derived.derived n q = table_line a.derived.table a.derived.kept n q (rw a.table at f) in
      record {
        line = x.line;
        has = record {
          directive = a.directive;
          lines = a.derived.derived;
          reading = a.derived.table;
          number = x.number;
          bytes = x.bytes;
          before = x.before;
          after = x.after;
          split = x.split;
          start = x.start;
          derives = x.derives;
        };
        calls = x.calls;
      }
