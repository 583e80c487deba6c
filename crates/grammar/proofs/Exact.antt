-- Demand 2, as specs/Exact states it.
use Prim.Native.Nat.{ℕ, ◌+◌, ◌-◌}
use native.Mathlib.Omega.{arith}
use mathlib.Core.Path.{◌≡◌, refl, sym, ap, ◌∙◌}
use mathlib.Core.List.{List, ◌++◌}
use lib.ListN.{length}
use lib.Seq.{drop-append_seam, take-append_seam}
use Rattle.model.specs.Numbers as Numbers
use Rattle.model.specs.Lists.{part}
use Rattle.model.specs.Events.{WrittenEvent}
use Rattle.model.specs.Calls.{WrittenCall}
use Rattle.model.specs.Tables as Tables
use Rattle.model.specs.Compiling.{LineRead, line_read, Outcome, accepted, refused, table_of, out_of_fuel, compiled}
use Rattle.model.specs.declared.scan.Span.{Span}
use Rattle.grammar.specs.Tokens.{Stands}
use Rattle.grammar.specs.Productions.{DerivesProduction}
use Rattle.grammar.specs.Texts.{start_in_text}
use Rattle.grammar.specs.Compiling.{Compiles}
use Rattle.grammar.specs.Exact.{Accepts, FirstNotDerived, Exact}
use Rattle.grammar.proofs.Productions.{LineView, line_sound, line_complete}
use Rattle.grammar.proofs.Kept.{refused_not}
use Rattle.grammar.proofs.Texts.{sound, complete}
use Rattle.grammar.proofs.OneReading.{one_line_lem, one_text_lem}

-- ---- A line

pub production_of_lem :
    (l : List ℕ) (es : List WrittenEvent) (cs : List WrittenCall) (x : LineRead) → LineView l x → x ≡ LineRead.production es cs → DerivesProduction l es cs
production_of_lem l es cs x LineView.broken e = let z : ◌≡◌ {A = ℕ} 0 1 = cc in absurd (omega arith)
production_of_lem l es cs x (LineView.production {es = fs} {cs = ds} d) e =
    let i : es ≡ fs = cc in let j : cs ≡ ds = cc in rw (i, j) d

-- ---- A text

accepts_of : (text : List ℕ) (t : Tables.Table) (o : Outcome) → Compiles text o → o ≡ accepted t → Accepts text t
accepts_of text t o (Compiles.long_text h) e = let z : ◌≡◌ {A = ℕ} 0 1 = cc in absurd (omega arith)
accepts_of text t o (Compiles.bad_byte h run) e = let z : ◌≡◌ {A = ℕ} 0 1 = cc in absurd (omega arith)
accepts_of text t o (Compiles.not_grammar al u c n) e = let z : ◌≡◌ {A = ℕ} 0 1 = cc in absurd (omega arith)
accepts_of text t o (Compiles.refused_event al u c y r) e = let z : ◌≡◌ {A = ℕ} 0 1 = cc in absurd (omega arith)
accepts_of text t o (Compiles.past_limit al u c y k f) e = let z : ◌≡◌ {A = ℕ} 0 1 = cc in absurd (omega arith)
accepts_of text t o (Compiles.crowded_event al u c y r) e = let z : ◌≡◌ {A = ℕ} 0 1 = cc in absurd (omega arith)
accepts_of text t o (Compiles.accept {d = d} {ps = ps} al u) e =
    let i : t ≡ table_of text d ps = accepted_same (table_of text d ps) t e in
    record { allowed = al; directive = d; productions = ps; derived = u; table = i }
  where
    accepted_same : (a b : Tables.Table) → accepted a ≡ accepted b → b ≡ a
    accepted_same a b q = cc

not_grammar_of : (text : List ℕ) (place : ℕ) (o : Outcome) → Compiles text o → o ≡ refused Numbers.not_grammar place → FirstNotDerived text place
not_grammar_of text place o (Compiles.long_text h) e = let z : Numbers.long_text ≡ Numbers.not_grammar = cc in absurd (omega arith)
not_grammar_of text place o (Compiles.bad_byte h run) e = let z : Numbers.bad_byte ≡ Numbers.not_grammar = cc in absurd (omega arith)
not_grammar_of text place o (Compiles.not_grammar {l = l} {w = w} {r = r} {d = d} {ps = ps} al u c n) e =
    let i : place ≡ start_in_text text l = cc in
    record {
      allowed = al;
      directive = d;
      productions = ps;
      rest = l;
      before = u;
      line = w;
      after = r;
      cut = c;
      not_derived = n;
      starts = i;
    }
not_grammar_of text place o (Compiles.refused_event {n = n} al u c y r) e =
    let i : n ≡ Numbers.not_grammar = cc in absurd (refused_not Numbers.not_grammar refl r i)
not_grammar_of text place o (Compiles.past_limit al u c y k f) e =
    let z : Numbers.past_limit ≡ Numbers.not_grammar = cc in absurd (omega arith)
not_grammar_of text place o (Compiles.crowded_event al u c y r) e =
    let z : Numbers.past_limit ≡ Numbers.not_grammar = cc in absurd (omega arith)
not_grammar_of text place o (Compiles.accept al u) e = let z : ◌≡◌ {A = ℕ} 0 1 = cc in absurd (omega arith)

never_out : (text : List ℕ) (place : ℕ) (o : Outcome) → Compiles text o → o ≡ out_of_fuel place → ⊥
never_out text place o (Compiles.long_text h) e = let z : Numbers.long_text ≡ Numbers.short_buffer = cc in omega arith
never_out text place o (Compiles.bad_byte h run) e = let z : Numbers.bad_byte ≡ Numbers.short_buffer = cc in omega arith
never_out text place o (Compiles.not_grammar al u c n) e = let z : Numbers.not_grammar ≡ Numbers.short_buffer = cc in omega arith
never_out text place o (Compiles.refused_event {n = n} al u c y r) e =
    let i : n ≡ Numbers.short_buffer = cc in refused_not Numbers.short_buffer refl r i
never_out text place o (Compiles.past_limit al u c y k f) e = let z : Numbers.past_limit ≡ Numbers.short_buffer = cc in omega arith
never_out text place o (Compiles.crowded_event al u c y r) e = let z : Numbers.past_limit ≡ Numbers.short_buffer = cc in omega arith
never_out text place o (Compiles.accept al u) e = let z : ◌≡◌ {A = ℕ} 0 1 = cc in omega arith

-- ---- The bytes of a span

parts_hold : (line m w r : List ℕ) (s : Span) → Stands line m w s → m ≡ w ++ r → part line s.start (s.start + s.len) ≡ w
parts_hold line m w r s st e =
    let j : length st.before + length w - length st.before ≡ length w = omega arith in
    rw (st.place, st.split, e, j, drop-append_seam st.before (w ++ r)) (take-append_seam w r)

-- ---- All of it

pub exact : Exact
exact =
    record {
      line = λ l clean es cs. (λ e. production_of_lem l es cs (line_read l) (line_sound l clean) e, λ d. line_complete l d);
      one_line = λ l es fs cs ds x y. one_line_lem x y;
      one_text = λ text d e ds es x y. one_text_lem text x y;
      outcome = λ text o. (λ (e : compiled text ≡ o). rw (sym e) (sound text), λ c. complete text c);
      accepts = λ text t. (
        λ e. accepts_of text t (compiled text) (sound text) e,
        λ (a : Accepts text t). complete text (Compiles.accept a.allowed a.derived) ∙ ap accepted (sym a.table),
      );
      not_grammar = λ text place. (
        λ e. not_grammar_of text place (compiled text) (sound text) e,
        λ (a : FirstNotDerived text place).
            complete text (Compiles.not_grammar a.allowed a.before a.cut a.not_derived)
            ∙ ap (refused Numbers.not_grammar) (sym a.starts),
      );
      parts = parts_hold;
      enough = λ text place e. never_out text place (compiled text) (sound text) e;
    }
