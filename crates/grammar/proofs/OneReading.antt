-- One reading: a line, and a text, derives at most one result.
use Prim.Native.Nat.{ℕ}
use native.Mathlib.Omega.{arith}
use mathlib.Core.Path.{◌≡◌, refl, sym, ap, ◌∙◌}
use Rattle.std.specs.Prelude.{Option, None, Some}
use mathlib.Core.List.{List, [], ◌∷◌}
use Rattle.model.specs.Events.{WrittenEvent}
use Rattle.model.specs.Calls.{WrittenCall}
use Rattle.model.specs.Lines.{directive_of}
use Rattle.model.specs.Compiling.{LineRead}
use Rattle.model.specs.declared.events.Directive as Model
use Rattle.grammar.specs.Productions.{DerivesProduction}
use Rattle.grammar.specs.Texts.{Line, Directive, Derived, Lines, TranslationTable}
use Rattle.grammar.proofs.Places.{run_same}
use Rattle.grammar.proofs.Productions.{line_complete}
use Rattle.grammar.proofs.Lines.{directive_complete, directive_no_production, directive_no_blanks, blanks_no_production}

-- ---- Lines

pub one_line_lem :
    {l : List ℕ} {es fs : List WrittenEvent} {cs ds : List WrittenCall} → DerivesProduction l es cs → DerivesProduction l fs ds → (es ≡ fs) × (cs ≡ ds)
one_line_lem {l} {es} {fs} {cs} {ds} x y =
    let i : LineRead.production es cs ≡ LineRead.production fs ds = sym (line_complete l x) ∙ line_complete l y in
    let a : es ≡ fs = cc in
    let b : cs ≡ ds = cc in
    (a, b)

record SameLine (w v : List ℕ) (r s : Option (List ℕ)) : Type 0 where
  line : w ≡ v
  rest : r ≡ s

line_same : {l w v : List ℕ} {r s : Option (List ℕ)} → Line l w r → Line l v s → SameLine w v r s
line_same (Line.last {w = w} x) (Line.last {w = v} y) = record { line = (run_same w v x y).word; rest = refl }
line_same (Line.last {w = w} x) (Line.newline {w = v} {r = r} y) =
    let i : [] ≡ 10 ∷ r = (run_same w v x y).rest in let z : ◌≡◌ {A = ℕ} 0 1 = cc in absurd (omega arith)
line_same (Line.newline {w = w} {r = r} x) (Line.last {w = v} y) =
    let i : 10 ∷ r ≡ [] = (run_same w v x y).rest in let z : ◌≡◌ {A = ℕ} 0 1 = cc in absurd (omega arith)
line_same (Line.newline {w = w} {r = r} x) (Line.newline {w = v} {r = s} y) =
    let i : 10 ∷ r ≡ 10 ∷ s = (run_same w v x y).rest in
    let j : r ≡ s = cc in
    record { line = (run_same w v x y).word; rest = ap {B = Option (List ℕ)} Some j }

-- ---- Texts

module _ (text : List ℕ) where
  lines_same : {s : Option (List ℕ)} {ds es : List Derived} → Lines text s ds None → Lines text s es None → ds ≡ es
  lines_same Lines.done Lines.done = refl
  lines_same (Lines.blanks c b x) (Lines.blanks d e y) =
      lines_same x (rw (sym (line_same c d).rest) at y)
  lines_same (Lines.blanks c b x) (Lines.production d p y) =
      absurd (blanks_no_production (rw (line_same c d).line at b) p)
  lines_same (Lines.production c p x) (Lines.blanks d b y) =
      absurd (blanks_no_production (rw (sym (line_same c d).line) at b) p)
  lines_same (Lines.production {l = l} {w = w} {es = es} {cs = cs} c p x) (Lines.production {w = v} {es = fs} {cs = ds} d q y) =
      let s = line_same c d in
      let i = one_line_lem p (rw (sym s.line) at q) in
      let j = lines_same x (rw (sym s.rest) at y) in
      let a : es ≡ fs = i.0 in
      let b : cs ≡ ds = i.1 in
      cc

  -- a text that begins with a directive derives nothing without it
  plain_directed :
      {w : List ℕ} {r : Option (List ℕ)} {d : Model.Directive} {ds : List Derived} → Lines text (Some text) ds None → Line text w r → Directive w d → ⊥
  plain_directed (Lines.blanks c b x) e y = directive_no_blanks y (rw (line_same c e).line at b)
  plain_directed (Lines.production c p x) e y = directive_no_production y (rw (line_same c e).line at p)

  directive_same : {w v : List ℕ} {d e : Model.Directive} → w ≡ v → Directive w d → Directive v e → d ≡ e
  directive_same {w} {v} {d} {e} i x y =
      let j : Some d ≡ Some e = sym (directive_complete x) ∙ ap directive_of i ∙ directive_complete y in
      cc

  pub one_text_lem :
      {d e : Model.Directive} {ds es : List Derived} → TranslationTable text d ds None → TranslationTable text e es None
      → (d ≡ e) × (ds ≡ es)
  one_text_lem (TranslationTable.plain x) (TranslationTable.plain y) = (refl, lines_same x y)
  one_text_lem (TranslationTable.plain x) (TranslationTable.directed c b y) = absurd (plain_directed x c b)
  one_text_lem (TranslationTable.directed c b x) (TranslationTable.plain y) = absurd (plain_directed y c b)
  one_text_lem (TranslationTable.directed c b x) (TranslationTable.directed d e y) =
      let s = line_same c d in
      (directive_same s.line b e, lines_same x (rw (sym s.rest) at y))
