-- The loop over the lines of a text: what is left of the text gives the whole outcome.
use Prim.Native.Nat.{ℕ, zero, suc, pred, ◌+◌, ◌≤◌, ◌<◌}
use native.Mathlib.Omega.{arith}
use mathlib.Core.Path.{◌≡◌, refl, sym, ap, ◌∙◌, subst}
use mathlib.Core.Bool.{Bool, true, false, cond}
use mathlib.Core.List.{List, [], ◌∷◌, ◌++◌, append-nil}
use Rattle.std.specs.Prelude.{Option, None, Some}
use lib.Dec.{leb}
use lib.ListN.{length, drop, drop_of_length-le}
use borrow.Author.Tests.{le-leb, lt-leb}
use Rattle.words.specs.Words.{zeros, cleared}
use Rattle.model.specs.Lines.{line_end, line_at, is_blank_line, directive_at}
use Rattle.model.specs.Compiling.{passes_limit, totals_pass, LineOutcome, add, line_outcome, Outcome, accepted, refused, table_of, go_on, after_line, after_directive, lines_from, lines_of}
use Rattle.model.specs.Tables.{Production}
use Rattle.model.specs.declared.events.Directive.{Directive}
use Rattle.lines.specs.Totals.{totals_of, TotalsIn}
use Rattle.lines.specs.declared.totals.Totals.{Totals}
use Rattle.lines.proofs.Sums.{totals_in}
use Rattle.tables.specs.Layout.{table_length, directive_word, flag, flat, header_of, entries_of, image, encode}
use Rattle.tables.specs.Writing.{with_header}
use Rattle.tables.proofs.Written as written
use Rattle.compiler.specs.WholeLine.{put_header}
use Rattle.compiler.specs.Held.{so_far, held}
use Rattle.compiler.specs.Progress.{Underway, LineStep, going, stopped, outcome_step, plain_step, line_step, step_done, StepHeld}
use Rattle.compiler.specs.Compile.{image_of}
use Rattle.compiler.specs.declared.line.LineDone.{LineDone}
use Rattle.compiler.specs.declared.line.Progress.{Progress}
use Rattle.compiler.proofs.AddedLine.{line_adds, so_far_room, totals_are}
use Rattle.compiler.proofs.LineSteps.{line_from_lem}

-- where the loop stands: some productions are done, and fuel f suffices for the rest
pub record Going (text out : List ℕ) (s : Progress) (at : ℕ) : Type 0 where
  pub ps : List Production
  pub f : ℕ
  pub enough : length text < f + at
  pub inside : at ≤ length text
  pub totals : s.totals ≡ totals_of ps
  pub kept : passes_limit ps ≡ false
  pub bytes : out ≡ held ps []
  pub same : lines_of text ≡ lines_from f text at s.directive ps

-- ---- Before the first line

-- nothing follows the table
nothing_past : (l : List ℕ) → length l ≡ table_length → drop table_length l ≡ []
nothing_past l h =
    let n : length l ≤ table_length = omega arith in
    drop_of_length-le l n

none_pass : passes_limit [] ≡ false
unfolding passes_limit totals_pass
none_pass = refl

held_none : (rest : List ℕ) → image (so_far []) ++ rest ≡ held [] rest
unfolding held
held_none rest = refl

cleared_none : (l : List ℕ) → cleared table_length l ≡ image (so_far []) ++ drop table_length l
unfolding flat
cleared_none l = written.cleared_holds l

pub going_start : (text before out : List ℕ) (t : Totals) → length before ≡ table_length → out ≡ cleared table_length before → t ≡ totals_of []
    → Going text out (record { directive = Directive.Replace; totals = t }) 0
unfolding lines_of
going_start text before out t h e q =
    record {
      ps = [];
      f = length text + 1;
      enough = omega arith;
      inside = omega arith;
      totals = q;
      kept = none_pass;
      bytes = e ∙ cleared_none before ∙ held_none (drop table_length before) ∙ ap (held []) (nothing_past before h);
      same = refl;
    }

-- ---- One line

turn : (f : ℕ) (text : List ℕ) (at : ℕ) (d : Directive) (ps : List Production) → 0 < f
    → lines_from f text at d ps ≡ after_directive text at d ps (directive_at text at) (λ p e qs. lines_from (pred f) text p e qs)
unfolding lines_from
turn zero text at d ps h = absurd (omega arith)
turn (suc f) text at d ps h = refl

-- where the loop stands after a line
pub record Next (text out : List ℕ) (s : Progress) (at : ℕ) : Type 0 where
  pub ps : List Production
  pub f : ℕ
  pub enough : length text < suc f + at
  pub totals : s.totals ≡ totals_of ps
  pub kept : passes_limit ps ≡ false
  pub bytes : out ≡ held ps []
  pub same : lines_of text ≡ go_on text (line_end text at) s.directive ps (λ p e qs. lines_from f text p e qs)

abbrev pub AfterLine : List ℕ → List ℕ → ℕ → LineDone → Type 0
AfterLine text out at (LineDone.Refused n) = lines_of text ≡ refused n at
AfterLine text out at (LineDone.Done s) = Next text out s at

module _ (text : List ℕ) (at f : ℕ) (d : Directive) (ps : List Production) (kept : passes_limit ps ≡ false) where
  abbrev onward : ℕ → Directive → List Production → Outcome
  onward p e qs = lines_from f text p e qs

  -- what the step of a line means for the text
  abbrev Meant : LineStep → Type 0
  Meant (going e qs) = (passes_limit qs ≡ false) × (lines_of text ≡ go_on text (line_end text at) e qs onward)
  Meant (stopped n) = lines_of text ≡ refused n at

  plain_meant : (b : Bool) (o : LineOutcome) → line_outcome ps at (line_at text at) ≡ o
      → lines_of text ≡ cond b (go_on text (line_end text at) d ps onward) (after_line text at d ps o onward)
      → Meant (cond b (going d ps) (outcome_step d ps o))
  plain_meant true o q z = (kept, z)
  plain_meant false (add p) q z = ((line_adds ps at (line_at text at) p q).passes, z)
  plain_meant false (LineOutcome.refuse n) q z = z

  step_meant : (o : Option Directive) → lines_of text ≡ after_directive text at d ps o onward → Meant (line_step o d ps at (line_at text at))
  unfolding plain_step
  step_meant (Some e) z = (kept, z)
  step_meant None z = plain_meant (is_blank_line (line_at text at)) (line_outcome ps at (line_at text at)) refl z

  step_after : (new : List ℕ) (x : LineStep) → length text < suc f + at → StepHeld x [] new → Meant x → AfterLine text new at (step_done x)
  step_after new (going e qs) enough h m =
      record { ps = qs; f = f; enough = enough; totals = refl; kept = m.0; bytes = h; same = m.1 }
  step_after new (stopped n) enough h m = m

module _ (text out : List ℕ) (s : Progress) (at : ℕ) (g : Going text out s at) where
  abbrev pub underway : Underway s.totals out
  underway = record { ps = g.ps; rest = []; totals = g.totals; kept = g.kept; bytes = g.bytes }

  pub after_line_lem : (new : List ℕ) (r x : LineDone)
      → r ≡ step_done (line_step (directive_at text at) s.directive g.ps at (line_at text at))
      → StepHeld (line_step (directive_at text at) s.directive g.ps at (line_at text at)) [] new
      → r ≡ x → AfterLine text new at x
  after_line_lem new r x a b q =
      let m =
      step_meant text at (pred g.f) s.directive g.ps g.kept (directive_at text at)
      (g.same ∙ turn g.f text at s.directive g.ps (omega (arith, g.enough, g.inside))) in
      subst (AfterLine text new at) (sym a ∙ q)
      (step_after text at (pred g.f) s.directive g.ps g.kept new (line_step (directive_at text at) s.directive g.ps at (line_at text at)) (omega (arith, g.enough, g.inside)) b m)

-- ---- After a line

module _ (text out : List ℕ) (s : Progress) (at : ℕ) (x : Next text out s at) where
  pub next_totals : TotalsIn s.totals
  next_totals = subst TotalsIn (sym x.totals) (totals_in x.ps x.kept)

  -- another line follows
  pub next_going : (end : ℕ) → end ≡ line_end text at → end < length text → Going text out s (end + 1)
  next_going end e h =
      let l : leb (length text) (line_end text at) ≡ false = lt-leb (length text) (line_end text at) (omega arith) in
      let q : lines_of text ≡ lines_from x.f text (line_end text at + 1) s.directive x.ps =
      x.same ∙ ap (λ (b : Bool). cond b (accepted (table_of text s.directive x.ps)) (lines_from x.f text (line_end text at + 1) s.directive x.ps)) l in
      record {
        ps = x.ps;
        f = x.f;
        enough = omega (arith, x.enough, line_from_lem text at);
        inside = omega arith;
        totals = x.totals;
        kept = x.kept;
        bytes = x.bytes;
        same = q ∙ ap (λ (n : ℕ). lines_from x.f text (n + 1) s.directive x.ps) (sym e);
      }

  -- it was the last line
  pub next_last : (end : ℕ) → end ≡ line_end text at → length text ≤ end → lines_of text ≡ accepted (table_of text s.directive x.ps)
  next_last end e h =
      let l : leb (length text) (line_end text at) ≡ true = le-leb (length text) (line_end text at) (omega arith) in
      x.same ∙ ap (λ (b : Bool). cond b (accepted (table_of text s.directive x.ps)) (lines_from x.f text (line_end text at + 1) s.directive x.ps)) l

-- ---- The header

header_held : (text : List ℕ) (ps : List Production) (rest : List ℕ) (d : Directive) → passes_limit ps ≡ false
    → put_header (held ps rest) d (totals_of ps) (length text) ≡ encode (table_of text d ps) ++ rest
unfolding put_header held encode entries_of header_of
header_held text ps rest d h =
    let n = totals_are ps in
    let a = n.productions in
    let b = n.events in
    let c = n.calls in
    let e = n.parameters in
    written.put_header_lem (so_far ps) rest (so_far_room ps h) d false (length text) 0 (totals_of ps).productions (totals_of ps).events (totals_of ps).calls (totals_of ps).parameters
    ∙ (λ i. image (with_header (so_far ps) (directive_word d ∷ flag 1 false ∷ length text ∷ 0 ∷ a i ∷ b i ∷ c i ∷ e i ∷ [])) ++ rest)

module _ (text : List ℕ) where
  -- a refusal, with the buffer cleared again
  pub refused_bytes : (out new : List ℕ) (n at : ℕ) → length out ≡ table_length → lines_of text ≡ refused n at
      → new ≡ cleared table_length out → new ≡ image_of (lines_of text)
  unfolding image_of cleared
  refused_bytes out new n at h e c =
      c ∙ ap (λ (r : List ℕ). zeros table_length ++ r) (nothing_past out h) ∙ append-nil (zeros table_length) ∙ ap image_of (sym e)

  pub accepted_bytes : (out new : List ℕ) (s : Progress) (at : ℕ) (x : Next text out s at)
      → lines_of text ≡ accepted (table_of text s.directive x.ps)
      → new ≡ put_header out s.directive s.totals (length text)
      → new ≡ image_of (lines_of text)
  unfolding image_of
  accepted_bytes out new s at x e c =
      c
      ∙ ap (λ (o : List ℕ). put_header o s.directive s.totals (length text)) x.bytes
      ∙ ap (λ (t : Totals). put_header (held x.ps []) s.directive t (length text)) x.totals
      ∙ header_held text x.ps [] s.directive x.kept
      ∙ append-nil (encode (table_of text s.directive x.ps))
      ∙ ap image_of (sym e)
