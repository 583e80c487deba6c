-- One line: what the code's answers are in the model's terms.
use Prim.Native.Nat.{ℕ, ◌+◌, ◌≤◌}
use native.Mathlib.Omega.{arith}
use mathlib.Core.Path.{◌≡◌, refl, sym, ap, ◌∙◌, subst}
use mathlib.Core.Bool.{true, false}
use mathlib.Core.List.{List, [], ◌∷◌, ◌++◌, map}
use Rattle.std.specs.Prelude.{None}
use lib.ListN.{length, length-append}
use borrow.Author.Tests.{eq-eqb, ne_eqb}
use Rattle.model.specs.Lists.{part}
use Rattle.model.specs.Lines.{line_end, line_at, is_blank_line, directive_of, directive_at}
use Rattle.model.specs.Compiling.{call_of, passes_limit, LineOutcome, add, line_outcome}
use Rattle.model.specs.Tables.{Production}
use Rattle.model.specs.Events.{EventsRead, events, left_side}
use Rattle.model.specs.Calls.{right_side}
use Rattle.model.specs.declared.scan.Class.{Class}
use Rattle.model.specs.declared.events.Directive.{Directive}
use Rattle.event_scanner.specs.Spans.{events_in}
use Rattle.event_scanner.specs.LeftSide.{left_of}
use Rattle.event_scanner.specs.declared.left.LeftRead.{LeftRead}
use Rattle.call_scanner.specs.RightSide.{calls_in, right_of}
use Rattle.call_scanner.specs.declared.right.RightRead.{RightRead}
use Rattle.scanner.proofs.Runs.{run_from, run_in}
use Rattle.lines.specs.declared.totals.Totals.{Totals}
use Rattle.lines.specs.declared.totals.Line.{Line}
use Rattle.lines.specs.declared.left.LeftJudged.{LeftJudged}
use Rattle.lines.specs.declared.line.LineJudged.{LineJudged}
use Rattle.lines.specs.Totals.{totals_of, held_line, with_line, TotalsIn}
use Rattle.lines.specs.Line.{calls_found, calls_start, judged_of, right_verdict, sides_verdict}
use Rattle.lines.proofs.Sums.{totals_more, totals_in}
use Rattle.tables.specs.Layout.{image, table_length}
use Rattle.tables.proofs.Images.{length_image}
use Rattle.tables.specs.Writing.{put_production}
use Rattle.line_writer.specs.Puts.{put_written, put_calls}
use Rattle.line_writer.specs.Reads.{EventsFit, EventsPut, CallsFit, CallsPut}
use Rattle.compiler.specs.WholeLine.{put_sides, put_line, AddedPut, LineFits}
use Rattle.compiler.specs.Held.{so_far, held}
use Rattle.compiler.specs.Progress.{Underway, LineStep, going, stopped, outcome_step, plain_step, step_done, StepHeld}
use Rattle.compiler.specs.declared.line.LineDone.{LineDone}
use Rattle.compiler.proofs.AddedLine.{LineAdds, line_adds, line_fits, line_held, so_far_room}

-- ---- Where a line lies

pub line_part : (text : List ℕ) (at end : ℕ) → end ≡ line_end text at → part text at end ≡ line_at text at
unfolding line_at
line_part text at end e = ap (part text at) e

pub line_from_lem : (text : List ℕ) (at : ℕ) → at ≤ line_end text at
unfolding line_end
line_from_lem text at = run_from Class.Line text at

pub line_in : (text : List ℕ) (at : ℕ) → at ≤ length text → line_end text at ≤ length text
unfolding line_end
line_in text at h = run_in Class.Line text at h

-- only the line at byte 0 is a directive
pub directive_first : (text : List ℕ) (at : ℕ) → at ≡ 0 → directive_at text at ≡ directive_of (line_at text at)
unfolding directive_at
directive_first text at e = rw (eq-eqb at 0 e) (ap (λ (n : ℕ). directive_of (line_at text n)) (sym e))

pub directive_later : (text : List ℕ) (at : ℕ) → (at ≡ 0 → ⊥) → directive_at text at ≡ None
unfolding directive_at
directive_later text at e = rw (ne_eqb at 0 e)

-- ---- What a line that is no directive comes to

module _ (d : Directive) (ps : List Production) (base : ℕ) (l : List ℕ) where
  pub plain_blank : is_blank_line l ≡ true → plain_step d ps base l ≡ going d ps
  unfolding plain_step
  plain_blank e = rw e

  outcome_is : (o : LineOutcome) → is_blank_line l ≡ false → line_outcome ps base l ≡ o → plain_step d ps base l ≡ outcome_step d ps o
  unfolding plain_step
  outcome_is o e q = rw (e, q)

  pub plain_refused : (n : ℕ) → is_blank_line l ≡ false → line_outcome ps base l ≡ LineOutcome.refuse n → plain_step d ps base l ≡ stopped n
  plain_refused n e q = outcome_is (LineOutcome.refuse n) e q

  pub plain_added : (p : Production) → is_blank_line l ≡ false → line_outcome ps base l ≡ add p
      → plain_step d ps base l ≡ going d (ps ++ (p ∷ []))
  plain_added p e q = outcome_is (add p) e q

-- an answer and bytes that are those of a step
abbrev pub Stepped : List ℕ → LineDone → List ℕ → LineStep → Type 0
Stepped rest r out x = (r ≡ step_done x) × StepHeld x rest out

pub stepped : (rest : List ℕ) (r : LineDone) (out : List ℕ) {x y : LineStep} → y ≡ x → Stepped rest r out x → Stepped rest r out y
stepped rest r out e h = subst (Stepped rest r out) (sym e) h

-- ---- What a line that is judged has written

module _ (base : ℕ) (l : List ℕ) (t : Totals) (before after : List ℕ) where
  -- a line with an event that is refused adds nothing
  pub none_put : (n : ℕ) (r : LineJudged) → r ≡ sides_verdict t l (LeftJudged.Refuse n) (left_of (left_side l))
      → AddedPut base l t before after r
  none_put n r e = subst (AddedPut base l t before after) (sym e) (sides (left_of (left_side l)))
    where
      right : (next : ℕ) (x : RightRead) → AddedPut base l t before after (right_verdict t next (LeftJudged.Refuse n) x)
      right next RightRead.Broken = tt
      right next (RightRead.Right count parameters most) = tt

      sides : (x : LeftRead) → AddedPut base l t before after (sides_verdict t l (LeftJudged.Refuse n) x)
      sides LeftRead.Broken = tt
      sides (LeftRead.Left next) = right next (right_of (right_side l next))

  found : (r : EventsRead) (next : ℕ) → left_of r ≡ LeftRead.Left next → calls_found r ≡ next
  found EventsRead.broken next e = let z : ◌≡◌ {A = ℕ} 0 1 = cc in absurd (omega arith)
  found (events es end) next e = cc

  -- the events and then the calls
  both_put : (next : ℕ) (mid : List ℕ) → left_of (left_side l) ≡ LeftRead.Left next → EventsPut l t.events before mid
      → CallsPut l base next t.calls t.parameters mid after
      → EventsFit (left_side l) t.events → CallsFit (right_side l (calls_start l)) t.calls t.parameters
      → after ≡ put_sides base l t (calls_start l) before
  unfolding calls_start put_sides
  both_put next mid e v w f h =
      let s = found (left_side l) next e in
      w (subst (λ (k : ℕ). CallsFit (right_side l k) t.calls t.parameters) s h)
      ∙ ap (λ (o : List ℕ). put_calls o t.calls t.parameters (map (call_of base) (calls_in (right_side l next)))) (v f)
      ∙ ap (λ (k : ℕ). put_calls (put_written before t.events (events_in (left_side l))) t.calls t.parameters (map (call_of base) (calls_in (right_side l k)))) (sym s)

  pub sides_put : (r : LineJudged) (next : ℕ) (mid : List ℕ) → left_of (left_side l) ≡ LeftRead.Left next → EventsPut l t.events before mid
      → CallsPut l base next t.calls t.parameters mid after → AddedPut base l t before after r
  sides_put (LineJudged.Refuse n) next mid e v w = tt
  sides_put (LineJudged.Add line) next mid e v w = both_put next mid e v w

-- ---- The bytes so far

pub held_length : (ps : List Production) (rest : List ℕ) → passes_limit ps ≡ false → length (held ps rest) ≡ table_length + length rest
unfolding held
held_length ps rest h =
    omega (arith, length-append (image (so_far ps)) rest, length_image (so_far ps) (so_far_room ps h))

module _ (t : Totals) (out : List ℕ) (u : Underway t out) where
  pub underway_length : length out ≡ table_length + length u.rest
  underway_length = ap length u.bytes ∙ held_length u.ps u.rest u.kept

  pub underway_in : TotalsIn t
  underway_in = subst TotalsIn (sym u.totals) (totals_in u.ps u.kept)

  -- ---- A line that is judged

  pub outcome_refused : (n right base : ℕ) (l : List ℕ) → LineJudged.Refuse n ≡ judged_of right (line_outcome u.ps base l)
      → line_outcome u.ps base l ≡ LineOutcome.refuse n
  outcome_refused n right base l e = go (line_outcome u.ps base l) e
    where
      go : (o : LineOutcome) → LineJudged.Refuse n ≡ judged_of right o → o ≡ LineOutcome.refuse n
      go (add p) e = let z : ◌≡◌ {A = ℕ} 0 1 = cc in absurd (omega arith)
      go (LineOutcome.refuse m) e = cc

  pub record Adds (base : ℕ) (l : List ℕ) (line : Line) : Type 0 where
    pub p : Production
    pub outcome : line_outcome u.ps base l ≡ add p
    pub is : line ≡ held_line (calls_start l) p

  pub outcome_added : (base : ℕ) (l : List ℕ) (line : Line)
      → LineJudged.Add line ≡ judged_of (calls_start l) (line_outcome u.ps base l) → Adds base l line
  outcome_added base l line e = go (line_outcome u.ps base l) refl e
    where
      go : (o : LineOutcome) → line_outcome u.ps base l ≡ o → LineJudged.Add line ≡ judged_of (calls_start l) o → Adds base l line
      go (add p) q e = record { p = p; outcome = q; is = cc }
      go (LineOutcome.refuse m) q e = let z : ◌≡◌ {A = ℕ} 0 1 = cc in absurd (omega arith)

  module _ (base : ℕ) (l : List ℕ) (line : Line) (a : Adds base l line) where
    adds : LineAdds u.ps base l a.p
    adds = line_adds u.ps base l a.p a.outcome

    pub added_fits : LineFits l t line
    added_fits =
        subst (λ (s : Totals). LineFits l s line) (sym u.totals)
        (subst (LineFits l (totals_of u.ps)) (sym a.is) (line_fits u.ps base l a.p adds))

    pub added_totals : with_line t line ≡ totals_of (u.ps ++ (a.p ∷ []))
    added_totals =
        ap (λ (s : Totals). with_line s line) u.totals
        ∙ ap (with_line (totals_of u.ps)) a.is
        ∙ sym (totals_more u.ps a.p (calls_start l))

    pub added_in : TotalsIn (with_line t line)
    added_in = subst TotalsIn (sym added_totals) (totals_in (u.ps ++ (a.p ∷ [])) adds.passes)

    right_is : line.right ≡ calls_start l
    unfolding held_line
    right_is = ap (λ (n : Line). n.right) a.is

    -- its events and calls are written, and then its production
    pub added_held : (mid new : List ℕ) → AddedPut base l t out mid (LineJudged.Add line)
        → new ≡ put_production mid t.productions line.events line.calls
        → new ≡ held (u.ps ++ (a.p ∷ [])) u.rest
    unfolding put_line
    added_held mid new w e =
        e
        ∙ ap (λ (o : List ℕ). put_production o t.productions line.events line.calls)
        (w added_fits.events (subst (λ (k : ℕ). CallsFit (right_side l k) t.calls t.parameters) right_is added_fits.calls)
        ∙ ap (λ (k : ℕ). put_sides base l t k out) (sym right_is))
        ∙ ap (put_line base l t line) u.bytes
        ∙ ap (λ (s : Totals). put_line base l s line (held u.ps u.rest)) u.totals
        ∙ ap (λ (n : Line). put_line base l (totals_of u.ps) n (held u.ps u.rest)) a.is
        ∙ line_held u.ps base l a.p adds u.rest u.kept
