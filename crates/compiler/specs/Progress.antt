-- A line of a text: where the compiler stands after it, as the model's outcome has it.
use Rattle.std.specs.Prelude.{ℕ, ◌≡◌, false, cond, List, [], ◌∷◌, ◌++◌, Option, None, Some}
use Rattle.model.specs.Lines.{is_blank_line}
use Rattle.model.specs.Compiling.{passes_limit, LineOutcome, add, line_outcome}
use Rattle.model.specs.Tables.{Production}
use Rattle.model.specs.declared.events.Directive.{Directive}
use Rattle.lines.specs.Totals.{totals_of}
use Rattle.lines.specs.declared.totals.Totals.{Totals}
use Rattle.compiler.specs.Held.{held}
use Rattle.compiler.specs.declared.line.LineDone.{LineDone}

-- some productions pass no limit, have these totals, and stand in these bytes
pub record Underway (t : Totals) (out : List ℕ) : Type 0 where
  pub ps : List Production
  pub rest : List ℕ
  pub totals : t ≡ totals_of ps
  pub kept : passes_limit ps ≡ false
  pub bytes : out ≡ held ps rest

-- what a line comes to: the directive and the productions after it, or a number
pub data LineStep : Type 0 where
  going : Directive → List Production → LineStep
  stopped : ℕ → LineStep

abbrev pub outcome_step : Directive → List Production → LineOutcome → LineStep
outcome_step d ps (add p) = going d (ps ++ (p ∷ []))
outcome_step d ps (LineOutcome.refuse n) = stopped n

-- a line that is no directive
unfoldable pub plain_step : Directive → List Production → ℕ → List ℕ → LineStep
plain_step d ps base l = cond (is_blank_line l) (going d ps) (outcome_step d ps (line_outcome ps base l))

-- a line, a directive or not
abbrev pub line_step : Option Directive → Directive → List Production → ℕ → List ℕ → LineStep
line_step (Some e) d ps base l = going e ps
line_step None d ps base l = plain_step d ps base l

-- as it is answered
abbrev pub step_done : LineStep → LineDone
step_done (going d ps) = LineDone.Done (record { directive = d; totals = totals_of ps })
step_done (stopped n) = LineDone.Refused n

-- the bytes after it; those after a refusal are cleared, whatever events they hold
abbrev pub StepHeld : LineStep → List ℕ → List ℕ → Type 0
StepHeld (going d ps) rest out = out ≡ held ps rest
StepHeld (stopped n) rest out = Unit
