-- Document 01, "The text": calls and their parameters, read at a position of a line.
-- The recursion with fuel need not be believed by a reader who believes grammar/specs/Compiling and Exact (see Events). Out of fuel
-- reads as broken.
use Rattle.std.specs.Prelude.{ℕ, zero, suc, ◌+◌, ◌-◌, cond, List, [], ◌∷◌, eqb, leb, length}
use Rattle.model.specs.Bytes.{sign_at, run_end, skip}
use Rattle.model.specs.declared.scan.Class.{Class}
use Rattle.model.specs.declared.scan.Span.{Span}
use Rattle.model.specs.declared.scan.CallRead.{CallRead}
use Rattle.model.specs.declared.scan.ParameterRead.{ParameterRead}

-- a call as it is written: where its name and its parameters, without quotes, stand
pub record WrittenCall : Type 0 where
  pub name : Span
  pub parameters : List Span

abbrev pub span : ℕ → ℕ → Span
span start end = record { start = start; len = end - start }

-- ---- Parameters

-- "parameters parted by commas, `)`"
unfoldable pub parameter_end : List ℕ → ℕ → ℕ → ℕ → ParameterRead
parameter_end l start end at =
    cond (sign_at l at ",") (ParameterRead.More start end (at + 1))
    (cond (sign_at l at ")") (ParameterRead.Last start end (at + 1)) ParameterRead.Broken)

-- "A quoted parameter runs to the next quote on the line"
unfoldable pub quoted_from : List ℕ → ℕ → ℕ → ParameterRead
quoted_from l start end =
    cond (leb (length l) end) ParameterRead.Broken (parameter_end l start end (skip l (end + 1)))

-- "an unquoted one may not hold blank, comma, quote or `)`"; it may be empty
unfoldable pub unquoted_from : List ℕ → ℕ → ℕ → ParameterRead
unquoted_from l start end = parameter_end l start end (skip l end)

unfoldable pub parameter_from : List ℕ → ℕ → ParameterRead
parameter_from l at =
    cond (sign_at l at "\"") (quoted_from l (at + 1) (run_end Class.Quoted l (at + 1))) (unquoted_from l at (run_end Class.Unquoted l at))

unfoldable pub parameter_at : List ℕ → ℕ → ParameterRead
parameter_at l at = parameter_from l (skip l at)

pub data Parameters : Type 0 where
  broken : Parameters
  -- the parameters, and where reading goes on past the closing bracket
  parameters : List Span → ℕ → Parameters

abbrev pub one_parameter_more : Span → Parameters → Parameters
one_parameter_more s broken = broken
one_parameter_more s (parameters ss next) = parameters (s ∷ ss) next

abbrev pub parameters_next : ParameterRead → (ℕ → Parameters) → Parameters
parameters_next ParameterRead.Broken rest = broken
parameters_next (ParameterRead.More start end next) rest = one_parameter_more (span start end) (rest next)
parameters_next (ParameterRead.Last start end next) rest = parameters (span start end ∷ []) next

-- the parameters from a position on; fuel bounds how many
unfoldable pub parameters_from : ℕ → List ℕ → ℕ → Parameters
parameters_from zero l at = broken
parameters_from (suc fuel) l at = parameters_next (parameter_at l at) (λ p. parameters_from fuel l p)

-- "`f()` has no parameter, `f("")` one, `f(,)` two empty ones."
unfoldable pub parameters_past : List ℕ → ℕ → Parameters
parameters_past l at = cond (sign_at l at ")") (parameters [] (at + 1)) (parameters_from (length l + 1) l at)

-- the parameters after an opening bracket
unfoldable pub parameters_at : List ℕ → ℕ → Parameters
parameters_at l at = parameters_past l (skip l at)

-- ---- Calls

-- "`(` directly after it"
unfoldable pub call_name_from : List ℕ → ℕ → ℕ → CallRead
call_name_from l start end =
    cond (eqb end start) CallRead.Broken (cond (sign_at l end "(") (CallRead.Name start end) CallRead.Broken)

unfoldable pub call_from : List ℕ → ℕ → CallRead
call_from l at = cond (leb (length l) at) CallRead.End (call_name_from l at (run_end Class.Call l at))

-- the name of the next call, or the end of the line
unfoldable pub call_at : List ℕ → ℕ → CallRead
call_at l at = call_from l (skip l at)

pub data CallsRead : Type 0 where
  broken : CallsRead
  calls : List WrittenCall → CallsRead

abbrev pub one_more_call : WrittenCall → CallsRead → CallsRead
one_more_call c CallsRead.broken = CallsRead.broken
one_more_call c (calls cs) = calls (c ∷ cs)

abbrev pub with_parameters : Span → Parameters → (ℕ → CallsRead) → CallsRead
with_parameters name Parameters.broken rest = CallsRead.broken
with_parameters name (parameters ss next) rest = one_more_call (record { name = name; parameters = ss }) (rest next)

abbrev pub calls_next : List ℕ → CallRead → (ℕ → CallsRead) → CallsRead
calls_next l CallRead.Broken rest = CallsRead.broken
calls_next l CallRead.End rest = calls []
calls_next l (CallRead.Name start end) rest = with_parameters (span start end) (parameters_at l (end + 1)) rest

-- "zero or more calls", to the end of the line; fuel bounds how many
unfoldable pub calls_from : ℕ → List ℕ → ℕ → CallsRead
calls_from zero l at = CallsRead.broken
calls_from (suc fuel) l at = calls_next l (call_at l at) (λ p. calls_from fuel l p)

unfoldable pub right_side : List ℕ → ℕ → CallsRead
right_side l at = calls_from (length l + 1) l at
