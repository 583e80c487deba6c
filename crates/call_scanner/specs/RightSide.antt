-- The right side of a production: what the code keeps of the model's reading of its calls.
use Rattle.std.specs.Prelude.{ℕ, ◌+◌, max, cond, List, [], ◌∷◌, length}
use Rattle.model.specs.Lists.{in_all}
use Rattle.model.specs.Bytes.{skip, sign_at}
use Rattle.model.specs.Calls.{WrittenCall, Parameters, parameters, parameters_at, CallsRead, calls}
use Rattle.model.specs.declared.scan.CallRead.{CallRead}
use Rattle.call_scanner.specs.declared.right.ParametersOpen.{ParametersOpen}
use Rattle.call_scanner.specs.declared.right.ParametersRead.{ParametersRead}
use Rattle.call_scanner.specs.declared.right.CallSpans.{CallSpans}
use Rattle.call_scanner.specs.declared.right.RightRead.{RightRead}

-- ---- Parameters

-- "`f()` has no parameter"
unfoldable pub open_from : List ℕ → ℕ → ParametersOpen
open_from l at = cond (sign_at l at ")") (ParametersOpen.Empty (at + 1)) (ParametersOpen.First at)

unfoldable pub open_at : List ℕ → ℕ → ParametersOpen
open_at l at = open_from l (skip l at)

abbrev pub parameters_counted : Parameters → ParametersRead
parameters_counted Parameters.broken = ParametersRead.Broken
parameters_counted (parameters ss next) = ParametersRead.Parameters (length ss) next

-- ---- Calls

abbrev pub call_counted : ℕ → ℕ → ParametersRead → CallSpans
call_counted start end ParametersRead.Broken = CallSpans.Broken
call_counted start end (ParametersRead.Parameters count next) = CallSpans.Call start end count next

abbrev pub call_spans : List ℕ → CallRead → CallSpans
call_spans l CallRead.Broken = CallSpans.Broken
call_spans l CallRead.End = CallSpans.End
call_spans l (CallRead.Name start end) = call_counted start end (parameters_counted (parameters_at l (end + 1)))

abbrev pub parameter_number : WrittenCall → ℕ
parameter_number c = length c.parameters

-- the largest number of parameters that one call has
abbrev pub most_of : List WrittenCall → ℕ
most_of [] = 0
most_of (c ∷ cs) = max (parameter_number c) (most_of cs)

abbrev pub right_of : CallsRead → RightRead
right_of CallsRead.broken = RightRead.Broken
right_of (calls cs) = RightRead.Right (length cs) (in_all parameter_number cs) (most_of cs)

-- the calls that stand there, none where they are not in the grammar
abbrev pub calls_in : CallsRead → List WrittenCall
calls_in CallsRead.broken = []
calls_in (calls cs) = cs
