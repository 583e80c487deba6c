use native.Mathlib.Omega.{arith}
use mathlib.Core.Path.{refl}
use Rattle.lines.specs.Totals.{with_line}
use Rattle.lines.proofs.totals.with_line.Goals as goal

pub overflow_add-result : goal.overflow_add-result
unfolding with_line
overflow_add-result c = omega (arith, c.requires.productions)

pub overflow_add-result-2 : goal.overflow_add-result-2
unfolding with_line
overflow_add-result-2 c = omega (arith, c.requires.events)

pub overflow_add-result-3 : goal.overflow_add-result-3
unfolding with_line
overflow_add-result-3 c = omega (arith, c.requires.elements)

pub overflow_add-result-4 : goal.overflow_add-result-4
unfolding with_line
overflow_add-result-4 c = omega (arith, c.requires.calls)

pub overflow_add-result-5 : goal.overflow_add-result-5
unfolding with_line
overflow_add-result-5 c = omega (arith, c.requires.parameters)

pub returns : goal.returns
unfolding with_line
returns c = refl
