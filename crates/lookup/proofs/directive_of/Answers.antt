-- `lookup::directive_of` meets its contract. Assumes nothing.
use Prim.Native.Nat.{◌-◌}
use native.Mathlib.Omega.{arith}
use mathlib.Core.Path.{sym, ap, ◌∙◌}
use Rattle.std.specs.Prelude.{None, Some}
use Rattle.model.specs.declared.events.Directive.{Directive}
use Rattle.names.specs.Places.{directives_at, none_at}
use Rattle.lookup.specs.Find.{meaning_of, directive_meaning}
use Rattle.lookup.proofs.Lookup.{found_within}
use Rattle.lookup.proofs.Groups.{directive_found}
use Rattle.lookup.proofs.directive_of.Goals as goal

pub overflow_sub-i : goal.overflow_sub-i
overflow_sub-i c =
    omega (arith, found_within (none_at - directives_at) directives_at c.args.line.now c.in-At.i (sym c.find.ensures ∙ c.in-At.is))

pub returns-in-At : goal.returns-in-At
returns-in-At c =
    ap (λ (d : Directive). Some d) c.directive_at.ensures
    ∙ ap (meaning_of directive_meaning None) (sym c.in-At.is ∙ c.find.ensures)
    ∙ directive_found c.args.line.now

pub returns-in-Nothing : goal.returns-in-Nothing
returns-in-Nothing c =
    ap (meaning_of directive_meaning None) (sym c.in-Nothing.is ∙ c.find.ensures) ∙ directive_found c.args.line.now
