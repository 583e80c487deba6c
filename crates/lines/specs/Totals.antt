-- What productions take of the limits.
use Rattle.std.specs.Prelude.{ℕ, ◌+◌, ◌≤◌, List, length}
use Rattle.model.specs.Lists.{in_all}
use Rattle.model.specs.Tables.{Call, Production}
use Rattle.model.specs.Counts.{sequence}
use Rattle.model.specs.Limits.{production_limit, event_limit, call_limit, parameter_limit}
use Rattle.lines.specs.declared.totals.Totals.{Totals}
use Rattle.lines.specs.declared.totals.Line.{Line}

abbrev pub parameters_in : Production → ℕ
parameters_in p = in_all (λ (c : Call). length c.parameters) p.calls

unfoldable pub totals_of : List Production → Totals
totals_of ps =
    record {
      productions = length ps;
      events = in_all (λ (p : Production). length p.events) ps;
      elements = in_all (λ (p : Production). length (sequence p)) ps;
      calls = in_all (λ (p : Production). length p.calls) ps;
      parameters = in_all parameters_in ps;
    }

-- what one production holds, its calls written from `right` on
unfoldable pub held_line : ℕ → Production → Line
held_line right p =
    record {
      events = length p.events;
      elements = length (sequence p);
      calls = length p.calls;
      parameters = parameters_in p;
      right = right;
    }

-- one production more
unfoldable pub with_line : Totals → Line → Totals
with_line t line =
    record {
      productions = t.productions + 1;
      events = t.events + line.events;
      elements = t.elements + line.elements;
      calls = t.calls + line.calls;
      parameters = t.parameters + line.parameters;
    }

-- no limit is passed in all; an event stands for at least one element
pub record TotalsIn (t : Totals) : Type 0 where
  pub productions : t.productions ≤ production_limit
  pub events : t.events ≤ event_limit
  pub elements : t.elements ≤ event_limit
  pub calls : t.calls ≤ call_limit
  pub parameters : t.parameters ≤ parameter_limit
