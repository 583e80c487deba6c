-- Where more is counted there was less before: laws that what is done with a kept production rests on.
use native.Mathlib.Omega.{arith}
use Rattle.std.specs.Prelude.{ℕ}
use Rattle.model.specs.Tables.{Production}
use Rattle.tally.specs.Counting.{tally_one, TallyBelow, TallyRoom}
use Rattle.tally.specs.declared.count.Tally.{Tally}

pub one_below : (b : ℕ) (t : Tally) (p : Production) → TallyBelow b (tally_one t p) → TallyBelow b t
unfolding tally_one
one_below b t p r =
    record {
      productions = omega (arith, r.productions);
      events = omega (arith, r.events);
      expanded = omega (arith, r.expanded);
      calls = omega (arith, r.calls);
      parameters = omega (arith, r.parameters);
    }

pub one_room : (t : Tally) (p : Production) → TallyRoom (tally_one t p) → TallyRoom t
unfolding tally_one
one_room t p r =
    record {
      productions = omega (arith, r.productions);
      events = omega (arith, r.events);
      expanded = omega (arith, r.expanded);
      calls = omega (arith, r.calls);
      parameters = omega (arith, r.parameters);
    }
