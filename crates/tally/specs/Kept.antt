-- Which productions of a table are kept beside another's, and the text that they come from.
use Rattle.std.specs.Prelude.{ℕ, ◌-◌, Bool, true, false, List, ◌++◌, map}
use Rattle.words.specs.Runs.{run}
use Rattle.model.specs.Tables.{Call, Production}
use Rattle.model.specs.Merging.{without}
use Rattle.model.specs.declared.events.Directive.{Directive}
use Rattle.tables.specs.Reading.{production_total, production_entry}

-- the first n productions of a table
unfoldable pub first_of : List ℕ → ℕ → List Production
first_of l n = run (production_entry l) 0 n

-- the productions of a table from p on
unfoldable pub rest_of : List ℕ → ℕ → List Production
rest_of l p = run (production_entry l) p (production_total l - p)

-- those of a table, from p on, whose events equal none of the first n of another
unfoldable pub kept_from : List ℕ → (p : ℕ) → List ℕ → (n : ℕ) → List Production
kept_from l p other n = without (first_of other n) (rest_of l p)

-- productions, each with whether its calls are the second text's
abbrev pub each_marked : Bool → List Production → List (Bool × Production)
each_marked second ps = map (λ p. (second, p)) ps

-- those of a merge in order, by the new table's directive
unfoldable pub kept_by : Directive → (old new : List ℕ) → List (Bool × Production)
kept_by Directive.Replace old new = each_marked true (kept_from new 0 old 0)
kept_by Directive.Override old new =
    each_marked true (kept_from new 0 old 0) ++ each_marked false (kept_from old 0 new (production_total new))
kept_by Directive.Augment old new =
    each_marked false (kept_from old 0 new 0) ++ each_marked true (kept_from new 0 old (production_total old))

-- a call, marked as the first text's or the second's
abbrev pub marked_call : Bool → Call → Call
marked_call second c = record { second = second; name = c.name; parameters = c.parameters }

-- a production with its calls marked so
abbrev pub from_text : Bool → Production → Production
from_text second p = record { events = p.events; calls = map (marked_call second) p.calls }
