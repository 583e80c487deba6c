-- Where the words of a call stand among those of all calls of a table, if it has the call.
use Rattle.std.specs.Prelude.{ℕ, ◌+◌, cond, List, leb, Option, None, Some}
use Rattle.tables.specs.Reading.{production_total, production_calls, first_call}

-- a production's first call stands past the calls of all productions before it
unfoldable pub place_of : List ℕ → (production call : ℕ) → Option ℕ
place_of table production call =
    cond (leb (production_total table) production) None
    (cond (leb (production_calls table production) call) None (Some (first_call table production + call)))
