-- The bytes of a table while it is made: the entries of the productions so far, and no header, which is written last.
use Rattle.std.specs.Prelude.{ℕ, List, [], ◌++◌, map, length}
use Rattle.model.specs.Tables.{Production}
use Rattle.tables.specs.Layout.{Entries, all_events, all_calls, all_parameters, image}

abbrev pub so_far : List Production → Entries
so_far ps =
    record {
      header = [];
      production_events = map (λ (p : Production). length p.events) ps;
      production_calls = map (λ (p : Production). length p.calls) ps;
      events = all_events ps;
      calls = all_calls ps;
      parameters = all_parameters (all_calls ps);
    }

-- with what follows the table in the buffer
unfoldable pub held : List Production → List ℕ → List ℕ
held ps rest = image (so_far ps) ++ rest
