-- Demand 2: the writer's text is the canonical one and, where it fits the length limit, reads back to the same productions.
-- This is about the definitions of the crate model, which the contracts of the compiler, the merger and the writer cite. proofs/RoundTrip shows it.
use Rattle.std.specs.Prelude.{ℕ, ◌≤◌, ◌<◌, ◌≡◌, false, List, [], length}
use Rattle.model.specs.Limits.{text_limit}
use Rattle.model.specs.Numbers.{long_text}
use Rattle.model.specs.Tables.{Table}
use Rattle.model.specs.Compiling.{compiled, accepted, refused}
use Rattle.model.specs.Merging.{merged_table, merge_passes_limit}
use Rattle.model.specs.Demand.{Accepted}
use Rattle.model.specs.Canonical.{canonical_text}
use Rattle.roundtrip.specs.Contents.{contents}

-- the texts that an accepted table came from
pub data CameFrom : Table → List ℕ → List ℕ → Type 0 where
  -- a compiled table's text is the first, whatever the second
  compiling : {t : Table} {text second : List ℕ} → compiled text ≡ accepted t → CameFrom t text second
  -- "the old table's text is the first"
  merging :
      {old new : Table} {first second : List ℕ} → compiled first ≡ accepted old → compiled second ≡ accepted new
      → merge_passes_limit old new ≡ false → CameFrom (merged_table old new) first second

-- a text compiles to a table of the same productions, and is that table's canonical text
pub record ReadsBack (first second : List ℕ) (t : Table) (text : List ℕ) : Type 0 where
  pub again : Table
  pub accepts : compiled text ≡ accepted again
  -- as many productions, and one by one the same events as kept, and calls of the same names and parameters
  pub same : contents text [] again ≡ contents first second t
  pub canonical : canonical_text text [] again ≡ text

pub record RoundTrip : Type 0 where
  -- "An accepted table is one that an accepted call gave, with its texts unchanged."
  pub texts : (t : Table) → Accepted t → (first : List ℕ) × (second : List ℕ) × CameFrom t first second
  pub accepted : (t : Table) (first second : List ℕ) → CameFrom t first second → Accepted t
  -- where it fits the length limit, reads back to the same productions
  pub reads :
      (t : Table) (first second : List ℕ) → CameFrom t first second → length (canonical_text first second t) ≤ text_limit
      → ReadsBack first second t (canonical_text first second t)
  -- where it does not, compiling gives 2
  pub long :
      (t : Table) (first second : List ℕ) → text_limit < length (canonical_text first second t)
      → compiled (canonical_text first second t) ≡ refused long_text 0
