-- The bytes and starts of the table, by computed tests over all of it. Assumes nothing.
use Prim.Native.Nat.{ℕ, ◌+◌, ◌≤◌, ◌<◌}
use native.Mathlib.Nat.{zero-add}
use mathlib.Core.Path.{◌≡◌, refl}
use mathlib.Core.Bool.{true}
use mathlib.Core.List.{List, []}
use lib.Dec.{leb}
use lib.ListN.{length, get_or}
use borrow.Author.Tests.{leb-true}
use Rattle.words.specs.Runs.{every, run}
use Rattle.words.proofs.RunLaws.{every_at, run_at}
use Rattle.model.specs.Lists.{part}
use Rattle.model.specs.Latin1.{latin1_entries}
use Rattle.keysyms.specs.Table.{keysym_total, keysym_name, run_together, starts_from, name_bytes, name_starts}

-- where a name begins
abbrev pub start : ℕ → ℕ
start i = get_or name_starts i 0

pub bytes_total : length name_bytes ≡ 1100
unfolding name_bytes run_together latin1_entries
bytes_total = refl

pub starts_total : length name_starts ≡ 198
unfolding name_starts starts_from latin1_entries
starts_total = refl

abbrev part_at : ℕ → List ℕ
part_at i = part name_bytes (start i) (start (i + 1))

parts_test : run part_at 0 keysym_total ≡ run keysym_name 0 keysym_total
unfolding run keysym_name name_bytes run_together name_starts starts_from latin1_entries
parts_test = refl

-- the bytes between two starts are the name
pub name_part_lem : (i : ℕ) → i < keysym_total → part name_bytes (start i) (start (i + 1)) ≡ keysym_name i
name_part_lem i h = rw zero-add at (run_at part_at keysym_name 0 keysym_total [] parts_test i h)

starts_test : every (λ i. leb (start i) (start (i + 1))) 0 keysym_total ≡ true
unfolding every name_starts starts_from latin1_entries
starts_test = refl

ends_test : every (λ i. leb (start (i + 1)) 1100) 0 keysym_total ≡ true
unfolding every name_starts starts_from latin1_entries
ends_test = refl

pub start_end : (i : ℕ) → i < keysym_total → start i ≤ start (i + 1)
start_end i h = leb-true (start i) (start (i + 1)) (rw zero-add at (every_at (λ i. leb (start i) (start (i + 1))) 0 keysym_total i starts_test h))

pub end_within : (i : ℕ) → i < keysym_total → start (i + 1) ≤ 1100
end_within i h = leb-true (start (i + 1)) 1100 (rw zero-add at (every_at (λ i. leb (start (i + 1)) 1100) 0 keysym_total i ends_test h))
