-- The places of the names that the writer uses hold those names, by computed tests, and are places of the table. Assumes nothing.
use Prim.Native.Nat.{ℕ, ◌+◌, ◌-◌, ◌≤◌, ◌<◌}
use native.Mathlib.Omega.{arith}
use native.Mathlib.Nat.{zero-add}
use mathlib.Core.Path.{◌≡◌, refl}
use mathlib.Core.Bool.{true}
use mathlib.Core.List.{List, []}
use lib.Dec.{ltb}
use borrow.Author.Tests.{ltb-true}
use Rattle.words.specs.Runs.{every, run}
use Rattle.words.proofs.RunLaws.{every_at, run_at}
use Rattle.model.specs.Lists.{bytes}
use Rattle.model.specs.Names.{name_of, modifier_entries, type_entries, protocol_entries, synonym_entries, abbreviation_entries}
use Rattle.model.specs.Details.{keysym_entries, button_entries, motion_entries, mode_entries, request_entries}
use Rattle.model.specs.Canonical.{bit_name, long_name, is_code_of}
use Rattle.names.specs.Places.{button_motion_at, name_total}
use Rattle.names.specs.Groups.{modifier_groups, modifier_table, type_groups, type_table}
use Rattle.names.specs.Table.{all_names, other_names, name_row, directive_entries}
use Rattle.names.specs.Writing.{type_place, bit_place, long_place}

abbrev type_name : ℕ → List ℕ
type_name code = name_of (is_code_of code) [] protocol_entries

type_names : run (λ code. name_row (type_place code)) 2 33 ≡ run type_name 2 33
unfolding run type_place name_row all_names other_names directive_entries keysym_entries button_entries motion_entries mode_entries request_entries modifier_table modifier_groups modifier_entries type_table type_groups type_entries protocol_entries synonym_entries abbreviation_entries
type_names = refl

-- the place of a code holds the protocol's name of the code
pub type_name_lem : (code : ℕ) → 2 ≤ code → code ≤ 34 → name_row (type_place code) ≡ name_of (is_code_of code) [] protocol_entries
type_name_lem code h k =
    let e : 2 + (code - 2) ≡ code = omega arith in
    rw e at (run_at (λ code. name_row (type_place code)) type_name 2 33 [] type_names (code - 2) (omega arith))

pub button_motion : name_row button_motion_at ≡ bytes "BtnMotion"
unfolding name_row all_names other_names directive_entries keysym_entries button_entries motion_entries mode_entries request_entries modifier_table modifier_groups modifier_entries type_table type_groups type_entries protocol_entries synonym_entries abbreviation_entries
button_motion = refl

bit_names : run (λ k. name_row (bit_place k)) 0 13 ≡ run bit_name 0 13
unfolding run bit_place bit_name name_row all_names other_names directive_entries keysym_entries button_entries motion_entries mode_entries request_entries modifier_table modifier_groups modifier_entries
bit_names = refl

pub bit_name_lem : (k : ℕ) → k < 13 → name_row (bit_place k) ≡ bit_name k
bit_name_lem k h = rw zero-add at (run_at (λ k. name_row (bit_place k)) bit_name 0 13 [] bit_names k h)

long_names : run (λ n. name_row (long_place n)) 0 4 ≡ run long_name 0 4
unfolding run long_place long_name name_row all_names other_names directive_entries keysym_entries button_entries motion_entries mode_entries request_entries modifier_table modifier_groups modifier_entries
long_names = refl

pub long_name_lem : (n : ℕ) → n < 4 → name_row (long_place n) ≡ long_name n
long_name_lem n h = rw zero-add at (run_at (λ n. name_row (long_place n)) long_name 0 4 [] long_names n h)

-- ---- Each is a place of the table

type_below : every (λ code. ltb (type_place code) name_total) 2 33 ≡ true
unfolding every type_place type_table type_groups type_entries protocol_entries synonym_entries abbreviation_entries
type_below = refl

pub type_place_lem : (code : ℕ) → 2 ≤ code → code ≤ 34 → type_place code < name_total
type_place_lem code h k =
    let e : 2 + (code - 2) ≡ code = omega arith in
    ltb-true (type_place code) name_total
    (rw e at (every_at (λ code. ltb (type_place code) name_total) 2 33 (code - 2) type_below (omega arith)))

bit_below : every (λ k. ltb (bit_place k) name_total) 0 13 ≡ true
unfolding every bit_place bit_name modifier_table modifier_groups modifier_entries
bit_below = refl

pub bit_place_lem : (k : ℕ) → k < 13 → bit_place k < name_total
bit_place_lem k h = ltb-true (bit_place k) name_total (rw zero-add at (every_at (λ k. ltb (bit_place k) name_total) 0 13 k bit_below h))

long_below : every (λ n. ltb (long_place n) name_total) 0 4 ≡ true
unfolding every long_place long_name modifier_table modifier_groups modifier_entries
long_below = refl

pub long_place_lem : (n : ℕ) → n < 4 → long_place n < name_total
long_place_lem n h = ltb-true (long_place n) name_total (rw zero-add at (every_at (λ n. ltb (long_place n) name_total) 0 4 n long_below h))
