-- The first name of each keysym, by computed tests over all Latin-1 keysyms; a larger one has no name here. Assumes nothing.
use Prim.Native.Nat.{ℕ, suc, ◌+◌, ◌-◌, ◌≤◌, ◌<◌}
use native.Mathlib.Omega.{arith}
use mathlib.Core.Path.{◌≡◌, refl}
use mathlib.Core.Bool.{Bool, true, false}
use mathlib.Core.List.{List, [], ◌∷◌}
use Rattle.std.specs.Prelude.{None}
use lib.Dec.{ltb}
use lib.ListN.{get_or}
use borrow.Author.Tests.{ltb-true, ne_eqb}
use Rattle.words.specs.Runs.{run}
use Rattle.words.proofs.Bools.{and_left, and_right}
use Rattle.words.proofs.RunLaws.{run_at}
use Rattle.model.specs.Lists.{all, earliest}
use Rattle.model.specs.Latin1.{latin1_entries}
use Rattle.model.specs.Canonical.{is_value}
use Rattle.model.specs.declared.names.DetailRead.{DetailRead}
use Rattle.names.specs.Table.{meanings_in}
use Rattle.keysyms.specs.Table.{first_place, first_places}
use Rattle.keysyms.specs.declared.search.NamePlace.{NamePlace}

-- ---- Keysyms of one byte

-- what a test over a run of keysyms says of each
at_each : (g : ℕ → NamePlace) (s n : ℕ) → run first_place s n ≡ run g s n → (v : ℕ) → s ≤ v → v < s + n → first_place v ≡ g v
at_each g s n e v h k =
    let q : s + (v - s) ≡ v = omega arith in
    rw q at (run_at first_place g s n NamePlace.Nowhere e (v - s) (omega arith))

abbrev nowhere : ℕ → NamePlace
nowhere v = NamePlace.Nowhere

abbrev place_at : ℕ → ℕ → NamePlace
place_at less v = NamePlace.At (get_or first_places (v - less) 0)

low_test : run first_place 0 0x20 ≡ run nowhere 0 0x20
unfolding run first_place latin1_entries
low_test = refl

first_test : run first_place 0x20 95 ≡ run (place_at 0x20) 0x20 95
unfolding run first_place first_places latin1_entries
first_test = refl

between_test : run first_place 0x7f 33 ≡ run nowhere 0x7f 33
unfolding run first_place latin1_entries
between_test = refl

second_test : run first_place 0xa0 96 ≡ run (place_at 65) 0xa0 96
unfolding run first_place first_places latin1_entries
second_test = refl

module _ (v : ℕ) where
  pub none_low : v < 0x20 → first_place v ≡ NamePlace.Nowhere
  none_low h = at_each nowhere 0 0x20 low_test v (omega arith) (omega arith)

  pub first_low : 0x20 ≤ v → v ≤ 0x7e → first_place v ≡ NamePlace.At (get_or first_places (v - 0x20) 0)
  first_low h k = at_each (place_at 0x20) 0x20 95 first_test v h (omega arith)

  pub none_between : 0x7f ≤ v → v < 0xa0 → first_place v ≡ NamePlace.Nowhere
  none_between h k = at_each nowhere 0x7f 33 between_test v h (omega arith)

  pub first_high : 0xa0 ≤ v → v ≤ 0xff → first_place v ≡ NamePlace.At (get_or first_places (v - 65) 0)
  first_high h k = at_each (place_at 65) 0xa0 96 second_test v h (omega arith)

-- ---- Larger ones

abbrev is_byte_value : DetailRead → Bool
is_byte_value (DetailRead.Value v) = ltb v 256
is_byte_value DetailRead.Unknown = true
is_byte_value DetailRead.TooLarge = true
is_byte_value DetailRead.NotBuilt = true

bytes_test : all is_byte_value (meanings_in latin1_entries) ≡ true
unfolding latin1_entries
bytes_test = refl

large_other : (v : ℕ) → 0x100 ≤ v → (r : DetailRead) → is_byte_value r ≡ true → is_value v r ≡ false
large_other v h (DetailRead.Value w) e = let k = ltb-true w 256 e in ne_eqb w v (λ q. omega arith)
large_other v h DetailRead.Unknown e = refl
large_other v h DetailRead.TooLarge e = refl
large_other v h DetailRead.NotBuilt e = refl

none_earliest : (v i : ℕ) → 0x100 ≤ v → (rs : List DetailRead) → all is_byte_value rs ≡ true → earliest (is_value v) i rs ≡ None
none_earliest v i h [] e = refl
none_earliest v i h (r ∷ rs) e =
    rw (large_other v h r (and_left (is_byte_value r) (all is_byte_value rs) e))
    (none_earliest v (suc i) h rs (and_right (is_byte_value r) (all is_byte_value rs) e))

pub none_high : (v : ℕ) → 0x100 ≤ v → first_place v ≡ NamePlace.Nowhere
unfolding first_place
none_high v h = rw (none_earliest v 0 h (meanings_in latin1_entries) bytes_test)
