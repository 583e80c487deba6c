-- How long the names of Meta, Alt, Hyper and Super are, by a computed test.
use Prim.Native.Nat.{ℕ, ◌≤◌, ◌<◌}
use mathlib.Core.Path.{◌≡◌, refl}
use mathlib.Core.Bool.{true}
use lib.Dec.{leb}
use lib.ListN.{length}
use borrow.Author.Tests.{leb-true}
use Rattle.model.specs.Names.{modifier_entries}
use Rattle.model.specs.Canonical.{long_name}
use Rattle.modifiers.proofs.Below.{every, every_at}

short_names : every 4 (λ n. leb (length (long_name n)) 5) ≡ true
unfolding every long_name modifier_entries
short_names = refl

pub short_name : (n : ℕ) → n < 4 → length (long_name n) ≤ 5
short_name n h = leb-true (length (long_name n)) 5 (every_at 4 (λ n. leb (length (long_name n)) 5) short_names n h)
