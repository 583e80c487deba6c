-- How long the names of the modifier bits are, by a computed test, and the order of writing.
use Prim.Native.Nat.{ℕ, ◌≤◌, ◌<◌}
use mathlib.Core.Path.{◌≡◌, refl}
use mathlib.Core.Bool.{true}
use lib.Dec.{leb}
use lib.ListN.{length}
use borrow.Author.Tests.{leb-true}
use Rattle.words.specs.Runs.{run}
use Rattle.model.specs.Names.{modifier_entries}
use Rattle.model.specs.Canonical.{bit_name, writing_order}
use Rattle.modifiers.proofs.Below.{every, every_at}
use Rattle.modifier_text.specs.Places.{order_at}

pub order_run : writing_order ≡ run order_at 0 13
unfolding run order_at
order_run = refl

short_names : every 13 (λ k. leb (length (bit_name k)) 7) ≡ true
unfolding every bit_name modifier_entries
short_names = refl

pub short_name : (k : ℕ) → k < 13 → length (bit_name k) ≤ 7
short_name k h = leb-true (length (bit_name k)) 7 (every_at 13 (λ k. leb (length (bit_name k)) 7) short_names k h)
