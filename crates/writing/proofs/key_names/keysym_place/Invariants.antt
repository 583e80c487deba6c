-- `writing::key_names::keysym_place` meets its contract. The loop's invariant: what is left of the list gives the place. Assumes nothing.
use Prim.Native.Nat.{◌-◌, ◌≤◌}
use mathlib.Core.Path.{◌≡◌}
use lib.ListN.{drop}
use Rattle.model.specs.Lists.{earliest}
use Rattle.model.specs.Details.{keysym_entries}
use Rattle.model.specs.Canonical.{is_value}
use Rattle.names.specs.Places.{buttons_at}
use Rattle.names.specs.Table.{meanings_in}
use Rattle.writing.specs.KeyNames.{place_or_past, keysym_place}
use Rattle.writing.proofs.key_names.keysym_place.Given as goal

abbrev pub invariant-loop-i : goal.invariant-loop-i
invariant-loop-i l =
    (l.i ≤ buttons_at) × (keysym_place l.v ≡ place_or_past (earliest (is_value l.v) l.i (drop l.i (meanings_in keysym_entries))))

abbrev pub decreases-loop-i : goal.decreases-loop-i
decreases-loop-i l = buttons_at - l.i
