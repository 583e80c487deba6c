-- `resolving::has_low_entry` meets its contract.
use mathlib.Core.Path.{◌≡◌}
use lib.ListN.{take}
use Rattle.std.specs.List.{list_any}
use Rattle.resolving.specs.Gathering.{is_low_entry}
use Rattle.resolving.proofs.has_low_entry.Given as goal

abbrev pub invariant-loop-c : goal.invariant-loop-c
invariant-loop-c l = l.low ≡ list_any is_low_entry (take l.c-index l.modifiers)
