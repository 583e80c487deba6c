use Prim.Native.Nat.{◌+◌, ◌-◌, ◌<◌, ◌≤◌, ℕ}
use Rattle.model.specs.Events.{keys_from}
use Rattle.event_scanner.proofs.KeyCounts.{keyed_from}
use Rattle.event_scanner.specs.Spans.{keyed}
use lib.ListN.{length}
use mathlib.Core.Path.{◌≡◌}
use Rattle.event_scanner.proofs.keys.read_keys.Given as goal

-- what is left from i on gives the whole; f is fuel that suffices there
abbrev pub invariant-loop-next : goal.invariant-loop-next
invariant-loop-next l = (f : ℕ) × (length l.l < f + l.i) × (l.i ≤ length l.l) × (l.count ≤ l.i) × (keyed (keys_from (length l.l + 1) l.l l.at) ≡ keyed_from l.count (keys_from f l.l l.i))

abbrev pub decreases-loop-next : goal.decreases-loop-next
decreases-loop-next l = length l.l - l.i
