use Prim.Native.Nat.{◌+◌, ◌-◌}
use mathlib.Core.Path.{◌≡◌}
use lib.ListN.{length}
use Rattle.model.specs.Events.{keys_from}
use Rattle.event_scanner.specs.Spans.{events_in}
use Rattle.line_writer.specs.Puts.{put_written}
use Rattle.line_writer.proofs.EventWalk.{KeysLeft}
use Rattle.line_writer.proofs.events.write_keys.Given as goal

abbrev pub invariant-loop-mark : goal.invariant-loop-mark
invariant-loop-mark l =
    KeysLeft l.l (put_written l.initial.out l.first (events_in (keys_from (length l.l + 1) l.l l.at))) l.out l.k l.i × (length l.out ≡ length l.initial.out)

abbrev pub decreases-loop-mark : goal.decreases-loop-mark
decreases-loop-mark l = length l.l - l.i
