use native.Mathlib.Omega.{arith}
use Prim.Native.Nat.{◌+◌}
use mathlib.Core.Path.{sym, ◌∙◌}
use lib.ListN.{length}
use Rattle.model.specs.Events.{keys_from}
use Rattle.event_scanner.specs.Spans.{events_in}
use Rattle.line_writer.proofs.EventHere.{put_all_lem, put_past, fit_read}
use Rattle.line_writer.proofs.events.write_sequence.Goals as goal

pub write_keys-requires : goal.write_keys-requires
write_keys-requires c =
    let l = c.args.l.now in
    (c.requires.0.0, c.requires.0.1, fit_read (keys_from (length l + 1) l c.args.at) c.args.first c.requires.1.0 (omega (arith, c.requires.1.1, c.if-first-count-le256.true)))

pub returns-then-first-count-le256 : goal.returns-then-first-count-le256
returns-then-first-count-le256 c =
    let l = c.args.l.now in
    c.write_keys.ensures
    ∙ sym (put_all_lem c.args.out.now c.args.first (events_in (keys_from (length l + 1) l c.args.at)) (omega (arith, c.requires.1.1, c.if-first-count-le256.true)))

pub returns-else-first-count-le256 : goal.returns-else-first-count-le256
returns-else-first-count-le256 c =
    let l = c.args.l.now in
    put_past c.args.out.now c.args.first (events_in (keys_from (length l + 1) l c.args.at)) (omega (arith, c.requires.1.1, c.if-first-count-le256.false))
