-- `sequence_check::productions_ok` meets its contract.
use Rattle.std.proofs.Common.{arith, rules, ◌+◌, ◌≤◌}
use Rattle.words.specs.Words.{word_at}
use Rattle.words.specs.Runs.{total}
use Rattle.words.proofs.RunLaws.{every_part, total_part}
use Rattle.tables.specs.Layout.{production_events_at}
use Rattle.event_check.specs.Events.{event_ok}
use Rattle.sequence_check.proofs.productions_ok.Goals as goal

-- the production's events are among all
pub sizes-requires : goal.sizes-requires
sizes-requires c =
    let all = total (word_at c.args.l.now) production_events_at c.args.n in
    let w : c.loop-p.from + c.from-events.result ≤ all =
    omega (arith, total_part (word_at c.args.l.now) production_events_at c.loop-p.p c.args.n c.loop-p-test.true, c.loop-p.invariant.from, c.from-events.ensures, c.word_at.ensures) in
    (search rules, omega arith, every_part (event_ok c.args.l.now) c.loop-p.from c.from-events.result all c.requires.3 w)
