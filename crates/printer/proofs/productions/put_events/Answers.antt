-- `printer::productions::put_events` meets its contract.
use Rattle.std.proofs.Common.{rules, arith, ◌≡◌, ◌+◌, ◌<◌, ◌≤◌, true, ap}
use Rattle.model.specs.Canonical.{joined_by, event_text}
use Rattle.tables.specs.Reading.{event_entry}
use Rattle.tables.specs.Fitting.{event_in_range}
use Rattle.table_check.proofs.WholeFacts.{facts_of_whole, event_range}
use Rattle.writing.proofs.Laws.{put_as}
use Rattle.writing.proofs.Joined.{run_each}
use Rattle.printer.proofs.productions.put_events.Goals as goal

pub put_joined-requires : goal.put_joined-requires
put_joined-requires c =
    let l = c.args.l.now in
    let from = c.args.from in
    let f = facts_of_whole l c.requires.1 in
    record {
      text = λ k. event_text (event_entry l (from + k));
      width = 20000;
      each = record { puts = λ o q i k r h p. search rules };
      callable = λ o i k h p.
          let b : from + k < 256 = omega arith in
          let d : i ≤ 8500000000 = omega arith in
          let e : event_in_range (event_entry l (from + k)) ≡ true = event_range l (λ m. omega (arith, c.type_inv.l m)) c.requires.1 (from + k) (omega arith) in
          search rules;
      room = omega arith;
    }

pub returns : goal.returns
returns c =
    let l = c.args.l.now in
    let from = c.args.from in
    let f = facts_of_whole l c.requires.1 in
    let p = c.put_joined.ensures (λ k. event_text (event_entry l (from + k))) 20000 (record { puts = λ o q i k r h p. search rules }) in
    (put_as (ap (joined_by _) (run_each event_text (event_entry l) from c.args.n)) p.0, omega (arith, p.1))
