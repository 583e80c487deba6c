-- `call_text::put_calls` meets its contract.
use Rattle.std.proofs.Common.{rules, arith, ℕ, List, ◌+◌, ◌<◌, ◌≤◌, ap}
use Rattle.model.specs.Canonical.{joined_by, call_text}
use Rattle.tables.specs.Reading.{call_entry, call_total}
use Rattle.table_check.proofs.WholeFacts.{facts_of_whole}
use Rattle.writing.proofs.Laws.{put_as}
use Rattle.writing.proofs.Joined.{run_each}
use Rattle.call_text.specs.declared.Lent.{Lent}
use Rattle.call_text.proofs.put_calls.Goals as goal

abbrev call_at : Lent → ℕ → ℕ → List ℕ
call_at t from k = call_text t.first.now t.second.now (call_entry t.table.now (from + k))

pub put_joined-requires : goal.put_joined-requires
put_joined-requires c =
    let t = c.args.lent.now in
    record {
      text = call_at t c.args.from;
      width = 74000;
      each = record { puts = λ o q i k r h p. search rules };
      callable = λ o i k h p.
          let f = facts_of_whole t.table.now t.is_whole in
          let b : c.args.from + k < call_total t.table.now = omega arith in
          let d : i ≤ 6000000000 = omega arith in
          let e : c.args.from + k < 18446744073709551616 = omega arith in
          search rules;
      room = omega arith;
    }

pub returns : goal.returns
returns c =
    let t = c.args.lent.now in
    let p = c.put_joined.ensures (call_at t c.args.from) 74000 (record { puts = λ o q i k r h p. search rules }) in
    (put_as (ap (joined_by _) (run_each (call_text t.first.now t.second.now) (call_entry t.table.now) c.args.from c.args.n)) p.0, omega (arith, p.1))
