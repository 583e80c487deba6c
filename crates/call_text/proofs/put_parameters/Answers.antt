-- `call_text::put_parameters` meets its contract.
use Rattle.std.proofs.Common.{rules, arith, ◌+◌, ◌<◌, ◌≤◌, ap}
use Rattle.model.specs.Canonical.{joined_by}
use Rattle.tables.specs.Reading.{parameter_entry}
use Rattle.table_check.proofs.WholeFacts.{facts_of_whole}
use Rattle.writing.proofs.Laws.{put_as}
use Rattle.call_text.proofs.LentFacts.{quoted, parameters_quoted, parameter_within}
use Rattle.call_text.proofs.put_parameters.Goals as goal

pub put_joined-requires : goal.put_joined-requires
put_joined-requires c =
    let a = c.args in
    let t = a.lent.now in
    let from = c.parameters_from-from.result in
    let f = facts_of_whole t.table.now t.is_whole in
    let n = f.few_parameters a.i c.requires.1 in
    let m = f.parameters_within a.i c.requires.1 in
    record {
      text = λ k. quoted c.text-text.result.now (parameter_entry t.table.now (from + k));
      width = 8194;
      each = record { puts = λ o q i k r h p. search rules };
      callable = λ o i k h p.
          let w = rw (← c.parameters_from-from.ensures, ← c.call_mark.ensures, ← c.text-text.ensures) at (parameter_within t a.i k c.requires.1 (omega arith)) in
          let b : from + k < 256 = omega arith in
          let d : i ≤ 8000000000 = omega arith in
          search rules;
      room = omega arith;
    }

pub returns : goal.returns
returns c =
    let a = c.args in
    let t = a.lent.now in
    let from = c.parameters_from-from in
    let f = facts_of_whole t.table.now t.is_whole in
    let p = c.put_joined.ensures (λ k. quoted c.text-text.result.now (parameter_entry t.table.now (from.result + k))) 8194 (record { puts = λ o q i k r h p. search rules }) in
    let e = parameters_quoted t a.i from.result c.call_parameters-n.result c.call_mark.result c.text-text.result.now c.call_mark.ensures c.text-text.ensures from.ensures c.call_parameters-n.ensures in
    (put_as (ap (joined_by _) e) p.0, omega (arith, p.1, f.few_parameters a.i c.requires.1))
