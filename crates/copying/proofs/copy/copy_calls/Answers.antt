-- `copying::copy::copy_calls` meets its contract. The invariant: putting what is left gives the whole.
use native.Mathlib.Omega.{arith}
use Prim.Native.Nat.{◌+◌}
use mathlib.Core.Path.{sym, ◌∙◌}
use Rattle.tables.specs.Reading.{call_entry, parameter_entry, first_parameter, call_parameters}
use Rattle.tally.proofs.WholeFacts as facts
use Rattle.copying.specs.Copying.{put_call_in}
use Rattle.copying.proofs.Puts.{puts_next, puts_done}
use Rattle.words.proofs.RunLaws.{length_run}
use Rattle.copying.proofs.copy.copy_calls.Goals as goal

pub overflow_add-from : goal.overflow_add-from
overflow_add-from c = let b = facts.bounds c.args.l.now c.requires.0.0 in omega arith

pub call_name-name-requires : goal.call_name-name-requires
call_name-name-requires c = let b = facts.bounds c.args.l.now c.requires.0.0 in (b.long, omega arith)

pub overflow_add-from-in-loop-i : goal.overflow_add-from-in-loop-i
overflow_add-from-in-loop-i c = let b = facts.bounds c.args.l.now c.requires.0.0 in omega arith

pub call_parameters-parameters-requires : goal.call_parameters-parameters-requires
call_parameters-parameters-requires c = let b = facts.bounds c.args.l.now c.requires.0.0 in (b.long, omega arith)

pub put_call-requires : goal.put_call-requires
put_call-requires c = let b = facts.bounds c.args.l.now c.requires.0.0 in
    let s = facts.name_short c.args.l.now c.requires.0.0 (c.args.from + c.loop-i.i) (omega arith) in
    let t = facts.parameters_short c.args.l.now c.requires.0.0 (c.args.from + c.loop-i.i) (omega arith) in (
      (omega (arith, c.loop-i.auto.out), omega arith),
      (rw c.call_name-name.ensures (omega arith), rw c.call_name-name.ensures (omega arith), rw c.call_parameters-parameters.ensures (omega arith)),
    )

pub loop-i-preserved : goal.loop-i-preserved
unfolding call_entry
loop-i-preserved c =
    c.loop-i.invariant
    ∙ puts_next (put_call_in c.args.second) (call_entry c.args.l.now) c.args.from c.args.at c.args.n c.loop-i.out c.loop-i.i c.loop-i-test.true
    ∙ rw (c.put_call.ensures, c.call_name-name.ensures, c.call_parameters-parameters.ensures, length_run (parameter_entry c.args.l.now) (first_parameter c.args.l.now (c.args.from + c.loop-i.i)) (call_parameters c.args.l.now (c.args.from + c.loop-i.i)))

pub returns : goal.returns
returns c = sym (c.loop-i.invariant ∙ puts_done (put_call_in c.args.second) (call_entry c.args.l.now) c.args.from c.args.at c.args.n c.loop-i.out c.loop-i.i (omega arith))
