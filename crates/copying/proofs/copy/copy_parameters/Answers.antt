-- `copying::copy::copy_parameters` meets its contract. The invariant: putting what is left gives the whole.
use native.Mathlib.Omega.{arith}
use Prim.Native.Nat.{◌+◌}
use mathlib.Core.Path.{sym, ◌∙◌}
use Rattle.tables.specs.Reading.{parameter_entry}
use Rattle.tally.proofs.WholeFacts as facts
use Rattle.tables.specs.Writing.{put_parameter}
use Rattle.copying.proofs.Puts.{puts_next, puts_done}
use Rattle.copying.proofs.copy.copy_parameters.Goals as goal

pub overflow_add-from : goal.overflow_add-from
overflow_add-from c = let b = facts.bounds c.args.l.now c.requires.0.0 in omega arith

pub parameter_span-s-requires : goal.parameter_span-s-requires
parameter_span-s-requires c = let b = facts.bounds c.args.l.now c.requires.0.0 in (b.long, omega arith)

pub put_parameter-requires : goal.put_parameter-requires
put_parameter-requires c = let b = facts.bounds c.args.l.now c.requires.0.0 in
    let s = facts.parameter_short c.args.l.now c.requires.0.0 (c.args.from + c.loop-i.i) (omega arith) in (
      (omega (arith, c.loop-i.auto.out), omega arith),
      (rw c.parameter_span-s.ensures (omega arith), rw c.parameter_span-s.ensures (omega arith)),
    )

pub loop-i-preserved : goal.loop-i-preserved
loop-i-preserved c =
    c.loop-i.invariant
    ∙ puts_next put_parameter (parameter_entry c.args.l.now) c.args.from c.args.at c.args.n c.loop-i.out c.loop-i.i c.loop-i-test.true
    ∙ rw (c.put_parameter.ensures, c.parameter_span-s.ensures)

pub returns : goal.returns
returns c = sym (c.loop-i.invariant ∙ puts_done put_parameter (parameter_entry c.args.l.now) c.args.from c.args.at c.args.n c.loop-i.out c.loop-i.i (omega arith))
