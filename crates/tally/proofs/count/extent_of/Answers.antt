-- `tally::count::extent_of` meets its contract.
use native.Mathlib.Omega.{arith}
use Prim.Native.Nat.{◌+◌}
use Rattle.tally.proofs.WholeFacts as facts
use Rattle.tally.specs.Counting.{extent_at}
use Rattle.tally.proofs.count.extent_of.Goals as goal

pub calls_from-call-requires : goal.calls_from-call-requires
calls_from-call-requires c =
    let b = facts.bounds c.args.l.now c.requires.0 in
    let v = facts.calls_in c.args.l.now c.requires.0 c.args.p c.requires.1 in
    (b.long, omega arith)

pub production_calls-calls-requires : goal.production_calls-calls-requires
production_calls-calls-requires c =
    let b = facts.bounds c.args.l.now c.requires.0 in
    let v = facts.calls_in c.args.l.now c.requires.0 c.args.p c.requires.1 in
    (b.long, omega arith)

pub parameters_from-parameter-requires : goal.parameters_from-parameter-requires
parameters_from-parameter-requires c =
    let b = facts.bounds c.args.l.now c.requires.0 in
    let v = facts.calls_in c.args.l.now c.requires.0 c.args.p c.requires.1 in
    (b.long, omega (arith, c.calls_from-call.ensures))

pub overflow_add-call : goal.overflow_add-call
overflow_add-call c =
    let b = facts.bounds c.args.l.now c.requires.0 in
    let v = facts.calls_in c.args.l.now c.requires.0 c.args.p c.requires.1 in
    omega (arith, c.calls_from-call.ensures, c.production_calls-calls.ensures)

pub parameters_from-end-requires : goal.parameters_from-end-requires
parameters_from-end-requires c =
    let b = facts.bounds c.args.l.now c.requires.0 in
    let v = facts.calls_in c.args.l.now c.requires.0 c.args.p c.requires.1 in
    (b.long, omega (arith, c.calls_from-call.ensures, c.production_calls-calls.ensures))

pub events_from-requires : goal.events_from-requires
events_from-requires c =
    let b = facts.bounds c.args.l.now c.requires.0 in
    let v = facts.calls_in c.args.l.now c.requires.0 c.args.p c.requires.1 in
    (b.long, omega arith)

pub production_events-requires : goal.production_events-requires
production_events-requires c =
    let b = facts.bounds c.args.l.now c.requires.0 in
    let v = facts.calls_in c.args.l.now c.requires.0 c.args.p c.requires.1 in
    (b.long, omega arith)

pub overflow_sub-result : goal.overflow_sub-result
overflow_sub-result c =
    let e = facts.from_mono c.args.l.now c.calls_from-call.result (c.calls_from-call.result + c.production_calls-calls.result) (omega arith) in
    omega (arith, c.parameters_from-parameter.ensures, c.parameters_from-end.ensures)

pub returns : goal.returns
unfolding extent_at
returns c = rw (c.production_events.ensures, c.events_from.ensures, c.parameters_from-end.ensures, c.parameters_from-parameter.ensures, c.production_calls-calls.ensures, c.calls_from-call.ensures)
