-- `tally::count::expanded_of` meets its contract. The invariant: the sum and what the events that are left stand for make up the whole.
use native.Mathlib.Omega.{arith}
use Prim.Native.Nat.{◌+◌, ◌-◌}
use mathlib.Core.Path.{◌≡◌, refl, sym, ap, ◌∙◌}
use mathlib.Core.List.{[]}
use lib.ListN.{length, length-append}
use Rattle.words.specs.Runs.{run}
use Rattle.tables.specs.Reading.{event_entry}
use Rattle.tally.proofs.Steps.{run_done, expanded_next}
use Rattle.model.specs.Counts.{elements_of, expanded}
use Rattle.counts.specs.Elements.{element_count}
use Rattle.tally.proofs.ElementSizes.{element_size, count_small, range_at}
use Rattle.tally.proofs.count.expanded_of.Goals as goal

none_expanded : length (expanded []) ≡ 0
unfolding expanded
none_expanded = refl

pub element_count-s-requires : goal.element_count-s-requires
element_count-s-requires c = rw c.event_at-e.ensures (range_at (event_entry c.args.l.now) c.args.from c.args.n c.loop-i.i c.requires.2 c.loop-i-test.true)

pub overflow_add-s : goal.overflow_add-s
overflow_add-s c =
    let f = event_entry c.args.l.now in
    let from = c.args.from in
    let n = c.args.n in
    let i = c.loop-i.i in
    let e : c.element_count-s.result ≡ element_count (f (from + i)).code (f (from + i)).count = c.element_count-s.ensures ∙ rw c.event_at-e.ensures in
    let k = range_at f from n i c.requires.2 c.loop-i-test.true in
    let s = count_small (f (from + i)).code (f (from + i)).count k in
    omega arith

pub loop-i-preserved : goal.loop-i-preserved
loop-i-preserved c =
    let f = event_entry c.args.l.now in
    let from = c.args.from in
    let n = c.args.n in
    let i = c.loop-i.i in
    let e : c.element_count-s.result ≡ element_count (f (from + i)).code (f (from + i)).count = c.element_count-s.ensures ∙ rw c.event_at-e.ensures in
    let k = range_at f from n i c.requires.2 c.loop-i-test.true in
    let s = count_small (f (from + i)).code (f (from + i)).count k in
    let r = f (from + i) in
    let m = ap length (expanded_next f from n i c.loop-i-test.true) in
    let a = length-append (elements_of (f (from + i))) (expanded (run f (from + (i + 1)) (n - (i + 1)))) in
    let z = element_size (f (from + i)) in
    (omega arith, omega (arith, c.loop-i.invariant.1))

pub returns : goal.returns
returns c =
    let d : run (event_entry c.args.l.now) (c.args.from + c.loop-i.i) (c.args.n - c.loop-i.i) ≡ [] = run_done (event_entry c.args.l.now) (c.args.from + c.loop-i.i) c.args.n c.loop-i.i (omega arith) in
    sym (c.loop-i.invariant.1 ∙ rw (d, none_expanded) (omega arith))
