-- `tally::compare::is_among` meets its contract. The invariant: the productions that are left decide, and `b` is the place of the next one's first event.
use native.Mathlib.Omega.{arith}
use Prim.Native.Nat.{ℕ, ◌+◌, ◌-◌}
use mathlib.Core.Path.{◌≡◌, refl, sym, ◌∙◌}
use mathlib.Core.Bool.{true, false, ◌||◌}
use mathlib.Core.List.{List}
use Rattle.model.specs.Merging.{same_events, is_among}
use Rattle.words.specs.Runs.{run, total}
use Rattle.tables.specs.Reading.{production_entry, production_events, first_event}
use Rattle.tally.proofs.Steps.{among_next, among_done, or_yes, or_no}
use Rattle.tally.proofs.WholeFacts as facts
use Rattle.tally.specs.Kept.{first_of}
use Rattle.words.proofs.RunLaws.{total_more}
use Rattle.tally.proofs.compare.is_among.Goals as goal

from_more : (o : List ℕ) (q b m : ℕ) → b ≡ first_event o q → m ≡ production_events o q → b + m ≡ first_event o (q + 1)
unfolding first_event production_events
from_more o q b m e f = rw (total_more, e, f)

pub events_from-a-requires : goal.events_from-a-requires
events_from-a-requires c = let b = facts.bounds c.args.l.now c.requires.0.0 in (b.long, omega arith)

pub production_events-k-requires : goal.production_events-k-requires
production_events-k-requires c = let b = facts.bounds c.args.l.now c.requires.0.0 in (b.long, omega arith)

pub loop-q-init : goal.loop-q-init
unfolding first_of first_event total
loop-q-init c = (refl, let e : c.args.n - 0 ≡ c.args.n = omega arith in rw e)

pub production_events-m-requires : goal.production_events-m-requires
production_events-m-requires c = let b = facts.bounds c.args.other.now c.requires.1.0 in (b.long, omega arith)

pub same_lists-requires : goal.same_lists-requires
same_lists-requires c =
    let g = facts.events_in c.args.l.now c.requires.0.0 c.args.p c.requires.0.1 in
    let h = facts.events_in c.args.other.now c.requires.1.0 c.loop-q.q (omega arith) in
    ((facts.long c.args.l.now c.requires.0.0, omega arith), (facts.long c.args.other.now c.requires.1.0, omega arith))

pub returns-then-same_lists : goal.returns-then-same_lists
unfolding production_entry
returns-then-same_lists c =
    let l = c.args.l.now in
    let o = c.args.other.now in
    let p = c.args.p in
    let n = c.args.n in
    let q = c.loop-q.q in
    let P = production_entry l p in
    let e : same_events P.events (production_entry o q).events ≡ true = rw (← c.events_from-a.ensures, ← c.production_events-k.ensures, ← c.loop-q.invariant.0, ← c.production_events-m.ensures, ← c.same_lists.ensures) c.if-same_lists.true in
    let m : is_among (first_of o n) P ≡ (same_events P.events (production_entry o q).events || is_among (run (production_entry o) (q + 1) (n - (q + 1))) P) = c.loop-q.invariant.1 ∙ among_next (production_entry o) P n q c.loop-q-test.true in
    sym (m ∙ or_yes (same_events P.events (production_entry o q).events) (is_among (run (production_entry o) (q + 1) (n - (q + 1))) P) e)

pub overflow_add-b : goal.overflow_add-b
overflow_add-b c = let h = facts.events_in c.args.other.now c.requires.1.0 c.loop-q.q (omega arith) in omega arith

pub loop-q-preserved : goal.loop-q-preserved
unfolding production_entry
loop-q-preserved c =
    let l = c.args.l.now in
    let o = c.args.other.now in
    let p = c.args.p in
    let n = c.args.n in
    let q = c.loop-q.q in
    let P = production_entry l p in
    let e : same_events P.events (production_entry o q).events ≡ false = rw (← c.events_from-a.ensures, ← c.production_events-k.ensures, ← c.loop-q.invariant.0, ← c.production_events-m.ensures, ← c.same_lists.ensures) c.if-same_lists.false in
    let m : is_among (first_of o n) P ≡ (same_events P.events (production_entry o q).events || is_among (run (production_entry o) (q + 1) (n - (q + 1))) P) = c.loop-q.invariant.1 ∙ among_next (production_entry o) P n q c.loop-q-test.true in
    (from_more o q c.loop-q.b c.production_events-m.result c.loop-q.invariant.0 c.production_events-m.ensures, m ∙ or_no (same_events P.events (production_entry o q).events) (is_among (run (production_entry o) (q + 1) (n - (q + 1))) P) e)

pub returns : goal.returns
returns c = sym (c.loop-q.invariant.1 ∙ among_done (production_entry c.args.other.now) (production_entry c.args.l.now c.args.p) c.args.n c.loop-q.q (omega arith))
