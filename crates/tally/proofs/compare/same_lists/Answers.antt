-- `tally::compare::same_lists` meets its contract.
use borrow.Author.Rules.{rules}
use borrow.Author.Tests.{ne_eqb}
use native.Mathlib.Omega.{arith}
use Prim.Native.Nat.{ℕ, ◌+◌}
use mathlib.Core.Path.{refl, sym, ap, ◌∙◌}
use Rattle.std.proofs.lemmas.Iterator.{YieldsList-from_range}
use Rattle.std.proofs.lemmas.Iterator.Search.{all_from_yields_List}
use Rattle.model.specs.Merging.{same_event, same_events}
use Rattle.words.specs.Runs.{run}
use Rattle.words.proofs.RunLaws.{length_run}
use Rattle.tables.specs.Reading.{event_entry}
use Rattle.tally.proofs.Equality.{equal_is}
use Rattle.tally.proofs.Steps.{same_all, other_length}
use Rattle.tally.proofs.compare.same_lists.Goals as goal

pub returns-then-n-m : goal.returns-then-n-m
returns-then-n-m c =
    let f = event_entry c.args.l.now in
    let g = event_entry c.args.other.now in
    let a = c.args.a in
    let b = c.args.b in
    all_from_yields_List (λ (i : ℕ). same_event (f (a + i)) (g (b + i))) _ _ c.all.result c.all.ensures.ran
    (YieldsList-from_range 0 c.args.n c.args.n refl (omega arith)) (λ x r q k. search (rules, equal_is))
    ∙ same_all f g a b c.args.n
    ∙ ap (λ (k : ℕ). same_events (run f a c.args.n) (run g b k)) c.if-n-m.true

pub returns-else-n-m : goal.returns-else-n-m
returns-else-n-m c =
    let f = event_entry c.args.l.now in
    let g = event_entry c.args.other.now in
    let n = c.args.n in
    let m = c.args.m in
    ne_eqb n m c.if-n-m.false
    ∙ sym (other_length (run f c.args.a n) (run g c.args.b m) (λ q. c.if-n-m.false (sym (length_run f c.args.a n) ∙ q ∙ length_run g c.args.b m)))
