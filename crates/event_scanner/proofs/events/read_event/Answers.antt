use Prim.Native.Nat.{ℕ}
use Rattle.model.specs.Events.{events_at}
use Rattle.event_scanner.proofs.Meaning.{spans_read}
use Rattle.scanner.proofs.Runs.{skip_in, test_in, test_is, test_not}
use Rattle.event_scanner.specs.Spans.{read_of, spans_at, spans_from}
use Rattle.event_scanner.specs.declared.events.EventRead.{EventRead}
use mathlib.Core.List.{List}
use mathlib.Core.Path.{◌∙◌, ◌≡◌, ap}
use native.Mathlib.Omega.{arith}
use Rattle.event_scanner.proofs.events.read_event.Goals as goal

-- the parts are those of the definition, and stand for the model's events
means : {r : EventRead} (l : List ℕ) (at : ℕ) → r ≡ spans_at l at → (r ≡ spans_at l at) × (read_of l r ≡ events_at l at)
means l at e = (e, ap (read_of l) e ∙ spans_read l at)

pub overflow_add-start : goal.overflow_add-start
overflow_add-start c = omega (arith, test_in c.args.l.now c.skip-start.result 34 (omega arith) c.byte_at.ensures c.if-byte_at-eq34.true)

pub read_key_sequence-requires : goal.read_key_sequence-requires
read_key_sequence-requires c = omega (arith, test_in c.args.l.now c.skip-start.result 34 (omega arith) c.byte_at.ensures c.if-byte_at-eq34.true)

pub returns-then-byte_at-eq34 : goal.returns-then-byte_at-eq34
unfolding spans_at spans_from
returns-then-byte_at-eq34 c = means c.args.l.now c.args.at (rw (c.read_key_sequence.ensures, ← c.skip-start.ensures, test_is c.byte_at.ensures c.if-byte_at-eq34.true))

pub read_plain-requires : goal.read_plain-requires
read_plain-requires c = omega (arith, skip_in c.args.l.now c.args.at c.requires)

pub returns : goal.returns
unfolding spans_at spans_from
returns c = means c.args.l.now c.args.at (rw (c.read_plain.ensures, ← c.skip-start.ensures, test_not c.byte_at.ensures c.if-byte_at-eq34.false))
