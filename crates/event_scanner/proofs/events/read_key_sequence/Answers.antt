use Rattle.scanner.proofs.Runs.{test_is, test_not}
use Rattle.event_scanner.specs.Spans.{key_spans, keys_spans}
use mathlib.Core.Path.{◌∙◌, ap, sym}
use Rattle.event_scanner.proofs.events.read_key_sequence.Goals as goal

pub returns-then-byte_at-eq34 : goal.returns-then-byte_at-eq34
unfolding key_spans
returns-then-byte_at-eq34 c = rw (test_is c.byte_at.ensures c.if-byte_at-eq34.true)

pub returns-in-Broken : goal.returns-in-Broken
unfolding key_spans
returns-in-Broken c = rw (test_not c.byte_at.ensures c.if-byte_at-eq34.false) (ap (keys_spans c.args.at) (sym c.in-Broken.is ∙ c.read_keys.ensures))

pub returns-in-Keys : goal.returns-in-Keys
unfolding key_spans
returns-in-Keys c = rw (test_not c.byte_at.ensures c.if-byte_at-eq34.false) (ap (keys_spans c.args.at) (sym c.in-Keys.is ∙ c.read_keys.ensures))
